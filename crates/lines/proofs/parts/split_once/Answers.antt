-- `split_once`: where the sign begins what is left of the text, the three parts are the text again.
use Rattle.std.proofs.Common.{rules}
use Rattle.std.proofs.lemmas.Bool.Decides.{Decides-eqb}
use Rattle.std.proofs.lemmas.Slice.Eq.{strip_prefix_is}
use Rattle.lines.proofs.parts.split_once.Goals as goal

pub returns-in-Some-clause-cut : goal.returns-in-Some-clause-cut
returns-in-Some-clause-cut c = let s = strip_prefix_is Decides-eqb c.split_at.result.1.now c.args.sign.now c.strip_prefix.result c.strip_prefix.ensures.cases in search rules
