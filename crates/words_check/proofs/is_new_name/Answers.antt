-- `is_new_name`: no name, or told by what was found among the words before.
use Rattle.std.proofs.Common.{sym, ◌∙◌}
use Rattle.words_check.proofs.Ranks.{new_told}
use Rattle.words_check.proofs.is_new_name.Goals as goal

pub returns-then-is_name : goal.returns-then-is_name
returns-then-is_name c = new_told _ _ _ _ c.find.ensures (sym c.is_name.ensures ∙ c.if-is_name.true) c.is_none.ensures
