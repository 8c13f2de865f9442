-- `fields_of`: what stands before the second field, it, and what stands behind it are the line again.
use Rattle.std.proofs.Common.{rules}
use Rattle.lines.proofs.Cuts.{to_cut, from_cut}
use Rattle.lines.proofs.parts.fields_of.Goals as goal

pub returns-clause-again : goal.returns-clause-again
returns-clause-again c = let before = to_cut c.cut.ensures in let behind = from_cut c.cut-2.ensures in search rules
