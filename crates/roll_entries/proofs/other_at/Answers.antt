-- `other_at`: the sections are torn, or whole.
use Rattle.std.proofs.Common.{sym, ◌∙◌}
use Rattle.roll_entries.proofs.Told.{other_torn, other_whole}
use Rattle.roll_entries.proofs.other_at.Goals as goal

pub returns-in_err-next : goal.returns-in_err-next
returns-in_err-next c = c.from_residual.ensures ∙ other_torn _ _ _ (sym c.in_err-next.ensures)

pub returns : goal.returns
returns c = other_whole _ _ _ (sym c.in_ok-next.ensures)
