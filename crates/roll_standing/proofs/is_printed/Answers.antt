-- `is_printed`: what was asked tells whether the text is acceptable, and how long it is printed.
use Rattle.roll_standing.proofs.Texts.{printed-refused, printed_told}
use Rattle.roll_standing.proofs.is_printed.Goals as goal

pub returns-in-Ok : goal.returns-in-Ok
returns-in-Ok c = printed_told _ c.acceptance_of.ensures c.in-Ok.is

pub returns-in-Err : goal.returns-in-Err
returns-in-Err c = printed-refused _ c.acceptance_of.ensures c.in-Err.is
