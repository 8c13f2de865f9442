-- `number_at`: the bytes are too few for a number, or end before its end; or its four bytes are those from the place on.
use Rattle.std.proofs.Common.{arith, ◌∙◌}
use Rattle.stored.proofs.Places.{number_at-cut, number_at-whole}
use Rattle.stored.proofs.number_at.Goals as goal

pub returns-in_err-last : goal.returns-in_err-last
returns-in_err-last c = c.from_residual.ensures ∙ number_at-cut _ _ (omega (arith, c.in_err-last.ensures))

pub returns-then-last-at : goal.returns-then-last-at
returns-then-last-at c = number_at-cut _ _ (omega (arith, c.in_ok-last.ensures.1))

pub returns : goal.returns
returns c = number_at-whole _ _ (omega (arith, c.in_ok-last.ensures)) _ c.from_le_bytes.ensures
