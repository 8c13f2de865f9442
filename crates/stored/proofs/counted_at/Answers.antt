-- `counted_at`: the count is cut, or the bytes behind it, or they are whole.
use Rattle.std.proofs.Common.{rules, arith, sym, ◌∙◌}
use Rattle.stored.proofs.Places.{number_found, counted_at-cut, counted_at_short, counted_at-whole}
use Rattle.stored.proofs.counted_at.Goals as goal

pub returns-in_err-len : goal.returns-in_err-len
returns-in_err-len c = c.from_residual.ensures ∙ counted_at-cut _ _ (sym c.in_err-len.ensures)

pub overflow_add-from : goal.overflow_add-from
overflow_add-from c = let within = (number_found c.args.bytes.now c.args.at (sym c.in_ok-len.ensures)).0 in search rules

pub overflow_sub-bytes : goal.overflow_sub-bytes
overflow_sub-bytes c = omega (arith, (number_found c.args.bytes.now c.args.at (sym c.in_ok-len.ensures)).0)

pub returns-then-bytes-from : goal.returns-then-bytes-from
returns-then-bytes-from c = counted_at_short _ _ (sym c.in_ok-len.ensures) (omega arith)

pub returns : goal.returns
returns c = counted_at-whole _ _ (sym c.in_ok-len.ensures) (omega arith)
