-- `two_counted_at`: the first or the second is cut, or both are whole.
use Rattle.std.proofs.Common.{rules, ap, sym, ◌∙◌}
use Rattle.stored.specs.Places.{counted_at}
use Rattle.stored.proofs.Pairs.{two_counted_at-cut, two_counted_at_short, two_counted_at-whole}
use Rattle.stored.proofs.Places.{counted_found}
use Rattle.stored.proofs.two_counted_at.Goals as goal

pub returns-in_err-first : goal.returns-in_err-first
returns-in_err-first c = c.from_residual.ensures ∙ two_counted_at-cut _ _ (sym c.in_err-first.ensures)

pub end-requires : goal.end-requires
end-requires c = let within = (counted_found c.args.bytes.now c.args.at (sym c.in_ok-first.ensures)).within in search rules

pub returns-in_err-second : goal.returns-in_err-second
returns-in_err-second c = c.from_residual-in_err-second.ensures ∙ two_counted_at_short _ _ (sym c.in_ok-first.ensures) (sym (c.in_err-second.ensures ∙ ap (counted_at c.args.bytes.now) c.end.ensures))

pub returns : goal.returns
returns c = two_counted_at-whole _ _ (sym c.in_ok-first.ensures) (sym (c.in_ok-second.ensures ∙ ap (counted_at c.args.bytes.now) c.end.ensures))
