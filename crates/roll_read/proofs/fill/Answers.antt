-- `fill`: each turn puts one place more.
use Rattle.std.proofs.Common.{rules, refl}
use Rattle.roll_read.proofs.Filling.{filled_end, filled-first, filled_on_to, filled-small}
use Rattle.roll_read.proofs.fill.Goals as goal

pub loop-place-init : goal.loop-place-init
loop-place-init c = filled-first c.requires

pub overflow_cast-place : goal.overflow_cast-place
overflow_cast-place c = let small = filled-small c.loop-place.invariant c.loop-place-test.true in search rules

pub loop-place-preserved : goal.loop-place-preserved
loop-place-preserved c = filled_on_to c.loop-place.invariant c.loop-place-test.true _ _ c.entry_at.ensures c.next_of-at.ensures _ refl

pub returns : goal.returns
returns c = filled_end c.loop-place.invariant c.loop-place-test.false
