-- `fill`: the loop's invariant is `FilledSoFar`.
use Rattle.roll_read.proofs.Filling.{FilledSoFar}
use Rattle.roll_read.proofs.fill.Given as goal

abbrev pub invariant-loop-place : goal.invariant-loop-place
invariant-loop-place l = FilledSoFar l.roll l.end l.initial.list l.list l.at l.place-index
