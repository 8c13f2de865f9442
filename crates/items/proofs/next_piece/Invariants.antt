-- `next_piece`: behind the marks the text shows the same pieces, and the byte there begins the first of them.
use Rattle.std.proofs.Common.{◌-◌, length}
use Rattle.items.proofs.Passing.{WalkSoFar}
use Rattle.items.proofs.next_piece.Given as goal

abbrev pub invariant-loop-at : goal.invariant-loop-at
invariant-loop-at l = WalkSoFar l.text l.initial.at l.at

abbrev pub decreases-loop-at : goal.decreases-loop-at
decreases-loop-at l = length l.text - l.at
