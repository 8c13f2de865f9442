-- `are_permitted`: the loop's invariant is `PermittedSoFar`. The measure is how many bytes are left.
use Rattle.std.proofs.Common.{◌-◌, length}
use Rattle.words_check.proofs.Names.{PermittedSoFar}
use Rattle.words_check.proofs.are_permitted.Given as goal

abbrev pub invariant-loop-at : goal.invariant-loop-at
invariant-loop-at l = PermittedSoFar l.name l.at

abbrev pub decreases-loop-at : goal.decreases-loop-at
decreases-loop-at l = length l.name - l.at
