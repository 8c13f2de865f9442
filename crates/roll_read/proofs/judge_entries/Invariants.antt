-- `judge_entries`: the loop's invariant is `JudgedSoFar`. The measure is what is left of the roll.
use Rattle.std.proofs.Common.{◌-◌, length}
use Rattle.roll_read.proofs.Judging.{JudgedSoFar}
use Rattle.roll_read.proofs.judge_entries.Given as goal

abbrev pub invariant-loop-next : goal.invariant-loop-next
invariant-loop-next l = JudgedSoFar l.roll l.sums

abbrev pub decreases-loop-next : goal.decreases-loop-next
decreases-loop-next l = length l.roll - l.sums.end
