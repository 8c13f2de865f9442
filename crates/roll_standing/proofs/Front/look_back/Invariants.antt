-- `look_back`: the loop's invariant is `LookedBack`. The measure is how far the place is.
use Rattle.std.proofs.Common.{◌-◌}
use Rattle.roll_standing.proofs.LookedBack.{LookedBack}
use Rattle.roll_standing.proofs.Front.look_back.Given as goal

abbrev pub invariant-loop-at : goal.invariant-loop-at
invariant-loop-at l = LookedBack l.self.roll.now l.job l.self.upto l.at l.found

abbrev pub decreases-loop-at : goal.decreases-loop-at
decreases-loop-at l = l.self.upto - l.at
