-- `survey`: the outer loop knows that the bytes passed hold no fault and what was counted of them, the inner one that the
-- token's bytes so far are whole characters that it may hold. Both come nearer to the end of the text with each turn.
use Rattle.std.proofs.Common.{length, ◌-◌}
use Rattle.reader.proofs.SurveySoFar.{SurveySoFar}
use Rattle.reader.proofs.TokenSoFar.{TokenSoFar}
use Rattle.reader.proofs.survey.Given as goal

abbrev pub invariant-loop-width : goal.invariant-loop-width
invariant-loop-width l = TokenSoFar l.text l.room l.count l.at l.end

abbrev pub decreases-loop-width : goal.decreases-loop-width
decreases-loop-width l = length l.text - l.end

abbrev pub invariant-items : goal.invariant-items
invariant-items l = SurveySoFar l.text l.room l.count l.at

abbrev pub decreases-items : goal.decreases-items
decreases-items l = length l.text - l.at
