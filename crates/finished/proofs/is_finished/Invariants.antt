-- `is_finished`: the loop's invariant is `FinishedSoFar`.
use Rattle.items.proofs.Walking.{OnWalk}
use Rattle.finished.proofs.FinishedSoFar.{FinishedSoFar}
use Rattle.finished.proofs.is_finished.Given as goal

abbrev pub invariant-loop-piece : goal.invariant-loop-piece
invariant-loop-piece l = OnWalk l.text l.piece-iterator (FinishedSoFar l.text l.piece-iterator.at l.blocks l.second l.deep)
