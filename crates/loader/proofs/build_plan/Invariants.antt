-- `build_plan`: the loop's invariant is `Onward`.
use Rattle.items.proofs.Walking.{OnWalk}
use Rattle.loader.proofs.BuildLoop.{Onward}
use Rattle.loader.proofs.build_plan.Given as goal

abbrev pub invariant-loop-piece : goal.invariant-loop-piece
invariant-loop-piece l = OnWalk l.text l.piece-iterator (Onward l.text l.initial.held l.held l.piece-iterator.at)
