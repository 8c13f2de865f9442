-- `put_tidied`: the loop's invariant is `Tidying`.
use Rattle.items.proofs.Tidying.{Tidying}
use Rattle.items.proofs.Walking.{OnWalk}
use Rattle.items.proofs.tidy.put_tidied.Given as goal

abbrev pub invariant-loop-piece : goal.invariant-loop-piece
invariant-loop-piece l = OnWalk l.text l.piece-iterator (Tidying l.text l.initial.out l.from l.out l.piece-iterator.at l.put)
