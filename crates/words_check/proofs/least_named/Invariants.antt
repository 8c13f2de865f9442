-- `least_named`: the loop's invariant is `LeastSoFar`.
use Rattle.items.proofs.Walking.{OnWalk}
use Rattle.words_check.proofs.Lowering.{LeastSoFar}
use Rattle.words_check.proofs.least_named.Given as goal

abbrev pub invariant-loop-piece : goal.invariant-loop-piece
invariant-loop-piece l =
    OnWalk l.text l.piece-iterator (LeastSoFar l.shelf.list.now l.shelf.words.now l.text l.rank l.shelf.below l.least l.piece-iterator.at)
