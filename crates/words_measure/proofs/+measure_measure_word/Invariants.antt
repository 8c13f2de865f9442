-- `measure` and `measure_word`, which call each other. The loop's invariant is `MeasuredSoFar`. A call has the bound on ranks as its measure,
-- twice, and that of a word one more: a used word is below the bound, and its text has its rank for one.
use Rattle.std.proofs.Common.{◌+◌, ◌*◌}
use Rattle.items.proofs.Walking.{OnWalk}
use Rattle.words_measure.proofs.MeasuredSoFar.{MeasuredSoFar}
use Rattle.words_measure.proofs.+measure_measure_word.Given as goal

abbrev pub decreases-measure : goal.decreases-measure
decreases-measure l = 2 * l.shelf.now.below

abbrev pub decreases-measure_word : goal.decreases-measure_word
decreases-measure_word l = 2 * l.word + 1

abbrev pub invariant-measure-loop-piece : goal.invariant-measure-loop-piece
invariant-measure-loop-piece l =
    OnWalk l.text l.piece-iterator (MeasuredSoFar l.shelf.list.now l.shelf.words.now l.text l.shelf.below l.sizes l.sum l.piece-iterator.at)
