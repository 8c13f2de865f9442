-- `write_text` and `write_word`, which call each other. The loop's invariant is `WrittenSoFarLong`. A call has the bound on ranks as its measure,
-- twice, and that of a word one more: a used word is below the bound, and its text has its rank for one.
use Rattle.std.proofs.Common.{◌+◌, ◌*◌}
use Rattle.items.proofs.Walking.{OnWalk}
use Rattle.words_write.proofs.WrittenSoFar.{WrittenSoFarLong}
use Rattle.words_write.proofs.+write_text_write_word.Given as goal

abbrev pub decreases-write_text : goal.decreases-write_text
decreases-write_text l = 2 * l.shelf.now.below

abbrev pub decreases-write_word : goal.decreases-write_word
decreases-write_word l = 2 * l.word + 1

abbrev pub invariant-write_text-loop-piece : goal.invariant-write_text-loop-piece
invariant-write_text-loop-piece l =
    OnWalk l.text l.piece-iterator
    (WrittenSoFarLong l.shelf.list.now l.shelf.words.now l.text l.shelf.below l.sizes l.initial.out l.put l.places l.out l.end l.piece-iterator.at)
