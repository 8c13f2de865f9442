use Rattle.std.proofs.Common.{refl, arith}
use Rattle.items.proofs.Walking.{on_walk, walk_begins, walk_over, walk_piece, walk_same}
use Rattle.words_shelf.proofs.StandsFor.{linked_over, passed_stands, word_linked}
use Rattle.words_write.proofs.WordWritten.{copied_behind, copied_fits, copied_placed, copied_word, text_writable_long, word_placed}
use Rattle.words_write.proofs.WrittenSoFar.{itself_fits, word_writable_long, written_all, written_behind, written_first_long, written_itself_long, written_word_long}
use Rattle.words_write.proofs.+write_text_write_word.Goals as goal

pub write_text-loop-piece-init : goal.write_text-loop-piece-init
write_text-loop-piece-init t c =
    let w = walk_begins c.into_iter-piece-iterator.ensures.into_iter_gives c.over-piece-items.ensures in
    let first = written_first_long c.requires in
    on_walk _ w.0 (rw w.1 first.written.so_far.ahead) (rw w.1 first)

pub write_text-find_piece-requires : goal.write_text-find_piece-requires
write_text-find_piece-requires t c =
    let on = c.loop-piece.invariant in
    passed_stands (walk_piece on c.in-Some.ensures.steps on.kept.written.so_far.ahead)

pub write_text-put_itself-end-requires : goal.write_text-put_itself-end-requires
write_text-put_itself-end-requires t c =
    let on = c.loop-piece.invariant in
    let here = walk_piece on c.in-Some.ensures.steps on.kept.written.so_far.ahead in
    itself_fits on.kept.written here c.find_piece.ensures c.in-None-find_piece.is

pub write_text-write_word-end-requires : goal.write_text-write_word-end-requires
write_text-write_word-end-requires t c =
    let on = c.loop-piece.invariant in
    let here = walk_piece on c.in-Some.ensures.steps on.kept.written.so_far.ahead in
    let word = word_writable_long on.kept here c.find_piece.ensures c.in-Some-find_piece.is in
    (omega (arith, c.decreases, word.writable.below), word)

pub write_text-loop-piece-preserved-in-None-find_piece : goal.write_text-loop-piece-preserved-in-None-find_piece
write_text-loop-piece-preserved-in-None-find_piece t c =
    let on = c.loop-piece.invariant in
    let here = walk_piece on c.in-Some.ensures.steps on.kept.written.so_far.ahead in
    let put = c.put_itself-end.ensures in
    let next = written_itself_long on.kept here c.find_piece.ensures c.in-None-find_piece.is refl put.behind put.written in
    on_walk _ (walk_same on c.in-Some.ensures.steps) next.written.so_far.ahead next

pub write_text-loop-piece-preserved : goal.write_text-loop-piece-preserved
write_text-loop-piece-preserved t c =
    let on = c.loop-piece.invariant in
    let here = walk_piece on c.in-Some.ensures.steps on.kept.written.so_far.ahead in
    let word = c.write_word-end.ensures in
    let next = written_word_long on.kept here c.find_piece.ensures c.in-Some-find_piece.is word.behind word.written word.placed word.as_long in
    on_walk _ (walk_same on c.in-Some.ensures.steps) next.written.so_far.ahead next

pub write_text-returns-clause-behind : goal.write_text-returns-clause-behind
write_text-returns-clause-behind t c =
    let on = c.loop-piece.invariant in
    written_behind on.kept.written (linked_over on.kept.written.so_far (walk_over on c.in-None.ensures.steps.1.1 on.kept.written.so_far.ahead))

pub write_text-returns-clause-written : goal.write_text-returns-clause-written
write_text-returns-clause-written t c =
    let on = c.loop-piece.invariant in
    written_all on.kept.written (linked_over on.kept.written.so_far (walk_over on c.in-None.ensures.steps.1.1 on.kept.written.so_far.ahead))

-- a word that stands in the output is copied
pub write_word-copy_on-requires : goal.write_word-copy_on-requires
write_word-copy_on-requires t c = copied_fits c.requires.writable _ (c.in-Some.ensures _ _ _ _ c.requires.writable.known c.requires.writable.placed)

pub write_word-returns-in-Some-clause-behind : goal.write_word-returns-in-Some-clause-behind
write_word-returns-in-Some-clause-behind t c =
    copied_behind c.requires.writable _ (c.in-Some.ensures _ _ _ _ c.requires.writable.known c.requires.writable.placed) c.copy_on.ensures.behind

pub write_word-returns-in-Some-clause-written : goal.write_word-returns-in-Some-clause-written
write_word-returns-in-Some-clause-written t c =
    copied_word c.requires.writable _ (c.in-Some.ensures _ _ _ _ c.requires.writable.known c.requires.writable.placed) c.copy_on.ensures.written

pub write_word-returns-in-Some-clause-placed : goal.write_word-returns-in-Some-clause-placed
write_word-returns-in-Some-clause-placed t c =
    let wrote = c.copy_on.ensures in
    copied_placed c.requires.writable _ (c.in-Some.ensures _ _ _ _ c.requires.writable.known c.requires.writable.placed) wrote.behind wrote.written

-- another is written by the words before it
pub write_word-write_text-end-requires : goal.write_word-write_text-end-requires
write_word-write_text-end-requires t c =
    let before = c.before-2.ensures in
    (omega (arith, c.decreases, before.below), rw (before.list, before.words, before.below, c.text_of.ensures) (text_writable_long c.requires c.args.shelf.now.shelved))

pub write_word-returns-clause-behind : goal.write_word-returns-clause-behind
write_word-returns-clause-behind t c =
    let before = c.before-2.ensures in
    rw (word_linked before.list before.words before.below c.text_of.ensures) at c.write_text-end.ensures.behind

pub write_word-returns-clause-written : goal.write_word-returns-clause-written
write_word-returns-clause-written t c =
    let before = c.before-2.ensures in
    rw (word_linked before.list before.words before.below c.text_of.ensures) at c.write_text-end.ensures.written

pub write_word-returns-clause-placed : goal.write_word-returns-clause-placed
write_word-returns-clause-placed t c =
    let before = c.before-2.ensures in
    let wrote = c.write_text-end.ensures in
    let linked = word_linked before.list before.words before.below c.text_of.ensures in
    let placed = rw (before.list, before.words) at wrote.placed in
    word_placed c.requires.writable _ (rw linked at wrote.behind) (rw linked at wrote.written) (omega (arith, c.args.shelf.now.few, c.requires.writable.below)) placed
