use Rattle.std.proofs.Common.{ap, arith, ◌∙◌}
use Rattle.items.proofs.Walking.{on_walk, walk_begins, walk_over, walk_piece, walk_same}
use Rattle.words_shelf.proofs.StandsFor.{linked_over, passed_stands, word_linked, word_reads}
use Rattle.words_measure.specs.Sizes.{size}
use Rattle.words_measure.proofs.MeasuredSoFar.{measured_first, measured_itself, measured_last, measured_lower, measured_word, word-noted}
use Rattle.words_measure.proofs.+measure_measure_word.Goals as goal
use Rattle.words_measure.proofs.+measure_measure_word.Goals.{measure-in-None-find_piece, measure-in-Some-find_piece}

pub measure-loop-piece-init : goal.measure-loop-piece-init
measure-loop-piece-init t c =
    let w = walk_begins c.into_iter-piece-iterator.ensures.into_iter_gives c.over-piece-items.ensures in
    let first = measured_first _ _ _ c.requires.reads c.requires.known in
    on_walk _ w.0 (rw w.1 first.so_far.ahead) (rw w.1 first)

pub measure-find_piece-requires : goal.measure-find_piece-requires
measure-find_piece-requires t c =
    let on = c.loop-piece.invariant in
    passed_stands (walk_piece on c.in-Some.ensures.steps on.kept.so_far.ahead)

pub measure-measure_word-size-requires : goal.measure-measure_word-size-requires
measure-measure_word-size-requires t c =
    let on = c.loop-piece.invariant in
    let here = walk_piece on c.in-Some.ensures.steps on.kept.so_far.ahead in
    let lower = measured_lower on.kept here c.find_piece.ensures c.in-Some-find_piece.is in
    (omega (arith, c.decreases, lower), (lower, (on.kept.known, omega (arith, c.loop-piece.auto.sizes, c.requires.long))))

pub measure-loop-piece-preserved : goal.measure-loop-piece-preserved
measure-loop-piece-preserved t c =
    let on = c.loop-piece.invariant in
    let here = walk_piece on c.in-Some.ensures.steps on.kept.so_far.ahead in
    let same = walk_same on c.in-Some.ensures.steps in
    let sum = c.plus-sum.ensures in
    elim c.match-find_piece.branch [
      | measure-in-None-find_piece w ↦
          let next = measured_itself on.kept here c.find_piece.ensures w.in-None-find_piece.is (λ t x is. w.size-is ∙ w.size_of-size.ensures t x is) (rw w.sizes-is on.kept.known) sum in
          on_walk _ same next.so_far.ahead next
      | measure-in-Some-find_piece w ↦
          let word = w.measure_word-size.ensures in
          let next = measured_word on.kept here c.find_piece.ensures w.in-Some-find_piece.is (w.size-is ∙ word.told) (rw w.sizes-is word.known) sum in
          on_walk _ same next.so_far.ahead next
    ]

pub measure-returns-clause-told : goal.measure-returns-clause-told
measure-returns-clause-told t c =
    let on = c.loop-piece.invariant in
    measured_last on.kept (linked_over on.kept.so_far (walk_over on c.in-None.ensures.steps.1.1 on.kept.so_far.ahead))

-- the word's text is measured by the words before it
pub measure_word-measure-size-requires : goal.measure_word-measure-size-requires
measure_word-measure-size-requires t c =
    let before = c.before-2.ensures in (
      omega (arith, c.decreases, before.below),
      (
        rw c.text_of.ensures (word_reads _ _ c.args.shelf.now.shelved _ c.requires.below),
        (rw (before.list, before.words) c.requires.known, omega (arith, before.below, c.requires.below, c.requires.long)),
      ),
    )

pub measure_word-returns-clause-told : goal.measure_word-returns-clause-told
measure_word-returns-clause-told t c =
    let before = c.before-2.ensures in
    c.measure-size.ensures.told ∙ ap size (word_linked before.list before.words before.below c.text_of.ensures)

pub measure_word-returns-clause-known : goal.measure_word-returns-clause-known
measure_word-returns-clause-known t c =
    let before = c.before-2.ensures in
    let known = rw (before.list, before.words) at c.measure-size.ensures.known in
    let is = c.measure-size.ensures.told ∙ ap size (word_linked before.list before.words before.below c.text_of.ensures) in
    word-noted _ _ _ _ (omega (arith, c.args.shelf.now.few)) is known
