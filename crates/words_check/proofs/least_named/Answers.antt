use Rattle.items.proofs.Walking.{on_walk, walk_begins, walk_over, walk_piece, walk_same}
use Rattle.words_check.proofs.Lowering.{least_first, least_last, least_on}
use Rattle.words_check.proofs.least_named.Goals as goal

pub loop-piece-init : goal.loop-piece-init
loop-piece-init c =
    let w = walk_begins c.into_iter-piece-iterator.ensures.into_iter_gives c.over-piece-items.ensures in
    let first = least_first _ _ _ _ c.requires in
    on_walk _ w.0 (rw w.1 first.ahead) (rw w.1 first)

pub loop-piece-preserved : goal.loop-piece-preserved
loop-piece-preserved c =
    let on = c.loop-piece.invariant in
    let here = walk_piece on c.in-Some.ensures.steps on.kept.ahead in
    let before = c.before-in-loop-piece.ensures in
    let next = least_on _ _ on.kept here (rw (before.list, before.words, before.below) at c.find_piece.ensures) c.lower-least.ensures in
    on_walk _ (walk_same on c.in-Some.ensures.steps) next.ahead next

pub returns : goal.returns
returns c =
    let on = c.loop-piece.invariant in
    least_last _ _ on.kept (walk_over on c.in-None.ensures.steps.1.1 on.kept.ahead)
