use Rattle.items.proofs.Tidying.{tidy_first, tidy_in_text, tidy_last, tidy_on, tidy_room}
use Rattle.items.proofs.Walking.{on_walk, walk_begins, walk_over, walk_piece, walk_same}
use Rattle.items.proofs.tidy.put_tidied.Goals as goal

pub loop-piece-init : goal.loop-piece-init
loop-piece-init c =
    let w = walk_begins c.into_iter-piece-iterator.ensures.into_iter_gives c.over-piece-items.ensures in
    let first = tidy_first c.requires in
    on_walk _ w.0 (rw w.1 first.ahead) (rw w.1 first)

pub put_piece-requires : goal.put_piece-requires
put_piece-requires c =
    let on = c.loop-piece.invariant in
    let here = walk_piece on c.in-Some.ensures.steps on.kept.ahead in
    (tidy_in_text on.kept _ _ _ here, tidy_room on.kept _ _ _ here)

pub loop-piece-preserved : goal.loop-piece-preserved
loop-piece-preserved c =
    let on = c.loop-piece.invariant in
    let here = walk_piece on c.in-Some.ensures.steps on.kept.ahead in
    let next = tidy_on on.kept _ _ _ here _ c.put_piece.ensures _ c.length.ensures in
    on_walk _ (walk_same on c.in-Some.ensures.steps) next.ahead next

pub returns : goal.returns
returns c =
    let on = c.loop-piece.invariant in
    tidy_last on.kept (walk_over on c.in-None.ensures.steps.1.1 on.kept.ahead)
