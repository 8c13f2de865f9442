-- `build_plan`: each turn puts the piece that the walk gave, and behind the last one the plan is ended.
use Rattle.std.proofs.Common.{◌∙◌}
use Rattle.items.proofs.Walking.{on_walk, walk_begins, walk_over, walk_piece, walk_same}
use Rattle.loader.proofs.BuildLoop.{onward_end, onward_on, onward-start, piece_ready, ready}
use Rattle.loader.proofs.build_plan.Goals as goal

pub loop-piece-init : goal.loop-piece-init
loop-piece-init c =
    let w = walk_begins c.into_iter-piece-iterator.ensures.into_iter_gives c.over-piece-items.ensures in
    let fresh = c.fresh-held.ensures in
    let start = onward-start c.args.text.now {p = c.requires.2.0} fresh.all_free c.requires.1 (rw fresh.same_cells c.requires.2.1) in
    on_walk _ w.0 (rw w.1 start.ahead) (rw w.1 start)

pub put_piece-requires : goal.put_piece-requires
put_piece-requires c =
    let on = c.loop-piece.invariant in
    piece_ready on.kept _ _ _ (walk_piece on c.in-Some.ensures.steps on.kept.ahead)

pub loop-piece-preserved : goal.loop-piece-preserved
loop-piece-preserved c =
    let on = c.loop-piece.invariant in
    let next = onward_on on.kept _ _ _ (walk_piece on c.in-Some.ensures.steps on.kept.ahead) c.put_piece.ensures in
    on_walk _ (walk_same on c.in-Some.ensures.steps) next.ahead next

pub end_plan-requires : goal.end_plan-requires
end_plan-requires c = ready c.loop-piece.invariant.kept

pub returns-clause-holds : goal.returns-clause-holds
returns-clause-holds c =
    let on = c.loop-piece.invariant in
    let o = on.kept in
    λ p h. onward_end o c.end_plan.ensures (walk_over on c.in-None.ensures.steps.1.1 o.ahead) p (rw (o.same.outer ∙ c.fresh-held.ensures.same_cells) h)
