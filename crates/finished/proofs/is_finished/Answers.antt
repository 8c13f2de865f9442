use Rattle.std.proofs.Common.{arith, refl, true, false}
use Rattle.items.proofs.Walking.{on_walk, walk_begins, walk_gave, walk_none, walk_same}
use Rattle.finished.proofs.FinishedSoFar.{finished-close, finished_deep, finished_end, finished-first, finished-not, finished_open, finished_operator, finished_token, finished_within}
use Rattle.finished.proofs.is_finished.Goals as goal

pub loop-piece-init : goal.loop-piece-init
loop-piece-init c =
    let w = walk_begins c.into_iter-piece-iterator.ensures.into_iter_gives c.over-piece-items.ensures in
    let first = finished-first refl c.requires in
    on_walk _ w.0 (rw w.1 first.ahead) (rw w.1 first)

pub returns-then-takes-blocks : goal.returns-then-takes-blocks
returns-then-takes-blocks c =
    let on = c.loop-piece.invariant in
    finished-not on.kept (walk_gave on c.in-Some.ensures.steps) c.in-Operator.is (omega (arith, c.if-takes-blocks.true, c.takes.ensures))

pub loop-piece-preserved-in-Operator : goal.loop-piece-preserved-in-Operator
loop-piece-preserved-in-Operator c =
    let on = c.loop-piece.invariant in
    let next = finished_operator on.kept (walk_gave on c.in-Some.ensures.steps) c.in-Operator.is (omega (arith, c.if-takes-blocks.false, c.takes.ensures)) in
    on_walk _ (walk_same on c.in-Some.ensures.steps) next.ahead next

pub loop-piece-preserved-in-Token : goal.loop-piece-preserved-in-Token
loop-piece-preserved-in-Token c =
    let on = c.loop-piece.invariant in
    let next = finished_token on.kept (walk_gave on c.in-Some.ensures.steps) c.in-Token.is in
    on_walk _ (walk_same on c.in-Some.ensures.steps) next.ahead next

pub bounds-second-deep : goal.bounds-second-deep
bounds-second-deep c =
    let on = c.loop-piece.invariant in
    finished_deep on.kept (walk_gave on c.in-Some.ensures.steps) c.in-Open.is

pub loop-piece-preserved-in-Open : goal.loop-piece-preserved-in-Open
loop-piece-preserved-in-Open c =
    let on = c.loop-piece.invariant in
    let next = finished_open on.kept (walk_gave on c.in-Some.ensures.steps) c.in-Open.is in
    on_walk _ (walk_same on c.in-Some.ensures.steps) next.ahead next

pub overflow_sub-deep : goal.overflow_sub-deep
overflow_sub-deep c =
    let on = c.loop-piece.invariant in
    (finished_within on.kept (walk_gave on c.in-Some.ensures.steps) c.in-Close.is).0

pub loop-piece-preserved-then-second-deep : goal.loop-piece-preserved-then-second-deep
loop-piece-preserved-then-second-deep c =
    let on = c.loop-piece.invariant in
    let next = finished-close on.kept (walk_gave on c.in-Some.ensures.steps) c.in-Close.is true c.if-second-deep.true in
    on_walk _ (walk_same on c.in-Some.ensures.steps) next.ahead next

pub loop-piece-preserved : goal.loop-piece-preserved
loop-piece-preserved c =
    let on = c.loop-piece.invariant in
    let next = finished-close on.kept (walk_gave on c.in-Some.ensures.steps) c.in-Close.is false c.if-second-deep.false in
    on_walk _ (walk_same on c.in-Some.ensures.steps) next.ahead next

pub returns : goal.returns
returns c =
    let on = c.loop-piece.invariant in
    finished_end on.kept (walk_none on c.in-None.ensures.steps.1.1)
