use Rattle.std.proofs.Common.{rules, arith}
use Rattle.memory.proofs.Compared.{apart, met}
use Rattle.memory.proofs.PrintWalk.{walk_first, walk_lent, walk_below, walk_less, walk_fits, walk_on, walk_end}
use Rattle.memory.proofs.HeldPlan.printed_length.Goals as goal

pub loop-end-init : goal.loop-end-init
loop-end-init c = search (rules, walk_first)

pub piece_at-requires : goal.piece_at-requires
piece_at-requires c =
    walk_lent _ _ _ _ _ _ _ _ c.loop-end.invariant _ c.close-end.ensures (apart c.ne.ensures c.loop-end-test.true)

pub overflow_add-length : goal.overflow_add-length
overflow_add-length c =
    let more = apart c.ne.ensures c.loop-end-test.true in
    omega (arith, walk_fits _ _ _ _ _ _ _ _ c.loop-end.invariant _ c.close-end.ensures more _ c.piece_at.ensures)

pub link_of-port-requires : goal.link_of-port-requires
link_of-port-requires c =
    walk_below _ _ _ _ _ _ _ _ c.loop-end.invariant _ c.close-end.ensures (apart c.ne.ensures c.loop-end-test.true)

pub loop-end-smaller : goal.loop-end-smaller
loop-end-smaller c =
    let more = apart c.ne.ensures c.loop-end-test.true in
    search (rules, walk_less)

pub loop-end-preserved : goal.loop-end-preserved
loop-end-preserved c =
    let more = apart c.ne.ensures c.loop-end-test.true in
    search (rules, walk_on)

pub returns : goal.returns
returns c =
    let ends = met c.ne.ensures c.loop-end-test.false in
    search (rules, walk_end)
