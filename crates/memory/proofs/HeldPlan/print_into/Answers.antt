use Rattle.std.proofs.Common.{rules}
use Rattle.memory.proofs.Compared.{apart, met}
use Rattle.memory.proofs.Putting.{put_first, put_fits, put_on, put_last}
use Rattle.memory.proofs.PrintWalk.{walk_lent, walk_below, walk_less, walk_in_text}
use Rattle.memory.proofs.HeldPlan.print_into.Goals as goal

pub loop-end-init : goal.loop-end-init
loop-end-init c = search (rules, put_first)

pub piece_at-piece-requires : goal.piece_at-piece-requires
piece_at-piece-requires c =
    walk_lent _ _ _ _ _ _ _ _ c.loop-end.invariant.walk _ c.close-end.ensures (apart c.ne.ensures c.loop-end-test.true)

pub put_piece-requires : goal.put_piece-requires
put_piece-requires c =
    let more = apart c.ne.ensures c.loop-end-test.true in
    search (rules, walk_in_text, put_fits)

pub overflow_add-put : goal.overflow_add-put
overflow_add-put c =
    let more = apart c.ne.ensures c.loop-end-test.true in
    search (rules, put_fits)

pub link_of-port-requires : goal.link_of-port-requires
link_of-port-requires c =
    walk_below _ _ _ _ _ _ _ _ c.loop-end.invariant.walk _ c.close-end.ensures (apart c.ne.ensures c.loop-end-test.true)

pub loop-end-smaller : goal.loop-end-smaller
loop-end-smaller c =
    let more = apart c.ne.ensures c.loop-end-test.true in
    search (rules, walk_less)

pub loop-end-preserved : goal.loop-end-preserved
loop-end-preserved c =
    let more = apart c.ne.ensures c.loop-end-test.true in
    search (rules, put_on)

pub returns : goal.returns
returns c =
    let ends = met c.ne.ensures c.loop-end-test.false in
    search (rules, put_last)
