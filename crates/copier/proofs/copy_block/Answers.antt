-- `copy_block`: what stands in the memory before the loop is `Prepared`, and each turn is the lemma `walk_on`.
use Rattle.std.proofs.Common.{arith}
use Rattle.memory.proofs.Compared.{apart, met}
use Rattle.copier.proofs.CopyLoop.{block_small, block_start, copy_small, has_copy, port_low, prepared, walk_end, walk_first, walk_less, walk_like, walk_on, walk_ready}
use Rattle.copier.proofs.copy_block.Goals as goal

pub close-end-requires : goal.close-end-requires
close-end-requires c = block_small c.requires

pub begin_apart-requires : goal.begin_apart-requires
begin_apart-requires c = has_copy c.requires

pub start-requires : goal.start-requires
start-requires c = block_small c.requires

pub link_of-port-requires : goal.link_of-port-requires
link_of-port-requires c = block_start c.requires c.begin_apart.ensures c.start.ensures

pub loop-end-init : goal.loop-end-init
loop-end-init c =
    walk_first
    (prepared c.args.held.now c.args.block.0 c.begin_apart.new.held c.start.result c.close-end.result c.link_of-port.result
    c.begin_apart.ensures c.close-end.ensures c.start.ensures c.link_of-port.ensures)
    c.requires.copies

pub put_like-requires : goal.put_like-requires
put_like-requires c = walk_like c.loop-end.invariant (apart c.ne.ensures c.loop-end-test.true)

pub link_of-port-requires-in-loop-end : goal.link_of-port-requires-in-loop-end
link_of-port-requires-in-loop-end c =
    port_low c.loop-end.invariant (apart c.ne.ensures c.loop-end-test.true) c.put_like.ensures

pub loop-end-smaller : goal.loop-end-smaller
loop-end-smaller c =
    walk_less c.loop-end.invariant (apart c.ne.ensures c.loop-end-test.true) c.put_like.ensures _ c.link_of-port-in-loop-end.ensures

pub loop-end-preserved : goal.loop-end-preserved
loop-end-preserved c =
    walk_on c.loop-end.invariant (apart c.ne.ensures c.loop-end-test.true) c.put_like.ensures _ c.link_of-port-in-loop-end.ensures

pub close-requires : goal.close-requires
close-requires c = omega (arith, copy_small c.requires, c.loop-end.held.lent.few)

pub set_link-requires : goal.set_link-requires
set_link-requires c = (walk_ready c.loop-end.invariant).tail

pub returns-clause-made : goal.returns-clause-made
returns-clause-made c =
    walk_end
    (prepared c.args.held.now c.args.block.0 c.begin_apart.new.held c.start.result c.close-end.result c.link_of-port.result
    c.begin_apart.ensures c.close-end.ensures c.start.ensures c.link_of-port.ensures)
    c.loop-end.invariant (met c.ne.ensures c.loop-end-test.false) c.set_link.ensures c.close.ensures
