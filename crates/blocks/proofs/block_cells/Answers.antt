-- `block_cells`: what each call requires, and each turn of the loop, are the lemmas of `Counting`.
use Rattle.memory.proofs.Compared.{apart, met}
use Rattle.blocks.proofs.Counting.{block_small, block_low, count_first, count_low, count_less, count_start, count_close, count_end}
use Rattle.blocks.proofs.Starts.{is_close, is_start}
use Rattle.blocks.proofs.block_cells.Goals as goal
use Rattle.blocks.proofs.block_cells.Goals.{then-not-closes, else-not-closes}

pub close-end-requires : goal.close-end-requires
close-end-requires c = block_small c.requires

pub start-requires : goal.start-requires
start-requires c = block_small c.requires

pub link_of-port-requires : goal.link_of-port-requires
link_of-port-requires c = block_low c.requires _ c.start.ensures

pub loop-end-init : goal.loop-end-init
loop-end-init c = count_first c.requires _ _ _ c.close-end.ensures c.start.ensures c.link_of-port.ensures

pub link_of-port-requires-in-loop-end : goal.link_of-port-requires-in-loop-end
link_of-port-requires-in-loop-end c = count_low c.loop-end.invariant (apart c.ne.ensures c.loop-end-test.true)

pub loop-end-smaller : goal.loop-end-smaller
loop-end-smaller c = count_less c.loop-end.invariant (apart c.ne.ensures c.loop-end-test.true) _ c.link_of-port-in-loop-end.ensures

pub loop-end-preserved : goal.loop-end-preserved
loop-end-preserved c =
    let more = apart c.ne.ensures c.loop-end-test.true in
    elim c.if-not-closes.branch [
      | then-not-closes w ↦
          count_start c.loop-end.invariant more (is_start _ c.closes.ensures w.if-not-closes.true) _
          c.link_of-port-in-loop-end.ensures _ w.count-is
      | else-not-closes w ↦
          count_close c.loop-end.invariant more (is_close _ c.closes.ensures w.if-not-closes.false) _
          c.link_of-port-in-loop-end.ensures _ w.count-is
    ]

pub returns : goal.returns
returns c =
    count_end _ _ _ _ _ _ _ _ c.loop-end.invariant (met c.ne.ensures c.loop-end-test.false) c.close-end.ensures c.start.ensures
    c.link_of-port.ensures
