-- `hunt`: what each call requires, and each turn of the loop, are the lemmas of `HuntWalk`.
use Rattle.memory.proofs.Compared.{apart, met}
use Rattle.hunt.proofs.HuntWalk.{from_small, hunt_first, hunt_low, hunt_less, hunt_on, hunt_scannable, hunt_found, hunt_past, hunt_none}
use Rattle.hunt.proofs.hunt.Goals as goal
use Rattle.hunt.proofs.hunt.Goals.{then-block_opens+in_default, else-block_opens}

pub start-port-requires : goal.start-port-requires
start-port-requires c = from_small c.requires

pub loop-end-init : goal.loop-end-init
loop-end-init c = hunt_first c.requires _ _ c.close-end.ensures c.start-port.ensures

pub block_opens-requires : goal.block_opens-requires
block_opens-requires c = hunt_low c.loop-end.invariant (apart c.ne.ensures c.loop-end-test.true)

pub scan-requires : goal.scan-requires
scan-requires c =
    hunt_scannable c.loop-end.invariant (apart c.ne.ensures c.loop-end-test.true) _ c.block_opens.ensures c.if-block_opens.true c.cell.ensures

pub returns-in-Some : goal.returns-in-Some
returns-in-Some c =
    hunt_found c.loop-end.invariant (apart c.ne.ensures c.loop-end-test.true) _ c.block_opens.ensures c.if-block_opens.true c.cell.ensures _
    c.scan.ensures _ c.in-Some.is

pub link_of-port-requires : goal.link_of-port-requires
link_of-port-requires c = hunt_low c.loop-end.invariant (apart c.ne.ensures c.loop-end-test.true)

pub loop-end-smaller : goal.loop-end-smaller
loop-end-smaller c = hunt_less c.loop-end.invariant (apart c.ne.ensures c.loop-end-test.true) _ c.link_of-port.ensures

pub loop-end-preserved : goal.loop-end-preserved
loop-end-preserved c =
    let more = apart c.ne.ensures c.loop-end-test.true in
    elim c.if-block_opens.branch [
      | then-block_opens+in_default w ↦
          hunt_past c.loop-end.invariant more _ c.block_opens.ensures w.if-block_opens.true w.cell.ensures _ w.scan.ensures
          w.in_default.is _ c.link_of-port.ensures
      | else-block_opens w ↦
          hunt_on c.loop-end.invariant more _ c.block_opens.ensures w.if-block_opens.false _ c.link_of-port.ensures
    ]

pub returns : goal.returns
returns c = hunt_none c.loop-end.invariant (met c.ne.ensures c.loop-end-test.false)
