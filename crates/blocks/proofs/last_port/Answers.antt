-- `last_port`: each turn of the loop is a lemma of `LastPort`.
use Rattle.memory.proofs.Compared.{apart, met}
use Rattle.blocks.proofs.LastPort.{last-first, last-next_low, last_less, last_on, last_end}
use Rattle.blocks.proofs.last_port.Goals as goal

pub loop-port-init : goal.loop-port-init
loop-port-init c = last-first c.requires _ _ _ c.close-end.ensures c.start-port.ensures c.link_of-next.ensures

pub link_of-next-requires-in-loop-port : goal.link_of-next-requires-in-loop-port
link_of-next-requires-in-loop-port c = last-next_low c.loop-port.invariant (apart c.ne.ensures c.loop-port-test.true)

pub loop-port-smaller : goal.loop-port-smaller
loop-port-smaller c = last_less c.loop-port.invariant (apart c.ne.ensures c.loop-port-test.true) _ c.link_of-next-in-loop-port.ensures

pub loop-port-preserved : goal.loop-port-preserved
loop-port-preserved c = last_on c.loop-port.invariant (apart c.ne.ensures c.loop-port-test.true) _ c.link_of-next-in-loop-port.ensures

pub returns : goal.returns
returns c =
    last_end c.loop-port.invariant (met c.ne.ensures c.loop-port-test.false) _ c.close-end.ensures c.start-port.ensures c.link_of-next.ensures
