-- `last_port`: the loop's invariant is `LastSoFar`. The measure is how many ports are ahead.
use Rattle.std.proofs.Common.{length}
use Rattle.blocks.proofs.LastPort.{LastSoFar, ports_ahead}
use Rattle.blocks.proofs.last_port.Given as goal

abbrev pub invariant-loop-port : goal.invariant-loop-port
invariant-loop-port l = LastSoFar l.held l.end.0 l.initial.port.0 l.initial.next.0 l.port.0 l.next.0

abbrev pub decreases-loop-port : goal.decreases-loop-port
decreases-loop-port l = length (ports_ahead l.held l.end.0 l.next.0)
