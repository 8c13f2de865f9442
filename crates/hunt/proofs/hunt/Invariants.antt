-- `hunt`: the loop's invariant is `Walking`. The measure is how many ports are ahead.
use Rattle.std.proofs.Common.{suc, length}
use Rattle.memory.specs.Held.{held_numbers}
use Rattle.blocks.proofs.Ways.{ahead}
use Rattle.hunt.proofs.HuntWalk.{Walking}
use Rattle.hunt.proofs.hunt.Given as goal

abbrev pub invariant-loop-end : goal.invariant-loop-end
invariant-loop-end l = Walking l.text l.held l.end.0 l.port.0

abbrev pub decreases-loop-end : goal.decreases-loop-end
decreases-loop-end l = length (ahead (held_numbers l.held) (suc l.held.kept.outer.0) l.end.0 l.port.0)
