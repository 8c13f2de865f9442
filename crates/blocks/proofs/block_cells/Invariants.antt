-- `block_cells`: the loop's invariant is `Counting`. The measure is how many ports are ahead.
use Rattle.std.proofs.Common.{length}
use Rattle.memory.specs.Held.{held_numbers}
use Rattle.blocks.proofs.Counting.{Counting}
use Rattle.blocks.proofs.Ways.{ahead}
use Rattle.blocks.proofs.block_cells.Given as goal

abbrev pub invariant-loop-end : goal.invariant-loop-end
invariant-loop-end l = Counting l.held l.end.0 l.initial.port.0 l.port.0 l.count

abbrev pub decreases-loop-end : goal.decreases-loop-end
decreases-loop-end l = length (ahead (held_numbers l.held) l.held.kept.outer.0 l.end.0 l.port.0)
