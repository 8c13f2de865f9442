-- `free_block`: the loop's invariant is `Dropping`. The measure is how many ports are ahead.
use Rattle.std.proofs.Common.{length}
use Rattle.memory.specs.Held.{held_numbers}
use Rattle.blocks.proofs.Dropping.{Dropping}
use Rattle.blocks.proofs.Ways.{ahead}
use Rattle.blocks.proofs.free_block.Given as goal

abbrev pub invariant-loop-end : goal.invariant-loop-end
invariant-loop-end l = Dropping l.initial.held l.end.0 l.initial.at.0 l.held l.at.0

abbrev pub decreases-loop-end : goal.decreases-loop-end
decreases-loop-end l = length (ahead (held_numbers l.held) l.initial.held.kept.outer.0 l.end.0 l.at.0)
