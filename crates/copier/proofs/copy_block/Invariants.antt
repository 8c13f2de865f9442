-- `copy_block`: before the loop the first free cell is made a block; each turn puts the like of one port of the contents, and
-- the measure is how many ports are ahead.
use Rattle.std.proofs.Common.{length, ◌*◌}
use Rattle.memory.specs.Held.{held_numbers}
use Rattle.memory.proofs.Along.{along}
use Rattle.copier.proofs.CopyLoop.{CopyLoop}
use Rattle.copier.proofs.copy_block.Given as goal

abbrev pub invariant-loop-end : goal.invariant-loop-end
invariant-loop-end l = CopyLoop l.text l.fn.held l.copy l.initial.held l.end.0 l.initial.port.0 l.held l.port.0

abbrev pub decreases-loop-end : goal.decreases-loop-end
decreases-loop-end l = length (along (held_numbers l.initial.held) l.end.0 (2 * l.fn.held.kept.outer.0) l.port.0)
