-- `scan`: the loop's invariant is `Scanning`. The measure is how many ports are ahead.
use Rattle.std.proofs.Common.{length}
use Rattle.memory.specs.Held.{held_numbers}
use Rattle.blocks.proofs.Ways.{ahead}
use Rattle.hunt.proofs.Scanning.{Scanning}
use Rattle.hunt.proofs.scan.Given as goal

abbrev pub invariant-loop-end : goal.invariant-loop-end
invariant-loop-end l = Scanning l.text l.held.numbers.now l.held.kept.outer.0 l.held.kept.first.0 l.end.0 l.last.0 l.second.0 l.third.0 l.at.0

abbrev pub decreases-loop-end : goal.decreases-loop-end
decreases-loop-end l = length (ahead (held_numbers l.held) l.held.kept.outer.0 l.end.0 l.at.0)
