-- `printed_length`: the loop's invariant is a `PrintWalk` that puts no byte, and each turn is its lemma `walk_on`. The measure is how
-- many ports are ahead.
use Rattle.std.proofs.Common.{length}
use Rattle.memory.specs.Pieces.{print_limit}
use Rattle.memory.proofs.PrintWalk.{ahead, PrintWalk}
use Rattle.memory.proofs.HeldPlan.printed_length.Given as goal

abbrev pub invariant-loop-end : goal.invariant-loop-end
invariant-loop-end l = PrintWalk 0 print_limit l.text l.self.numbers.now l.self.kept.outer.0 l.self.kept.first.0 l.port.0 l.length

abbrev pub decreases-loop-end : goal.decreases-loop-end
decreases-loop-end l = length (ahead l.self.numbers.now l.self.kept.outer.0 l.self.kept.first.0 l.port.0)
