-- `print_into`: the loop's invariant is `Putting`, a walk with what it has put, and each turn is its lemma `put_on`. The measure is
-- how many ports are ahead.
use Rattle.std.proofs.Common.{length}
use Rattle.memory.proofs.PrintWalk.{ahead}
use Rattle.memory.proofs.Putting.{Putting}
use Rattle.memory.proofs.HeldPlan.print_into.Given as goal

abbrev pub invariant-loop-end : goal.invariant-loop-end
invariant-loop-end l = Putting l.text l.self.numbers.now l.initial.out l.from l.out l.self.kept.outer.0 l.self.kept.first.0 l.port.0 l.put

abbrev pub decreases-loop-end : goal.decreases-loop-end
decreases-loop-end l = length (ahead l.self.numbers.now l.self.kept.outer.0 l.self.kept.first.0 l.port.0)
