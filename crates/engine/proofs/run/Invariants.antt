-- `run`: the loop's invariant is `RunSoFar`. The measure is what is left of the quota.
use Rattle.std.proofs.Common.{◌-◌}
use Rattle.engine.proofs.Looping.{RunSoFar}
use Rattle.engine.proofs.run.Given as goal

abbrev pub invariant-loop-ending : goal.invariant-loop-ending
invariant-loop-ending l = RunSoFar l.text l.initial.held l.initial.cells l.quota l.held l.cells l.steps

abbrev pub decreases-loop-ending : goal.decreases-loop-ending
decreases-loop-ending l = l.quota - l.steps
