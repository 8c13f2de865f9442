-- `run`: each turn of the loop is a lemma of `Looping`.
use Rattle.engine.proofs.Looping.{so_far-first, so_far_on, so_far_stop}
use Rattle.engine.proofs.run.Goals as goal

pub loop-ending-init : goal.loop-ending-init
loop-ending-init c = so_far-first _ c.requires

pub returns-in-Break-clause-ran : goal.returns-in-Break-clause-ran
returns-in-Break-clause-ran c = so_far_stop c.loop-ending.invariant _ _ c.step.ensures.turned c.in-Break.is

pub loop-ending-preserved : goal.loop-ending-preserved
loop-ending-preserved c = so_far_on c.loop-ending.invariant _ _ c.step.ensures.turned c.in-Continue.is c.step.ensures.same
