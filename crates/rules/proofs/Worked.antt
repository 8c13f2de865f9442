-- Running by computing: `[]d` once. Whoever computes a run elsewhere writes `unfolding running`, which opens every word named here and those
-- of reading.
use mathlib.Core.Path.{◌≡◌, refl}
use Rattle.plan.specs.declared.Operator.TheVariants.{D}
use Rattle.plan.specs.Options.{◌else◌}
use Rattle.plan.specs.Plan.{end, operator, block}
use Rattle.plan.proofs.Worked.{reading}
use Rattle.rules.specs.Rewriting.{after_two, first_block, inner, next, leftmost}
use Rattle.rules.specs.Running.{RAN, ask, one_step_more, run_plan, turn}
use Rattle.rules.specs.declared.Ending.TheVariants.{Done}

unfoldable pub running : {L : Type 0} (l : L) → run_plan 2 1 (block l end (operator l D end)) ≡ RAN Done 1 end
unfolding reading run_plan turn ask one_step_more next leftmost inner first_block after_two ◌else◌
running l = refl
