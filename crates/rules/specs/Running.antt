-- A run with a quota and n cells: document 01, "RUN rewrites step by step".
use Rattle.std.specs.Prelude.{ℕ, zero, suc, ◌≡◌, cond, leb}
use Rattle.std.specs.Prelude.{Option, None, Some}
use Rattle.rules.specs.declared.Ending.{Ending}
use Rattle.rules.specs.declared.Ending.TheVariants.{Done, Quota, Full}
use Rattle.plan.specs.Plan.{Plan, cells}
use Rattle.rules.specs.Rewriting.{next}

-- what is asked before a step, except for the quota: the run ends, or goes on with the next plan
pub data Asked (L : Type 0) : Type 0 where
  ENDS : Ending → Asked L
  GOES_ON : Plan L → Asked L

unfoldable pub ask : {L : Type 0} → (n : ℕ) → Option (Plan L) → Asked L
ask n None = ENDS Done
ask n (Some q) = cond (leb (cells q) n) (GOES_ON q) (ENDS Full)

-- how a run ended, the rewrites it made and the plan they led to
pub data Ran (L : Type 0) : Type 0 where
  RAN : Ending → (steps : ℕ) → Plan L → Ran L

unfoldable pub turn : {L : Type 0} → Asked L → Plan L → (Plan L → Ran L) → Ran L
turn (ENDS e) p after = RAN e 0 p
turn (GOES_ON q) p after = after q

unfoldable pub one_step_more : {L : Type 0} → Ran L → Ran L
one_step_more (RAN e steps p) = RAN e (suc steps) p

-- Before each step: no ready operator, Done; the next result has more than n cells, Full; the quota is used up, Quota.
unfoldable pub run_plan : {L : Type 0} → (n quota : ℕ) → Plan L → Ran L
run_plan n zero p = turn (ask n (next p)) p (λ q. RAN Quota 0 p)
run_plan n (suc quota) p = turn (ask n (next p)) p (λ q. one_step_more (run_plan n quota q))

-- q is what so many rewrites in the fixed order make of p
abbrev pub Leads : {L : Type 0} → (steps : ℕ) → Plan L → Plan L → Type 0
Leads zero p q = p ≡ q
Leads {L} (suc steps) p q = (r : Plan L) × (next p ≡ Some r) × Leads steps r q
