-- A run cut into slots, each with a quota of its own. The first slot reads the run's text. Every other slot reads the text that the slot
-- before it saved. Demand 3 compares the slots with the whole run.
use Rattle.std.specs.Prelude.{ℕ, ◌+◌, List, [], ◌∷◌}
use Rattle.kinds.specs.Limits.{Limits}
use Rattle.plan.specs.Outcomes.{Outcome, REFUSES, GIVES}
use Rattle.answers.specs.declared.RunRefusal.{RunRefusal}
use Rattle.answers.specs.Run.{HowRan, run_outcome}

unfoldable pub total : ℕ → List ℕ → ℕ
total quota [] = quota
total quota (q ∷ quotas) = quota + total q quotas

-- what the last slot tells, with the steps of the earlier ones added
unfoldable pub after : (before : ℕ) → Outcome RunRefusal HowRan → Outcome RunRefusal HowRan
after before (REFUSES r) = REFUSES r
after before (GIVES how cells text) = GIVES (record { ending = how.ending; steps = before + how.steps }) cells text

unfoldable pub next_slot : Outcome RunRefusal HowRan → (List ℕ → Outcome RunRefusal HowRan) → Outcome RunRefusal HowRan
next_slot (REFUSES r) rest = REFUSES r
next_slot (GIVES how cells saved) rest = after how.steps (rest saved)

unfoldable pub slots : Limits → (n quota : ℕ) → List ℕ → (text : List ℕ) → Outcome RunRefusal HowRan
slots lim n quota [] text = run_outcome lim n quota text
slots lim n quota (q ∷ quotas) text = next_slot (run_outcome lim n quota text) (λ saved. slots lim n q quotas saved)
