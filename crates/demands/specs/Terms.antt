-- The request's words for what a caller sees (the five numbers of an answer, and the bytes in the output) and for what a text
-- means. A plan here has no places: two plans are the same when their items are.
use Rattle.std.specs.Prelude.{ℕ, ◌<◌, ◌≤◌, ◌≡◌, List, length, take}
use Rattle.std.specs.Prelude.{Some}
use Rattle.kinds.specs.Limits.{cell_limit, standard}
use Rattle.rules.specs.declared.Ending.{Ending}
use Rattle.numbers.specs.declared.Numbers.{Numbers}
use Rattle.plan.specs.Plan.{Plan, bare, cells}
use Rattle.plan.specs.Reading.{ACCEPTED, accept}
use Rattle.rules.specs.Rewriting.{◌⟶◌, next}
use Rattle.rules.specs.Running.{Leads, RAN, run_plan}
use Rattle.answers.specs.Run.{quarter}

-- numbers of document 01's answer table
abbrev pub DONE : ℕ
DONE = 0

abbrev pub QUOTA : ℕ
QUOTA = 1

abbrev pub FULL : ℕ
FULL = 2

abbrev pub READ : ℕ
READ = 3

abbrev pub TOOLONG : ℕ
TOOLONG = 11

abbrev pub OVERFULL : ℕ
OVERFULL = 17

abbrev pub OUTSHORT : ℕ
OUTSHORT = 18

-- an answer with one of the numbers 0 to 3; then the five numbers of a refusal, where `refusal` says how the service tells its refusals
abbrev pub Unrefused : Numbers → Type 0
Unrefused told = told.number ≤ READ

abbrev pub IsRefusal : {R : Type 0} → (refusal : R → Numbers) → Numbers → Type 0
IsRefusal {R} refusal told = (x : R) × (told ≡ refusal x)

-- the text that a call saved: the output's first bytes, as many as the answer's length says
abbrev pub saved : Numbers → List ℕ → List ℕ
saved told out = take told.length out

-- the cells that a work memory lends: N
abbrev pub lent : List ℕ → ℕ
lent memory = quarter (length memory)

abbrev pub Bare : Type 0
Bare = Plan (Unit {0})

-- n cells may be lent; with n cells lent, the text is accepted and reads as the plan p
pub record Reads (n : ℕ) (text : List ℕ) (p : Bare) : Type 0 where
  pub within : n ≤ cell_limit
  pub placed : Plan ℕ
  pub accepted : accept standard n text ≡ ACCEPTED placed
  pub same : bare placed ≡ p

-- so many rewrites, in the fixed order, make q of the plan that the text reads as
pub record Rewritten (n : ℕ) (text : List ℕ) (steps : ℕ) (q : Bare) : Type 0 where
  pub plan : Bare
  pub reads : Reads n text plan
  pub leads : Leads steps plan q

-- the text reads as a plan; the run of that plan, with n cells and this quota, has this ending and so many steps, and leads to the plan q
pub record Ends (n quota : ℕ) (text : List ℕ) (e : Ending) (steps : ℕ) (q : Bare) : Type 0 where
  pub plan : Bare
  pub reads : Reads n text plan
  pub ran : run_plan n quota plan ≡ RAN e steps q

-- no rule applies anywhere in the plan
abbrev pub NoRuleApplies : Bare → Type 0
NoRuleApplies q = (q' : Bare) → q ⟶ q' → ⊥

-- there is a next rewrite, and its result has more than n cells; or, in the second definition, its result fits n cells
abbrev pub NextHasMoreThan : (n : ℕ) → Bare → Type 0
NextHasMoreThan n q = (q' : Bare) × (next q ≡ Some q') × (n < cells q')

abbrev pub NextFits : (n : ℕ) → Bare → Type 0
NextFits n q = (q' : Bare) × (next q ≡ Some q') × (cells q' ≤ n)
