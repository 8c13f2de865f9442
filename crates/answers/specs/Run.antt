-- What RUN answers and what it leaves, for every input: document 01, "The three services".
use Rattle.std.specs.Prelude.{ℕ, ◌/◌, ◌≤◌, ◌<◌, cond, List, length, ltb, Result, Ok, Err}
use Rattle.kinds.specs.Limits.{Limits, cell_numbers}
use Rattle.numbers.specs.declared.Numbers.{Numbers}
use Rattle.plan.specs.declared.TextFault.TheVariants.{TooLong}
use Rattle.plan.specs.declared.Unread.{Unread}
use Rattle.plan.specs.declared.Unread.TheVariants.{Text}
use Rattle.numbers.specs.Numbers.{outshort_numbers, refused_numbers, unread_numbers}
use Rattle.plan.specs.Outcomes.{Family, GIVES, Outcome, REFUSES}
use Rattle.plan.specs.Plan.{cells, print}
use Rattle.plan.specs.Reading.{ACCEPTED, Acceptance, UNREAD, read}
use Rattle.plan.specs.Refusals.{Row}
use Rattle.rules.specs.declared.Ending.{Ending}
use Rattle.rules.specs.declared.Ending.TheVariants.{Done, Quota, Full}
use Rattle.rules.specs.Running.{Ran as Run, RAN, run_plan}
use Rattle.answers.specs.declared.Ran.{Ran}
use Rattle.answers.specs.declared.RunRefusal.{RunRefusal}
use Rattle.answers.specs.declared.RunRefusal.TheVariants.{BadArena, NotRead, OutShort}

abbrev pub ending_number : Ending → ℕ
ending_number Done = 0
ending_number Quota = 1
ending_number Full = 2

abbrev pub run_refusal_numbers : RunRefusal → Numbers
run_refusal_numbers BadArena = refused_numbers 12 0
run_refusal_numbers (NotRead u) = unread_numbers u
run_refusal_numbers (OutShort needed) = outshort_numbers needed

-- What RUN answers. A refusal carries no steps, no cells and no length: it has none.
abbrev pub RunAnswer : Type 0
RunAnswer = Result Ran RunRefusal

abbrev pub ran : Ending → (steps cells length : ℕ) → Ran
ran ending steps cells length = record { ending = ending; steps = steps; cells = cells; length = length }

abbrev pub ran_numbers : Ran → Numbers
ran_numbers r =
    record { number = ending_number r.ending; steps = r.steps; cells = r.cells; length = r.length; place = 0 }

abbrev pub run_numbers : RunAnswer → Numbers
run_numbers (Ok r) = ran_numbers r
run_numbers (Err r) = run_refusal_numbers r

-- what RUN tells beside a text: how the run ended, and the rewrites it made
pub record HowRan : Type 0 where
  pub ending : Ending
  pub steps : ℕ

abbrev pub run_family : Family RunRefusal HowRan Ran
run_family = record { out_short = OutShort; given = λ how cells length. ran how.ending how.steps cells length }

unfoldable pub as_run : {L : Type 0} → Run L → Outcome RunRefusal HowRan
as_run (RAN e steps p) = GIVES (record { ending = e; steps = steps }) (cells p) (print p)

unfoldable pub run_read : (n quota : ℕ) → Acceptance → Outcome RunRefusal HowRan
run_read n quota (UNREAD u) = REFUSES (NotRead u)
run_read n quota (ACCEPTED p) = as_run (run_plan n quota p)

-- RUN before its output is looked at, where n cells are lent. The order is 11, 12, then 13 to 17, with 21 to 25 in place of 14
unfoldable pub run_outcome : Limits → (n quota : ℕ) → List ℕ → Outcome RunRefusal HowRan
run_outcome lim n quota text =
    cond (ltb lim.text (length text)) (REFUSES (NotRead (Text TooLong)))
    (cond (ltb lim.cells n) (REFUSES BadArena) (run_read n quota (read lim.token n text)))

-- the rows 11 and 12 of the table stand before those of the text's bytes
pub data Refuses (lim : Limits) (n : ℕ) (text : List ℕ) : RunRefusal → Type 0 where
  text_too_long : lim.text < length text → Refuses lim n text (NotRead (Text TooLong))
  bad_arena : length text ≤ lim.text → lim.cells < n → Refuses lim n text BadArena
  text_refused : {u : Unread} → length text ≤ lim.text → n ≤ lim.cells → Row lim.token n text u → Refuses lim n text (NotRead u)

-- Only the length of the work memory counts. A quarter of it, rounded down, is the number of cells.
abbrev pub quarter : (memory_length : ℕ) → ℕ
quarter memory_length = memory_length / cell_numbers
