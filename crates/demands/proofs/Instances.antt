-- No word that the demands are stated in is empty: an instance of each, on calls of document 01's plans. With a word that nothing meets,
-- the theorems about it would hold and say nothing.
use Prim.Native.Nat.{ℕ, ◌*◌}
use mathlib.Core.Path.{◌≡◌, refl}
use mathlib.Core.Logic.{◌≢◌}
use mathlib.Core.Bool.{true, false}
use mathlib.Core.List.{List, [], ◌∷◌, ◌++◌}
use native.Mathlib.Omega.{arith}
use lib.ListN.{length, replicate}
use Rattle.std.specs.Prelude.{Ok, Err}
use Rattle.kinds.specs.Limits.{cell_numbers, standard}
use Rattle.kinds.proofs.Tests.{never}
use Rattle.plan.specs.declared.ReadRefusal.TheVariants.{NotRead, OutShort as PastOutput}
use Rattle.rules.specs.declared.Ending.{Ending}
use Rattle.rules.specs.declared.Ending.TheVariants.{Done, Quota, Full}
use Rattle.plan.specs.declared.Operator.TheVariants.{D}
use Rattle.plan.specs.declared.Unread.TheVariants.{Text}
use Rattle.plan.specs.declared.TextFault.TheVariants.{Unclosed}
use Rattle.plan.specs.Plan.{Plan, WithoutC, end, operator, token, block, bare, relabel}
use Rattle.plan.specs.Reading.{HoldsAnnotation, OUTSIDE, enter, leave, place, without_marks}
use Rattle.plan.specs.Outcomes.{GIVES}
use Rattle.plan.specs.Read.{acceptable, sized}
use Rattle.plan.proofs.Worked.{reading}
use Rattle.answers.specs.declared.RunRefusal.TheVariants.{NotRead as RunNotRead, OutShort}
use Rattle.answers.specs.Run.{RunAnswer, ran, run_numbers, run_refusal_numbers}
use Rattle.answers.specs.Slots.{after, next_slot, slots, total}
use Rattle.answers.proofs.Worked.{worked_plans}
use Rattle.numbers.specs.Rows.{bytes}
use Rattle.read.specs.Calls.{ReadsOut}
use Rattle.run.specs.Calls.{Runs}
use Rattle.turnip.specs.Arrays.{InArray, five_of}
use Rattle.demands.specs.Demanded.{AsDemanded}
use Rattle.demands.specs.Slots.{Slot, Slots, first_slot, only_slot}
use Rattle.demands.specs.Table.{ReadRefuses, RunRefuses}
use Rattle.demands.specs.Terms.{Bare, DONE, Ends, IsRefusal, NextFits, NextHasMoreThan, NoRuleApplies, OUTSHORT, Reads, Rewritten, Unrefused, saved}
use Rattle.demands.proofs.Answered.{read-refused, run_refused}
use Rattle.demands.proofs.Cases.{run_ended}
use Rattle.demands.proofs.Endings.{done_exactly_when, full_exactly_when, quota_exactly_when, reads_rewrites_prints}
use Rattle.demands.proofs.OneAnswer.{run_as_demanded}

-- P6 as a whole run and as two slots, the second of which begins with P7's text; `[{x}]c` with its own three cells; a block left open;
-- and P6, and the empty plan, with no output
abbrev p6 : List ℕ
p6 = bytes "[{x}][{y}][]ba"

abbrev p7 : List ℕ
p7 = bytes "[{x}][[{y}]]a"

abbrev ended : List ℕ
ended = bytes "[{y}][{x}]"

-- a text with marks
abbrev spaced : List ℕ
spaced = bytes "[ {x}]{&j}"

-- any numbers, as many as so many cells have
abbrev memory : (lent : ℕ) → List ℕ
memory n = replicate (cell_numbers * n) 7

abbrev zeroed : (lent : ℕ) → List ℕ
zeroed n = replicate (cell_numbers * n) 0

abbrev out : List ℕ
out = replicate 16 7

pub calls : Runs p6 2 (memory 7) out (Ok (ran Done 2 4 10)) (zeroed 7) (ended ++ replicate 6 7)
    × Runs p6 1 (memory 7) out (Ok (ran Quota 1 6 13)) (zeroed 7) (p7 ++ replicate 3 7)
    × Runs p7 1 (memory 7) out (Ok (ran Done 1 4 10)) (zeroed 7) (ended ++ replicate 6 7)
    × Runs (bytes "[{x}]c") 9 (memory 3) out (Ok (ran Full 0 3 6)) (zeroed 3) (bytes "[{x}]c" ++ replicate 10 7)
    × Runs (bytes "[") 9 (memory 7) out (Err (RunNotRead (Text (Unclosed (place 1))))) (zeroed 7) out
    × Runs p6 2 (memory 7) [] (Err (OutShort 10)) (zeroed 7) []
    × (slots standard 7 1 (1 ∷ []) p6 ≡ GIVES (record { ending = Done; steps = 2 }) 4 ended)
    × ReadsOut (bytes "[") out (Err (NotRead (Text (Unclosed (place 1))))) out × ReadsOut p6 [] (Err (PastOutput 14)) []
    × ReadsOut (bytes "{&j}") [] (Ok (sized 0 0)) [] × ReadsOut spaced out (Ok (sized 2 5)) (bytes "[{x}]" ++ replicate 11 7)
unfolding worked_plans slots next_slot after
calls = (
  record { wrote = record { answer = refl; output = refl }; zeroed = refl },
  record { wrote = record { answer = refl; output = refl }; zeroed = refl },
  record { wrote = record { answer = refl; output = refl }; zeroed = refl },
  record { wrote = record { answer = refl; output = refl }; zeroed = refl },
  record { wrote = record { answer = refl; output = refl }; zeroed = refl },
  record { wrote = record { answer = refl; output = refl }; zeroed = refl },
  refl,
  record { wrote = record { answer = refl; output = refl } },
  record { wrote = record { answer = refl; output = refl } },
  record { wrote = record { answer = refl; output = refl } },
  record { wrote = record { answer = refl; output = refl } },
)

-- `HoldsAnnotation`, of a text that runs, and that text without its marks
abbrev annotated : List ℕ
annotated = bytes "[{x}][{y}]{&jit}a"

pub an_annotated_run : HoldsAnnotation annotated × Runs annotated 1 (memory 7) out (Ok (ran Done 1 3 8)) (zeroed 7) (bytes "{y}[{x}]" ++ replicate 8 7)
    × (without_marks OUTSIDE annotated ≡ bytes "[{x}][{y}]a")
unfolding calls without_marks enter leave
an_annotated_run = ((bytes "[{x}][{y}]", bytes "jit}a", refl), record { wrote = record { answer = refl; output = refl }; zeroed = refl }, refl)

-- `Unrefused`, `Rewritten` (with `Reads` and `Leads` in it), and why a run ends: no rule applies, the next result fits, or it does not
pub a_done_run : Unrefused (run_numbers (Ok (ran Done 2 4 10))) × ((q : Bare) × Rewritten 7 p6 2 q × NoRuleApplies q)
a_done_run =
    let u : Unrefused (run_numbers (Ok (ran Done 2 4 10))) = omega arith in
    let made = reads_rewrites_prints calls.0 u in
    (u, (made.0, made.1, (done_exactly_when calls.0 u made.1).0 refl))

pub a_quota_run : Unrefused (run_numbers (Ok (ran Quota 1 6 13))) × ((q : Bare) × Rewritten 7 p6 1 q × NextFits 7 q)
a_quota_run =
    let u : Unrefused (run_numbers (Ok (ran Quota 1 6 13))) = omega arith in
    let made = reads_rewrites_prints calls.1 u in
    (u, (made.0, made.1, (quota_exactly_when calls.1 u made.1).0 refl))

pub a_full_run : Unrefused (run_numbers (Ok (ran Full 0 3 6))) × ((q : Bare) × Rewritten 3 (bytes "[{x}]c") 0 q × NextHasMoreThan 3 q)
a_full_run =
    let u : Unrefused (run_numbers (Ok (ran Full 0 3 6))) = omega arith in
    let made = reads_rewrites_prints calls.3 u in
    (u, (made.0, made.1, (full_exactly_when calls.3 u made.1).0 refl))

-- `Ends` and demand 2 as one statement
pub an_end : (e : Ending) × (steps : ℕ) × (q : Bare) × Ends 7 2 p6 e steps q
an_end = let run = run_ended calls.0 a_done_run.0 in (run.ending, run.steps, run.result, run.ends)

pub as_demanded : AsDemanded 7 2 p6 DONE 2 ended
unfolding bytes
as_demanded = run_as_demanded calls.0 a_done_run.0

-- refusals, by both rows of `RunRefuses` and of `ReadRefuses`
pub a_refusal : IsRefusal run_refusal_numbers (run_numbers (Err (OutShort 10))) × (Unrefused (run_numbers (Err (OutShort 10))) → ⊥)
a_refusal = ((OutShort 10, refl), λ u. omega arith)

pub refused_runs : RunRefuses 7 9 (bytes "[") out (RunNotRead (Text (Unclosed (place 1)))) × RunRefuses 7 2 p6 [] (OutShort 10)
refused_runs = ((run_refused calls.4 (RunNotRead (Text (Unclosed (place 1))))).1 refl, (run_refused calls.5 (OutShort 10)).1 refl)

pub refused_readings : ReadRefuses (bytes "[") out (NotRead (Text (Unclosed (place 1)))) × ReadRefuses p6 [] (PastOutput 14)
refused_readings = ((read-refused calls.7 (NotRead (Text (Unclosed (place 1))))).1 refl, (read-refused calls.8 (PastOutput 14)).1 refl)

-- acceptable texts, and one that is not
pub acceptable_and_not : (acceptable standard p6 ≡ true) × (acceptable standard spaced ≡ true) × (acceptable standard (bytes "[") ≡ false)
unfolding calls
acceptable_and_not = (refl, refl, refl)

-- P6 in two slots of quota 1, which are its quota of 2
slot : {text : List ℕ} {quota : ℕ} {r : RunAnswer} {out' : List ℕ} → Runs text quota (memory 7) out r (zeroed 7) out'
    → (run_numbers r).number ≢ OUTSHORT → Slot (length (memory 7)) text quota r (saved (run_numbers r) out')
slot call enough =
    record {
      memory = memory 7;
      out = out;
      memory' = zeroed 7;
      out' = _;
      call = call;
      equal_memory = refl;
      output_long_enough = enough;
      saves = refl;
    }

pub two-slots : Slots (length (memory 7)) p6 1 (1 ∷ []) 2 (Ok (ran Done 1 4 10)) ended × (total 1 (1 ∷ []) ≡ 2)
unfolding bytes total
two-slots = (first_slot (slot calls.1 (λ e. absurd (omega arith))) (only_slot (slot calls.2 (λ e. absurd (omega arith)))), refl)

-- P5 is a plan without c
pub a_plan_without_c : (p : Bare) × Reads 3 (bytes "[{x}]d") p × WithoutC p
unfolding reading bytes relabel
a_plan_without_c =
    let placed : Plan ℕ = block 0 (token 1 (bytes "x") end) (operator 5 D end) in
    (bare placed, record { within = omega arith; placed = placed; accepted = refl; same = refl }, (tt, (λ e. never cc, tt)))

-- and five numbers stored over the C interface
pub five_in_array : InArray (λ r. five_of (run_numbers r)) (λ r. Runs p6 2 (memory 7) out r (zeroed 7) (ended ++ replicate 6 7)) (0 ∷ 2 ∷ 4 ∷ 10 ∷ 0 ∷ [])
five_in_array = record { answer = Ok (ran Done 2 4 10); did = calls.0; told = refl }
