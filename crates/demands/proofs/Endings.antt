-- Demand 2, sentence by sentence. The reported steps are rewrites in the fixed order. An unrefused run's plan is what they make of the plan
-- that its text reads as. Every statement is about the run's numbers, its texts and that plan.
-- Every public law here is a theorem of the demands.
use Prim.Native.Nat.{ℕ, ◌≤◌}
use mathlib.Core.Path.{◌≡◌, refl, ap, sym, subst, ◌∙◌}
use mathlib.Core.Logic.{◌↔◌}
use mathlib.Core.List.{List, ◌++◌}
use native.Mathlib.Omega.{arith}
use lib.ListN.{length, drop}
use Rattle.std.specs.Prelude.{Ok, Err}
use Rattle.kinds.specs.Limits.{cell_limit}
use Rattle.rules.specs.declared.Ending.{Ending}
use Rattle.rules.specs.declared.Ending.TheVariants.{Done, Quota, Full}
use Rattle.plan.specs.Plan.{cells, print}
use Rattle.rules.specs.Running.{Leads}
use Rattle.plan.specs.declared.Unread.{Unread}
use Rattle.plan.specs.declared.Unread.TheVariants.{Overfull, Text}
use Rattle.plan.specs.Read.{ReadAnswer}
use Rattle.numbers.specs.Numbers.{read_numbers, unread_numbers}
use Rattle.numbers.proofs.Told.{read_refusal_number_is}
use Rattle.answers.specs.Run.{RunAnswer, ending_number, run_numbers}
use Rattle.rules.proofs.Rewrites.{finished_iff}
use Rattle.rules.proofs.Runs.{Stops, run_quota_steps, run_steps, run_stops}
use Rattle.read.specs.Calls.{ReadsOut}
use Rattle.run.specs.Calls.{Runs}
use Rattle.demands.specs.Terms.{Bare, DONE, FULL, NextFits, NextHasMoreThan, NoRuleApplies, QUOTA, Reads, Rewritten, Unrefused, lent, saved}
use Rattle.demands.proofs.Cases.{EndedRun, ReadCase, bad_text, ended_plan, ended_rewritten, ended-saved, is_read, out_short, read_case, read-saved, run_ended, text-read}
use Rattle.demands.proofs.Meanings.{ends_sound, ends_way, reads_one, reads_sound, sound_back}
use Rattle.demands.proofs.Numbers.{run_refusal_number_is, same-ending}

module _ {text : List ℕ} {quota : ℕ} {memory out : List ℕ} {r : RunAnswer} {memory' out' : List ℕ}
    (call : Runs text quota memory out r memory' out') (unrefused : Unrefused (run_numbers r)) where
  run : EndedRun (lent memory) quota text out r out'
  run = run_ended call unrefused

  back : Reads (lent memory) (saved (run_numbers r) out') run.result
  back = rw (ended-saved run) (sound_back (ends_sound run.ends))

  -- "Reading, rewriting and printing are those of the four rules a, b, c, d of the Awelon Bytecode summary, in the fixed order of
  -- document 01."
  pub reads_rewrites_prints : (q : Bare) × Rewritten (lent memory) text (run_numbers r).steps q × (saved (run_numbers r) out' ≡ print q)
  reads_rewrites_prints = (run.result, ended_rewritten run, ended-saved run)

  -- its plan: what the steps made of the plan that was read
  module _ {q : Bare} (its_plan : Rewritten (lent memory) text (run_numbers r).steps q) where
    same : run.result ≡ q
    same = ended_plan run its_plan

    stops : (d : Ending) → ((run_numbers r).number ≡ ending_number d) ↔ Stops (lent memory) d q
    stops d =
        let why = run_stops (lent memory) quota run.ends.plan run.ends.ran d in
        let number = ap (λ (a : RunAnswer). (run_numbers a).number) run.told in (
          λ h. subst (Stops (lent memory) d) same (why.0 (same-ending run.ending d (sym number ∙ h))),
          λ h. number ∙ ap ending_number (why.1 (subst (Stops (lent memory) d) (sym same) h)),
        )

    -- "An unrefused run ends DONE exactly when no rule applies anywhere in its plan,"
    pub done_exactly_when : ((run_numbers r).number ≡ DONE) ↔ NoRuleApplies q
    done_exactly_when = (λ h. (finished_iff q).0 ((stops Done).0 h), λ h. (stops Done).1 ((finished_iff q).1 h))

    -- "FULL exactly when the next rewrite's result has more cells than were lent."
    pub full_exactly_when : ((run_numbers r).number ≡ FULL) ↔ NextHasMoreThan (lent memory) q
    full_exactly_when = stops Full

    -- and QUOTA in every other case
    pub quota_exactly_when : ((run_numbers r).number ≡ QUOTA) ↔ NextFits (lent memory) q
    quota_exactly_when = stops Quota

  -- "Steps reported are rewrites made,": so many lead from the plan of the run's text to the plan of the text that it printed,
  pub steps_are_rewrites_made : {p q : Bare} → Reads (lent memory) text p → Reads (lent memory) (saved (run_numbers r) out') q → Leads (run_numbers r).steps p q
  steps_are_rewrites_made {p} {q} before after =
      let made = ended_rewritten run in
      let from : made.plan ≡ p = reads_one made.reads before in
      let to : run.result ≡ q = reads_one back after in
      subst (λ a. Leads (run_numbers r).steps a q) from (subst (λ b. Leads (run_numbers r).steps made.plan b) to made.leads)

  -- never more than the quota, and all of it where the answer is QUOTA;
  pub steps_within_quota : ((run_numbers r).steps ≤ quota) × ((run_numbers r).number ≡ QUOTA → (run_numbers r).steps ≡ quota)
  steps_within_quota =
      let steps = ap (λ (a : RunAnswer). (run_numbers a).steps) run.told in
      let number = ap (λ (a : RunAnswer). (run_numbers a).number) run.told in (
        rw steps (run_steps (lent memory) quota run.ends.plan run.ends.ran),
        λ h. steps
            ∙ run_quota_steps (lent memory) quota run.ends.plan run.ends.ran (same-ending run.ending Quota (sym number ∙ h)),
      )

  -- and every plan on the way had room, so none was passed that should have ended the run.
  pub every_plan_had_room : {k : ℕ} {q : Bare} → k ≤ (run_numbers r).steps → Rewritten (lent memory) text k q → cells q ≤ lent memory
  every_plan_had_room {k} within h =
      ends_way run.ends (subst (k ≤◌) (ap (λ (a : RunAnswer). (run_numbers a).steps) run.told) within) h

  module _ {q : Bare} (its_plan : Rewritten (lent memory) text (run_numbers r).steps q) where
    -- "and the printed text reads back as the same plan."
    pub text_reads_back : Reads (lent memory) (saved (run_numbers r) out') q
    text_reads_back = subst (λ p. Reads (lent memory) (saved (run_numbers r) out') p) (ended_plan run its_plan) back

    -- document 01: "cells and length are those of the resulting plan and its printed text; the output holds that text first and its
    -- other bytes are untouched"
    pub cells_and_length : ((run_numbers r).cells ≡ cells q) × ((run_numbers r).length ≡ length (print q))
    cells_and_length = rw (run.told, ended_plan run its_plan) (refl, refl)

    pub text-first : out' ≡ print q ++ drop (length (print q)) out
    text-first = rw (← ended_plan run its_plan) run.left

-- READ reads and prints too: "text accepted, finished or not".
pub read_reads_prints : {text out : List ℕ} {r : ReadAnswer} {out' : List ℕ} → ReadsOut text out r out' → Unrefused (read_numbers r)
    → (p : Bare) × Reads cell_limit text p × ((read_numbers r).cells ≡ cells p) × ((read_numbers r).length ≡ length (print p))
    × (out' ≡ print p ++ drop (length (print p)) out) × Reads cell_limit (saved (read_numbers r) out') p
read_reads_prints {text} {out} {r} {out'} call unrefused =
    let x = text-read call unrefused in (
      x.plan,
      x.reads,
      ap (λ (a : ReadAnswer). (read_numbers a).cells) x.told,
      ap (λ (a : ReadAnswer). (read_numbers a).length) x.told,
      x.left,
      subst (λ t. Reads cell_limit t x.plan) (sym (read-saved x)) (sound_back (reads_sound x.reads)),
    )

-- Steps are 0 for READ, whatever it answers,
pub read_steps : {text out : List ℕ} {r : ReadAnswer} {out' : List ℕ} → ReadsOut text out r out' → (read_numbers r).steps ≡ 0
read_steps {text} {out} call = go (read_case call)
  where
    nothing : (u : Unread) → (unread_numbers u).steps ≡ 0
    nothing (Text f) = refl
    nothing (Overfull at) = refl

    go : {r : ReadAnswer} {out' : List ℕ} → ReadCase text out r out' → (read_numbers r).steps ≡ 0
    go (bad_text {u} h) = nothing u
    go (out_short h short) = refl
    go (is_read h fits) = refl

-- and the place is 0 for DONE, QUOTA, FULL and READ, whichever service answers so.
pub run_unrefused_place : (r : RunAnswer) → Unrefused (run_numbers r) → (run_numbers r).place ≡ 0
run_unrefused_place (Ok x) u = refl
run_unrefused_place (Err x) u = absurd (omega (arith, (run_refusal_number_is x).over))

pub read_unrefused_place : (r : ReadAnswer) → Unrefused (read_numbers r) → (read_numbers r).place ≡ 0
read_unrefused_place (Ok s) u = refl
read_unrefused_place (Err x) u = absurd (omega (arith, (read_refusal_number_is x).over))
