-- Demand 3, sentence by sentence: a plan that is DONE stays so with more of everything, and a run cut into slots ends as the run.
-- Every public law here is a theorem of the demands.
use Prim.Native.Nat.{ℕ, ◌+◌, ◌*◌, ◌≤◌}
use mathlib.Core.Path.{◌≡◌, refl, ap, sym, subst, ◌∙◌}
use mathlib.Core.List.{List, [], ◌∷◌}
use native.Mathlib.Omega.{arith}
use lib.ListN.{length, length-replicate, replicate}
use Rattle.kinds.specs.Limits.{cell_limit, standard, token_limit}
use Rattle.answers.specs.declared.RunRefusal.{RunRefusal}
use Rattle.rules.specs.declared.Ending.{Ending}
use Rattle.rules.specs.declared.Ending.TheVariants.{Done}
use Rattle.plan.specs.Plan.{cells, print}
use Rattle.rules.specs.Running.{RAN, run_plan}
use Rattle.plan.specs.Outcomes.{GIVES, Outcome}
use Rattle.answers.specs.Run.{HowRan, RunAnswer, ending_number, quarter, run_numbers, run_outcome}
use Rattle.answers.specs.Slots.{after, next_slot, slots, total}
use Rattle.rules.proofs.Runs.{more_never_changes}
use Rattle.answers.proofs.Slots.{slots_end_as_one}
use Rattle.plan.proofs.Accepting.{standard_roomy}
use Rattle.run.specs.Calls.{Runs}
use Rattle.demands.specs.Slots.{Slot, Slots, first_slot, only_slot}
use Rattle.demands.specs.Terms.{Bare, DONE, Ends, Reads, Unrefused, lent, saved}
use Rattle.demands.proofs.Answered.{every_run_answered}
use Rattle.demands.proofs.Cases.{EndedRun, ended_gives, ended-saved, ends_unrefused, read_unrefused, run_ended}
use Rattle.demands.proofs.Meanings.{ends_one, ends_sound, reads_one, reads_with_more, sound_back}
use Rattle.demands.proofs.Numbers.{same-ending}
use Rattle.demands.proofs.SavedTexts.{output_long_enough}

module _ {text : List ℕ} {quota : ℕ} {memory out : List ℕ} {r : RunAnswer} {memory' out' : List ℕ}
    (call : Runs text quota memory out r memory' out') (done : (run_numbers r).number ≡ DONE) where
  run : EndedRun (lent memory) quota text out r out'
  run = run_ended call (omega (arith, done))

  ends_done : Ends (lent memory) quota text Done (run_numbers r).steps run.result
  ends_done =
      let ending : run.ending ≡ Done = same-ending run.ending Done (sym (ap (λ (a : RunAnswer). (run_numbers a).number) run.told) ∙ done) in
      let steps : run.steps ≡ (run_numbers r).steps = sym (ap (λ (a : RunAnswer). (run_numbers a).steps) run.told) in
      subst (λ k. Ends (lent memory) quota text Done k run.result) steps
      (subst (λ e. Ends (lent memory) quota text e run.steps run.result) ending run.ends)

  -- whatever text the plan is read from
  pub more_gives_the_same_for_the_plan : {p : Bare} {text₂ : List ℕ} {quota₂ : ℕ} {memory₂ out₂ : List ℕ} {r₂ : RunAnswer}
      {memory₂' out₂' : List ℕ}
      → Reads (lent memory) text p → Reads (lent memory) text₂ p → Runs text₂ quota₂ memory₂ out₂ r₂ memory₂' out₂'
      → (run_numbers r).steps ≤ quota₂ → length out ≤ length out₂ → length memory ≤ length memory₂ → lent memory₂ ≤ cell_limit
      → ((run_numbers r₂).number ≡ DONE) × (saved (run_numbers r₂) out₂' ≡ saved (run_numbers r) out') × ((run_numbers r₂).steps ≡ (run_numbers r).steps)
  more_gives_the_same_for_the_plan {p} {text₂} {quota₂} {memory₂} {out₂} {r₂} {out₂' = out₂'} reads reads₂ call₂ time longer larger
      within =
      let more : lent memory ≤ lent memory₂ = omega arith in
      let same = reads_one ends_done.reads reads in
      let ends₂ : Ends (lent memory₂) quota₂ text₂ Done (run_numbers r).steps run.result =
      record {
        plan = p;
        reads = reads_with_more (lent memory₂) more within reads₂;
        ran = subst (λ q. run_plan (lent memory₂) quota₂ q ≡ RAN Done (run_numbers r).steps run.result) same
            (more_never_changes (lent memory) (lent memory₂) quota quota₂ ends_done.plan ends_done.ran more time);
      } in
      let run₂ = run_ended call₂ (ends_unrefused call₂ ends₂ (omega (arith, run.fits))) in
      told run₂ (ends_one run₂.ends ends₂)
    where
      told : (x : EndedRun (lent memory₂) quota₂ text₂ out₂ r₂ out₂')
          → RAN x.ending x.steps x.result ≡ RAN Done (run_numbers r).steps run.result
          → ((run_numbers r₂).number ≡ DONE) × (saved (run_numbers r₂) out₂' ≡ saved (run_numbers r) out') × ((run_numbers r₂).steps ≡ (run_numbers r).steps)
      told x same =
          let ending : x.ending ≡ Done = cc in
          let steps : x.steps ≡ (run_numbers r).steps = cc in
          let result : x.result ≡ run.result = cc in (
            rw (x.told, ending) refl,
            ended-saved x ∙ ap print result ∙ sym (ended-saved run),
            rw x.told steps,
          )

  -- "If a plan is DONE after some steps, then any quota of at least that many, with as much output and memory or more, memory within
  -- its limit, gives DONE, the same text and the same steps."
  pub more_gives_the_same : {quota₂ : ℕ} {memory₂ out₂ : List ℕ} {r₂ : RunAnswer} {memory₂' out₂' : List ℕ}
      → Runs text quota₂ memory₂ out₂ r₂ memory₂' out₂'
      → (run_numbers r).steps ≤ quota₂ → length out ≤ length out₂ → length memory ≤ length memory₂ → lent memory₂ ≤ cell_limit
      → ((run_numbers r₂).number ≡ DONE) × (saved (run_numbers r₂) out₂' ≡ saved (run_numbers r) out') × ((run_numbers r₂).steps ≡ (run_numbers r).steps)
  more_gives_the_same = more_gives_the_same_for_the_plan ends_done.reads ends_done.reads

-- What one slot did, in the definition's terms, once its text reads: it gave its answer and a text that reads again.
record SlotRan (n quota : ℕ) (text : List ℕ) (r : RunAnswer) (left : List ℕ) : Type 0 where
  how : HowRan
  cells : ℕ
  number : (run_numbers r).number ≡ ending_number how.ending
  steps : (run_numbers r).steps ≡ how.steps
  gives : run_outcome standard n quota text ≡ GIVES how cells left
  result : Bare
  reads_again : Reads n left result

slot_ran : {m quota : ℕ} {text : List ℕ} {r : RunAnswer} {left : List ℕ} {p : Bare} → Slot m text quota r left → Reads (quarter m) text p
    → SlotRan (quarter m) quota text r left
slot_ran {m} {quota} {text} {r} {left} {p} slot reads =
    subst (λ n. SlotRan n quota text r left) same (ran (subst (λ n. Reads n text p) (sym same) reads))
  where
    same : lent slot.memory ≡ quarter m
    same = ap quarter slot.equal_memory

    ran : Reads (lent slot.memory) text p → SlotRan (lent slot.memory) quota text r left
    ran reads =
        let run = run_ended slot.call (read_unrefused slot.call reads slot.output_long_enough) in
        let printed : print run.result ≡ left = sym (ended-saved run) ∙ sym slot.saves in
        record {
          how = record { ending = run.ending; steps = run.steps };
          cells = cells run.result;
          number = ap (λ (a : RunAnswer). (run_numbers a).number) run.told;
          steps = ap (λ (a : RunAnswer). (run_numbers a).steps) run.told;
          gives =
              ended_gives run
              ∙ ap (GIVES (record { ending = run.ending; steps = run.steps }) (cells run.result)) (sym slot.saves);
          result = run.result;
          reads_again = subst (λ t. Reads (lent slot.memory) t run.result) printed (sound_back (ends_sound run.ends));
        }

-- the same of all slots together: the last answer, with the steps of all of them
record SlotsRan (n quota : ℕ) (quotas text : List ℕ) (steps : ℕ) (last : RunAnswer) (left : List ℕ) : Type 0 where
  ending : Ending
  cells : ℕ
  number : (run_numbers last).number ≡ ending_number ending
  gives : slots standard n quota quotas text ≡ GIVES (record { ending = ending; steps = steps }) cells left

slots_ran : {m quota steps : ℕ} {quotas text : List ℕ} {last : RunAnswer} {left : List ℕ} {p : Bare} → Slots m text quota quotas steps last left
    → Reads (quarter m) text p → SlotsRan (quarter m) quota quotas text steps last left
unfolding slots next_slot after
slots_ran (only_slot {left = left} slot) reads =
    let ran = slot_ran slot reads in
    record {
      ending = ran.how.ending;
      cells = ran.cells;
      number = ran.number;
      gives = ran.gives ∙ ap (λ k. GIVES (record { ending = ran.how.ending; steps = k }) ran.cells left) (sym ran.steps);
    }
slots_ran {m} (first_slot {r = r} {q = q} {quotas = quotas} {steps = steps} {left = left} slot rest) reads =
    let ran = slot_ran slot reads in
    let later = slots_ran rest ran.reads_again in
    record {
      ending = later.ending;
      cells = later.cells;
      number = later.number;
      gives =
          ap (λ o. next_slot o (λ t. slots standard (quarter m) q quotas t)) ran.gives ∙ ap (after ran.how.steps) later.gives
          ∙ ap (λ k. GIVES (record { ending = later.ending; steps = k + steps }) later.cells left) (sym ran.steps);
    }

-- "Cutting an unrefused run's quota into one or more slots, the first reading that run's text and each other the text the last one
-- saved, with equal memory and outputs long enough for each text, ends in the same text and answer number as that run, and the steps
-- add up to its steps."
pub slots_end_as_the_run : {text : List ℕ} {quota : ℕ} {quotas memory out : List ℕ} {r : RunAnswer} {memory' out' : List ℕ}
    {steps : ℕ} {last : RunAnswer} {left : List ℕ}
    → Runs text (total quota quotas) memory out r memory' out' → Unrefused (run_numbers r) → Slots (length memory) text quota quotas steps last left
    → (left ≡ saved (run_numbers r) out') × ((run_numbers last).number ≡ (run_numbers r).number) × (steps ≡ (run_numbers r).steps)
slots_end_as_the_run {text} {quota} {quotas} {memory} {out} {r} {out' = out'} {steps} {last} {left} call unrefused cut =
    let run = run_ended call unrefused in
    let ran = slots_ran cut run.ends.reads in
    let whole = slots_end_as_one standard standard_roomy (lent memory) quota quotas text (ended_gives run) in
    compare ran run (sym ran.gives ∙ whole)
  where
    compare : (ran : SlotsRan (lent memory) quota quotas text steps last left) (whole : EndedRun (lent memory) (total quota quotas) text out r out')
        → ◌≡◌ {A = Outcome RunRefusal HowRan} (GIVES (record { ending = ran.ending; steps = steps }) ran.cells left)
        (GIVES (record { ending = whole.ending; steps = whole.steps }) (cells whole.result) (saved (run_numbers r) out'))
        → (left ≡ saved (run_numbers r) out') × ((run_numbers last).number ≡ (run_numbers r).number) × (steps ≡ (run_numbers r).steps)
    compare ran whole same =
        let texts : left ≡ saved (run_numbers r) out' = cc in
        let how : ◌≡◌ {A = HowRan} (record { ending = ran.ending; steps = steps }) (record { ending = whole.ending; steps = whole.steps }) = cc in (
          texts,
          ran.number ∙ ap (λ (h : HowRan). ending_number h.ending) how ∙ sym (ap (λ (a : RunAnswer). (run_numbers a).number) whole.told),
          ap (λ (h : HowRan). h.steps) how ∙ sym (ap (λ (a : RunAnswer). (run_numbers a).steps) whole.told),
        )

one_slot : (memory text : List ℕ) (quota : ℕ) → (r : RunAnswer) × (left : List ℕ) × Slot (length memory) text quota r left
one_slot memory text quota =
    let out : List ℕ = replicate (token_limit * lent memory) 0 in
    let answered = every_run_answered text quota memory out in
    let enough : token_limit * lent memory ≤ length out = omega (arith, length-replicate {A = ℕ} (token_limit * lent memory) 0) in (
      answered.0,
      saved (run_numbers answered.0) answered.2,
      record {
        memory = memory;
        out = out;
        memory' = answered.1;
        out' = answered.2;
        call = answered.3;
        equal_memory = refl;
        output_long_enough = output_long_enough answered.3 enough;
        saves = refl;
      },
    )

-- Every cut can be run so, with a fresh memory and 64 bytes of output for each cell lent in every slot.
pub every_cut_has_slots : (memory text : List ℕ) (quota : ℕ) (quotas : List ℕ)
    → (steps : ℕ) × (last : RunAnswer) × (left : List ℕ) × Slots (length memory) text quota quotas steps last left
every_cut_has_slots memory text quota [] = let s = one_slot memory text quota in (_, _, _, only_slot s.2)
every_cut_has_slots memory text quota (q ∷ quotas) =
    let s = one_slot memory text quota in
    let rest = every_cut_has_slots memory s.1 q quotas in
    (_, _, _, first_slot s.2 rest.3)
