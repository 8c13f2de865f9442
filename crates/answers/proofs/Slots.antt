-- A saved text is always accepted again, and a run cut into slots over saved texts ends as the whole run does.
use Prim.Native.Nat.{ℕ, ◌+◌, ◌≤◌}
use mathlib.Core.Path.{◌≡◌, refl, ap, sym, ◌∙◌}
use mathlib.Core.List.{List, [], ◌∷◌}
use Rattle.kinds.specs.Limits.{Limits}
use Rattle.plan.specs.Outcomes.{Outcome, GIVES}
use Rattle.plan.specs.Pieces.{placed}
use Rattle.plan.specs.Plan.{Plan, cells, print}
use Rattle.plan.specs.Reading.{ACCEPTED, accept}
use Rattle.plan.specs.Token.{Allowed}
use Rattle.plan.proofs.Accepting.{Roomy, accepted_text, print_accepted}
use Rattle.plan.proofs.ReadBack.{read_accepted}
use Rattle.rules.specs.declared.Ending.{Ending}
use Rattle.rules.specs.Running.{Ran, RAN, run_plan}
use Rattle.rules.proofs.Runs.{run_add, run_allowed, run_cells}
use Rattle.answers.specs.declared.RunRefusal.{RunRefusal}
use Rattle.answers.specs.Run.{HowRan, as_run, run_outcome}
use Rattle.answers.specs.Slots.{after, next_slot, slots, total}
use Rattle.answers.proofs.Runs.{RunsCase, accepts, gives_is_no_refusal, refuses, run_saved, runs_accepted, runs_case}

gives_text : {g h : HowRan} {c d : ℕ} {t u : List ℕ} → ◌≡◌ {A = Outcome RunRefusal HowRan} (GIVES g c t) (GIVES h d u) → t ≡ u
gives_text e = cc

module _ (lim : Limits) (roomy : Roomy lim) (n : ℕ) where
  -- the plan that an unrefused run reads, within the cells lent
  record Begun (text : List ℕ) : Type 0 where
    plan : Plan ℕ
    accepted : accept lim n text ≡ ACCEPTED plan
    fine : Allowed lim.token plan
    fits : cells plan ≤ n
    lent : n ≤ lim.cells

  begun : (quota : ℕ) (text : List ℕ) {how : HowRan} {c : ℕ} {t : List ℕ} → run_outcome lim n quota text ≡ GIVES how c t → Begun text
  begun quota text {how} {c} {t} e = go (runs_case lim n quota text) e
    where
      go : {x : Outcome RunRefusal HowRan} → RunsCase lim n quota text x → x ≡ GIVES how c t → Begun text
      go (refuses r) e = gives_is_no_refusal e
      go (accepts {p} lent h) e =
          let ok = read_accepted lim.token n text (accepted_text lim n text h).reads in
          record { plan = p; accepted = h; fine = ok.fine; fits = ok.fits; lent = lent }

  -- a run of an accepted text, by the run of its plan
  ran : (quota : ℕ) (text : List ℕ) (b : Begun text) → run_outcome lim n quota text ≡ as_run (run_plan n quota b.plan)
  ran quota text b = runs_accepted lim n quota text b.lent b.accepted

  -- the run of a text that an earlier run saved
  ran_saved : (first quota : ℕ) (text : List ℕ) (b : Begun text) {e : Ending} {steps : ℕ} {q : Plan ℕ} → run_plan n first b.plan ≡ RAN e steps q
      → run_outcome lim n quota (print q) ≡ as_run (run_plan n quota q)
  ran_saved first quota text b {q = q} h =
      let fine = run_allowed n first b.plan h lim.token b.fine in
      let fits = run_cells n first b.plan h b.fits in
      runs_accepted lim n quota (print q) b.lent (print_accepted lim roomy n b.lent q fine fits) ∙ run_saved n quota q

  -- one slot, and the rest of the quota on the text that it saved
  first_and_rest : (quota more : ℕ) (text : List ℕ) (rest : List ℕ → Outcome RunRefusal HowRan) {how : HowRan} {c : ℕ} {t : List ℕ}
      → ((saved : List ℕ) (how' : HowRan) (c' : ℕ) (t' : List ℕ) → run_outcome lim n more saved ≡ GIVES how' c' t' → rest saved ≡ GIVES how' c' t')
      → run_outcome lim n (quota + more) text ≡ GIVES how c t → next_slot (run_outcome lim n quota text) rest ≡ GIVES how c t
  unfolding as_run next_slot after
  first_and_rest quota more text rest {how} {c} {t} go_on e = first (run_plan n quota b.plan) refl
    where
      b : Begun text
      b = begun (quota + more) text e

      both : {e₁ e₂ : Ending} {steps₁ steps₂ : ℕ} {p₁ p₂ : Plan ℕ} → run_plan n quota b.plan ≡ RAN e₁ steps₁ p₁
          → run_plan n more p₁ ≡ RAN e₂ steps₂ p₂ → next_slot (run_outcome lim n quota text) rest ≡ GIVES how c t
      both {p₁ = p₁} h₁ h₂ =
          rw (ran quota text b ∙ ap as_run h₁, go_on (print p₁) _ _ _ (ran_saved quota more text b h₁ ∙ ap as_run h₂))
          (sym (ap as_run (run_add n quota more b.plan h₁ h₂)) ∙ sym (ran (quota + more) text b) ∙ e)

      second : {e₁ : Ending} {steps₁ : ℕ} {p₁ : Plan ℕ} → run_plan n quota b.plan ≡ RAN e₁ steps₁ p₁
          → (r : Ran ℕ) → run_plan n more p₁ ≡ r → next_slot (run_outcome lim n quota text) rest ≡ GIVES how c t
      second h₁ (RAN e₂ steps₂ p₂) h₂ = both h₁ h₂

      first : (r : Ran ℕ) → run_plan n quota b.plan ≡ r → next_slot (run_outcome lim n quota text) rest ≡ GIVES how c t
      first (RAN e₁ steps₁ p₁) h₁ = second h₁ (run_plan n more p₁) refl

  -- Demand 3, second sentence: for any quotas, one or more, that add up to the whole run's, the last slot gives the whole
  -- run's text and answer, with the slots' steps added up.
  pub slots_end_as_one : (quota : ℕ) (quotas : List ℕ) (text : List ℕ) {how : HowRan} {c : ℕ} {t : List ℕ}
      → run_outcome lim n (total quota quotas) text ≡ GIVES how c t → slots lim n quota quotas text ≡ GIVES how c t
  unfolding slots total
  slots_end_as_one quota [] text e = e
  slots_end_as_one quota (q ∷ quotas) text e =
      first_and_rest quota (total q quotas) text (λ saved. slots lim n q quotas saved)
      (λ saved how c t h. slots_end_as_one q quotas saved h) e

  -- a text that a run saved is accepted again, with the same cells lent
  pub saved_accepted : (quota : ℕ) (text : List ℕ) {how : HowRan} {c : ℕ} {t : List ℕ} → run_outcome lim n quota text ≡ GIVES how c t
      → (p : Plan ℕ) × (accept lim n t ≡ ACCEPTED p)
  unfolding as_run
  saved_accepted quota text {how} {c} {t} e = go (begun quota text e) (run_plan n quota (begun quota text e).plan) refl
    where
      go : (b : Begun text) (r : Ran ℕ) → run_plan n quota b.plan ≡ r → (p : Plan ℕ) × (accept lim n t ≡ ACCEPTED p)
      go b (RAN e' steps q) h =
          let same : print q ≡ t = gives_text (sym (ap as_run h) ∙ sym (ran quota text b) ∙ e) in
          let fine = run_allowed n quota b.plan h lim.token b.fine in
          let fits = run_cells n quota b.plan h b.fits in
          (placed 0 q, ap (accept lim n) (sym same) ∙ print_accepted lim roomy n b.lent q fine fits)
