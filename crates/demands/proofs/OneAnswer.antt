-- No second answer: two calls of a service with the same inputs, each as the contract says, answer the same five numbers and
-- leave the same, byte for byte and number for number. There is no exception.
-- Every public law here is a theorem of the demands.
use Prim.Native.Nat.{ℕ, zero, suc, ◌<◌}
use mathlib.Core.Path.{◌≡◌, refl, ap, sym, subst, ◌∙◌}
use mathlib.Core.Bool.{Bool, true, false}
use mathlib.Core.Logic.{◌⊎◌, inl, inr}
use Rattle.std.specs.Prelude.{Option, None, Some}
use mathlib.Core.List.{List}
use native.Mathlib.Nat.{le_antisymm}
use native.Mathlib.Omega.{arith}
use lib.ListN.{length, replicate}
use lib.Dec.{leb}
use borrow.Author.Tests.{leb-true, leb-false}
use Rattle.kinds.specs.Limits.{standard}
use Rattle.plan.specs.Outcomes.{Wrote, cleared}
use Rattle.plan.specs.Plan.{cells, print}
use Rattle.plan.specs.Read.{ReadAnswer, read_family}
use Rattle.plan.proofs.Outcomes.{wrote_once}
use Rattle.rules.specs.Rewriting.{next}
use Rattle.rules.specs.Running.{Leads}
use Rattle.numbers.specs.Numbers.{read_numbers}
use Rattle.answers.specs.Run.{RunAnswer, quarter, run_family, run_numbers, run_outcome}
use Rattle.rules.proofs.Rewrites.{finished_iff}
use Rattle.read.specs.Calls.{ReadsOut}
use Rattle.run.specs.Calls.{Runs}
use Rattle.turnip.specs.Arrays.{InArray, five_of}
use Rattle.demands.specs.Demanded.{AsDemanded}
use Rattle.demands.specs.Terms.{Bare, NextFits, NextHasMoreThan, NoRuleApplies, Rewritten, Unrefused, lent, saved}
use Rattle.demands.proofs.Endings.{done_exactly_when, every_plan_had_room, full_exactly_when, quota_exactly_when, reads_rewrites_prints, steps_within_quota}
use Rattle.demands.proofs.Meanings.{rewritten_one}

pub read-one_answer : {text out : List ℕ} {r s : ReadAnswer} {left left' : List ℕ} → ReadsOut text out r left → ReadsOut text out s left'
    → (r ≡ s) × (left ≡ left')
read-one_answer g h = wrote_once read_family g.wrote h.wrote

-- "What it held before has no effect": two work memories of the same length, with any numbers in them.
pub run_one_answer : {text : List ℕ} {quota : ℕ} {memory memory₂ out : List ℕ} {r s : RunAnswer} {zeroed zeroed₂ left left₂ : List ℕ}
    → Runs text quota memory out r zeroed left → Runs text quota memory₂ out s zeroed₂ left₂ → length memory ≡ length memory₂
    → (r ≡ s) × (zeroed ≡ zeroed₂) × (left ≡ left₂)
unfolding cleared
run_one_answer {text} {quota} {out = out} {r} {left = left} g h same =
    let again = subst (λ m. Wrote run_family (run_outcome standard (quarter m) quota text) out r left) same g.wrote in
    let once = wrote_once run_family again h.wrote in
    (once.0, g.zeroed ∙ ap (λ m. replicate m 0) same ∙ sym h.zeroed, once.1)

-- Over the C interface, where the answer is told by five numbers in the caller's array, as well.
pub read_array_once : {text out left left' array array₂ : List ℕ} → InArray (λ r. five_of (read_numbers r)) (λ r. ReadsOut text out r left) array
    → InArray (λ r. five_of (read_numbers r)) (λ r. ReadsOut text out r left') array₂ → (array ≡ array₂) × (left ≡ left')
read_array_once g h =
    let same = read-one_answer g.did h.did in (g.told ∙ ap (λ r. five_of (read_numbers r)) same.0 ∙ sym h.told, same.1)

pub run_array_once : {text : List ℕ} {quota : ℕ} {memory memory₂ out zeroed zeroed₂ left left₂ array array₂ : List ℕ}
    → InArray (λ r. five_of (run_numbers r)) (λ r. Runs text quota memory out r zeroed left) array → InArray (λ r. five_of (run_numbers r)) (λ r. Runs text quota memory₂ out r zeroed₂ left₂) array₂
    → length memory ≡ length memory₂ → (array ≡ array₂) × (zeroed ≡ zeroed₂) × (left ≡ left₂)
run_array_once g h lengths =
    let same = run_one_answer g.did h.did lengths in
    (g.told ∙ ap (λ r. five_of (run_numbers r)) same.0 ∙ sym h.told, same.1, same.2)

-- The sentences of demand 2 leave one answer too: a version that says FULL always, prints the same text always, rewrites once and then
-- only counts, or invents its steps meets them only where it answers as RUN does.
pub run_as_demanded : {text : List ℕ} {quota : ℕ} {memory out : List ℕ} {r : RunAnswer} {memory' out' : List ℕ}
    → Runs text quota memory out r memory' out' → Unrefused (run_numbers r)
    → AsDemanded (lent memory) quota text (run_numbers r).number (run_numbers r).steps (saved (run_numbers r) out')
run_as_demanded call unrefused =
    let its = reads_rewrites_prints call unrefused in
    record {
      its_plan = its.0;
      rewrites_made = its.1;
      had_room = λ k q within h. every_plan_had_room call unrefused within h;
      within_quota = (steps_within_quota call unrefused).0;
      done = done_exactly_when call unrefused its.1;
      full = full_exactly_when call unrefused its.1;
      quota_ended = quota_exactly_when call unrefused its.1;
      quota_used = (steps_within_quota call unrefused).1;
      prints = its.2;
    }

-- so many rewrites have a part of fewer, and a next one after it
rewrites_before : (k steps : ℕ) (p q : Bare) → Leads steps p q → k < steps
    → (a b : Bare) × Leads k p a × (next a ≡ Some b) × Leads (suc k) p b
rewrites_before k zero p q h fewer = absurd (omega arith)
rewrites_before zero (suc steps) p q h fewer = (p, h.0, refl, h.1, (h.0, h.1, refl))
rewrites_before (suc k) (suc steps) p q h fewer =
    let part = rewrites_before k steps h.0 q h.2 (omega arith) in
    (part.0, part.1, (h.0, h.1, part.2), part.3, (h.0, h.1, part.4))

-- a plan has no next rewrite, or one that does not fit, or one that fits
next_cases : (n : ℕ) (q : Bare) → NoRuleApplies q ⊎ (NextHasMoreThan n q ⊎ NextFits n q)
next_cases n q = by_next (next q) refl
  where
    by_test : (q' : Bare) → next q ≡ Some q' → (b : Bool) → leb (cells q') n ≡ b → NoRuleApplies q ⊎ (NextHasMoreThan n q ⊎ NextFits n q)
    by_test q' h true t = inr (inr (q', h, leb-true (cells q') n t))
    by_test q' h false t = inr (inl (q', h, leb-false (cells q') n t))

    by_next : (x : Option Bare) → next q ≡ x → NoRuleApplies q ⊎ (NextHasMoreThan n q ⊎ NextFits n q)
    by_next None h = inl ((finished_iff q).0 h)
    by_next (Some q') h = by_test q' h (leb (cells q') n) refl

module _ {n quota : ℕ} {text : List ℕ} where
  no_fewer : {number steps number₂ steps₂ : ℕ} {t t₂ : List ℕ} → AsDemanded n quota text number steps t
      → AsDemanded n quota text number₂ steps₂ t₂ → steps < steps₂ → ⊥
  no_fewer {number} {steps} {steps₂ = steps₂} x y fewer =
      let made = y.rewrites_made in
      let part = rewrites_before steps steps₂ made.plan y.its_plan made.leads fewer in
      let here : part.0 ≡ x.its_plan =
      rewritten_one (record { plan = made.plan; reads = made.reads; leads = part.2 }) x.rewrites_made in
      let fits = y.had_room (suc steps) part.1 (omega arith) (record { plan = made.plan; reads = made.reads; leads = part.4 }) in
      let used = x.quota_used (x.quota_ended.1 (part.1, ap next (sym here) ∙ part.3, fits)) in
      omega (arith, used, y.within_quota)

  module _ {number steps number₂ steps₂ : ℕ} {t t₂ : List ℕ}
      (x : AsDemanded n quota text number steps t) (y : AsDemanded n quota text number₂ steps₂ t₂) where
    same_steps : steps ≡ steps₂
    same_steps = by_test (leb steps steps₂) refl (leb steps₂ steps) refl
      where
        by_test : (a : Bool) → leb steps steps₂ ≡ a → (b : Bool) → leb steps₂ steps ≡ b → steps ≡ steps₂
        by_test false g b h = absurd (no_fewer y x (leb-false steps steps₂ g))
        by_test true g false h = absurd (no_fewer x y (leb-false steps₂ steps h))
        by_test true g true h = le_antisymm (leb-true steps steps₂ g) (leb-true steps₂ steps h)

    same_plan : x.its_plan ≡ y.its_plan
    same_plan = rewritten_one x.rewrites_made (subst (λ k. Rewritten n text k y.its_plan) (sym same_steps) y.rewrites_made)

    pub one_as_demanded : (number ≡ number₂) × (steps ≡ steps₂) × (t ≡ t₂)
    one_as_demanded = (by_next (next_cases n x.its_plan), same_steps, x.prints ∙ ap print same_plan ∙ sym y.prints)
      where
        by_next : NoRuleApplies x.its_plan ⊎ (NextHasMoreThan n x.its_plan ⊎ NextFits n x.its_plan) → number ≡ number₂
        by_next (inl h) = x.done.1 h ∙ sym (y.done.1 (subst NoRuleApplies same_plan h))
        by_next (inr (inl h)) = x.full.1 h ∙ sym (y.full.1 (subst (NextHasMoreThan n) same_plan h))
        by_next (inr (inr h)) = x.quota_ended.1 h ∙ sym (y.quota_ended.1 (subst (NextFits n) same_plan h))
