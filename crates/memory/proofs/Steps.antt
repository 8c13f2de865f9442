-- What is being built is always ready for the builder's next step.
use Prim.Native.Nat.{ℕ, ◌≤◌, ◌<◌}
use mathlib.Core.Path.{◌≡◌, refl, ap, ◌∙◌, subst}
use mathlib.Core.List.{List, ◌∷◌, ◌++◌}
use native.Mathlib.Omega.{arith}
use Rattle.kinds.specs.declared.Cell.{Cell}
use Rattle.plan.specs.Plan.{Plan, labels}
use Rattle.plan.specs.Reading.{Around, outermost, inside}
use Rattle.plan.specs.Pieces.{seen}
use Rattle.memory.specs.Memory.{Building}
use Rattle.memory.specs.Held.{SameCells}
use Rattle.memory.specs.Lent.{Aside}
use Rattle.memory.specs.Model.{Buildable, Built, Model, Stepped, model}
use Rattle.memory.specs.declared.HeldPlan.{HeldPlan}
use Rattle.memory.proofs.Building.{root_low, tail_within}
use Rattle.memory.proofs.Lists.{below_split}
use Rattle.memory.proofs.Whole.{aside_on, aside_same}

pub opened-lent : {text : List ℕ} {n : ℕ} {w : List ℕ} {root : ℕ} {others : List ℕ} {tail opened free c : ℕ} {before here : Plan ℕ} {out : Around}
    → Building text n w root others tail opened free (inside c before out) here → opened < n
unfolding seen
opened-lent {n = n} {others = others} {c = c} {before = before} {here = here} {out = out} b =
    let used = (below_split n (others ++ (seen out before ++ c ∷ labels here)) b.shared.spare b.shared.below).0 in
    let built = (below_split n others (seen out before ++ c ∷ labels here) used).1 in
    let low = (below_split n (seen out before) (c ∷ labels here) built).1.0 in
    let at_open = b.at_open in omega arith

opened_low : {text : List ℕ} {n : ℕ} {w : List ℕ} {root : ℕ} {others : List ℕ} {tail opened free : ℕ} (out : Around) {here : Plan ℕ}
    → Building text n w root others tail opened free out here → opened ≤ n
opened_low outermost b =
    let at_open = b.at_open in
    let low = root_low b in omega arith
opened_low (inside c before out) b = let low = opened-lent b in omega arith

pub building_ready : {b : HeldPlan} {n : ℕ} {text : List ℕ} {root : ℕ} {others : List ℕ} {out : Around} {here : Plan ℕ} → b.kept.outer.0 ≡ n
    → Built text n (model b) root others out here → Buildable b
building_ready {out = out} e h =
    let within = tail_within h in
    let room = h.shared.room in
    let low = opened_low out h in
    record { tail = omega arith; opened = omega arith }

-- one step after the other

pub same_at : {h : HeldPlan} → SameCells h h
same_at = record { outer = refl; lent = refl; aside = aside_same }

pub same_on : {h h₁ h₂ : HeldPlan} → SameCells h h₁ → SameCells h₁ h₂ → SameCells h h₂
same_on {h} {h₁} {h₂} p q =
    record {
      outer = q.outer ∙ p.outer;
      lent = q.lent ∙ p.lent;
      aside = aside_on p.aside (subst (λ (c : Cell). Aside c.0 h₁.numbers.now h₂.numbers.now) p.outer q.aside);
    }

pub cells_same : {h h' : HeldPlan} → SameCells h h' → h'.kept.outer.0 ≡ h.kept.outer.0
cells_same p = ap (λ (c : Cell). c.0) p.outer

pub stepped_on : {h h₁ h₂ : HeldPlan} {s : Model} (F : Model → Model) → Stepped h h₁ s → Stepped h₁ h₂ (F (model h₁)) → Stepped h h₂ (F s)
stepped_on F p q = record { steps = q.steps ∙ ap F p.steps; same = same_on p.same q.same }
