-- One splice after another: the cells are the same, and the second splice is made of what the first one left.
use Prim.Native.Nat.{ℕ, ◌≤◌, ◌<◌}
use mathlib.Core.Path.{◌≡◌, ap, ap₂, sym, ◌∙◌, subst}
use mathlib.Core.List.{List}
use native.Mathlib.Omega.{arith}
use Rattle.plan.specs.Plan.{Plan}
use Rattle.memory.specs.Held.{HeldIn, held_numbers}
use Rattle.memory.specs.Memory.{start, close, Holds}
use Rattle.memory.specs.Model.{Model, Stepped, model, with_numbers}
use Rattle.memory.specs.declared.HeldPlan.{HeldPlan}
use Rattle.memory.proofs.Steps.{cells_same, same_on}
use Rattle.splices.specs.Splices.{Spliced}

-- the ports of a lent cell
pub port_low : {n c x : ℕ} → c < n → x ≡ start c → x ≤ start n
port_low l k = omega arith

pub close_low : {n c x : ℕ} → c < n → x ≡ close c → x ≤ start n
close_low l k = omega arith

-- a store is a splice
pub stored : {h h' : HeldPlan} {w : List ℕ} → Stepped h h' (with_numbers (model h) w) → Spliced h h' w h.kept.free.0
stored p = record { numbers = ap (λ (s : Model). s.numbers) p.steps; free = ap (λ (s : Model). s.free) p.steps; same = p.same }

module _ {h h₁ : HeldPlan} {v₁ : List ℕ} {s₁ : ℕ} (p : Spliced h h₁ v₁ s₁) where
  pub same-cells : h₁.kept.outer.0 ≡ h.kept.outer.0
  same-cells = cells_same p.same

  pub spliced_port : {x : ℕ} → x ≤ start h.kept.outer.0 → x ≤ start h₁.kept.outer.0
  spliced_port l = let e = same-cells in omega arith

  pub spliced_cell : {c : ℕ} → c < h.kept.outer.0 → c < h₁.kept.outer.0
  spliced_cell l = let e = same-cells in omega arith

  pub spliced_start : {c x : ℕ} → c < h.kept.outer.0 → x ≡ start c → x ≤ start h₁.kept.outer.0
  spliced_start l k = let e = same-cells in omega arith

  pub spliced_close : {c x : ℕ} → c < h.kept.outer.0 → x ≡ close c → x ≤ start h₁.kept.outer.0
  spliced_close l k = let e = same-cells in omega arith

  pub splice_on : {h₂ : HeldPlan} (F : List ℕ → ℕ → List ℕ) (G : ℕ → ℕ) → Spliced h₁ h₂ (F (held_numbers h₁) h₁.kept.free.0) (G h₁.kept.free.0)
      → Spliced h h₂ (F v₁ s₁) (G s₁)
  splice_on F G q = record { numbers = q.numbers ∙ ap₂ F p.numbers p.free; free = q.free ∙ ap G p.free; same = same_on p.same q.same }

  -- what the numbers hold is what the memory holds
  pub held_after : {text : List ℕ} {t : Plan ℕ} → Holds text h.kept.outer.0 v₁ s₁ t → HeldIn text h₁ t
  held_after {text} {t} k = subst (λ v. Holds text h₁.kept.outer.0 v h₁.kept.free.0 t) (sym p.numbers) (rw (same-cells, p.free) k)
