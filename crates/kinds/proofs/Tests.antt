-- Laws of the tests that the definitions ask: what holds in both arms holds of the whole, a conjunction's parts, and what cannot be.
use mathlib.Core.Path.{◌≡◌, refl}
use mathlib.Core.Bool.{Bool, true, false, cond, ◌&&◌}
use Prim.Native.Nat.{ℕ}
use native.Mathlib.Omega.{arith}

pub cond_cases : {A : Type 0} (P : A → Type 0) (t : Bool) {a b : A} → (t ≡ true → P a) → (t ≡ false → P b) → P (cond t a b)
cond_cases P true yes_arm no_arm = yes_arm refl
cond_cases P false yes_arm no_arm = no_arm refl

pub never : {A : Type 0} → ◌≡◌ {A = ℕ} 0 1 → A
never e = absurd (omega arith)

pub false_is_not_true : {A : Type 0} → false ≡ true → A
false_is_not_true e = never cc

pub and_true : (a b : Bool) → (a && b) ≡ true → (a ≡ true) × (b ≡ true)
and_true true b e = (refl, e)
and_true false b e = false_is_not_true e
