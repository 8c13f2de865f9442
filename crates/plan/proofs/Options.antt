-- Laws of what may be missing.
use mathlib.Core.Path.{◌≡◌, refl, ap}
use mathlib.Core.Logic.{◌↔◌, ◌⊎◌, ⊎_elim}
use mathlib.Core.Bool.{true}
use Rattle.std.specs.Prelude.{Option, None, Some}
use Rattle.std.specs.Prelude.{IsSome}
use Rattle.plan.specs.Options.{◌else◌, is_none, under}
use Rattle.kinds.proofs.Tests.{false_is_not_true, never}

-- what holds of the value, if there is one
abbrev pub Each : {A : Type 0} → (A → Type 0) → Option A → Type 0
Each P None = Unit {0}
Each P (Some x) = P x

pub some_is_not_none : {A : Type 0} {a : A} → ◌≡◌ {A = Option A} (Some a) None → ⊥
some_is_not_none e = never cc

module _ {A : Type 0} where
  pub else_each : (P : A → Type 0) (x y : Option A) → Each P x → Each P y → Each P (x else y)
  unfolding ◌else◌
  else_each P None y h k = k
  else_each P (Some a) y h k = h

  pub else-left : (x y : Option A) → IsSome x → IsSome (x else y)
  unfolding ◌else◌
  else-left None y h = false_is_not_true h
  else-left (Some a) y h = refl

  pub else-right : (x y : Option A) → IsSome y → IsSome (x else y)
  unfolding ◌else◌
  else-right None y h = h
  else-right (Some a) y h = refl

  pub else_either : (x y : Option A) → IsSome x ⊎ IsSome y → IsSome (x else y)
  else_either x y = ⊎_elim (else-left x y) (else-right x y)

  pub none_when : (x : Option A) → (is_none x ≡ true) ↔ (x ≡ None)
  unfolding is_none
  none_when None = (λ h. refl, λ h. refl)
  none_when (Some a) = (λ h. false_is_not_true h, λ h. ap is_none h)

module _ {A B : Type 0} (f : A → B) where
  pub under_none : (x : Option A) → is_none (under f x) ≡ is_none x
  unfolding is_none under
  under_none None = refl
  under_none (Some a) = refl

  pub under_each : (P : A → Type 0) (Q : B → Type 0) → ((a : A) → P a → Q (f a)) → (x : Option A) → Each P x →
      Each Q (under f x)
  unfolding under
  under_each P Q up None h = tt
  under_each P Q up (Some a) h = up a h

  pub under-is_some : (x : Option A) → IsSome x → IsSome (under f x)
  unfolding under
  under-is_some None h = h
  under-is_some (Some a) h = refl

  pub under-else : (x y : Option A) {v w : Option B} → v ≡ under f x → w ≡ under f y → v else w ≡ under f (x else y)
  unfolding under ◌else◌
  under-else None y h k = rw (h, k)
  under-else (Some a) y h k = rw h

pub under-under : {A B C : Type 0} (f : A → B) (g : B → C) (x : Option A) → under g (under f x) ≡ under (λ a. g (f a)) x
unfolding under
under-under f g None = refl
under-under f g (Some a) = refl

pub under_same : {A B : Type 0} (f g : A → B) → ((a : A) → f a ≡ g a) → (x : Option A) → under f x ≡ under g x
unfolding under
under_same f g same None = refl
under_same f g same (Some a) = ap Some (same a)

-- two ways round a square
pub under_square : {A B C D : Type 0} (f : A → B) (g : B → D) (h : A → C) (k : C → D) → ((a : A) → g (f a) ≡ k (h a)) →
    (x : Option A) → under g (under f x) ≡ under k (under h x)
unfolding under
under_square f g h k same None = refl
under_square f g h k same (Some a) = ap Some (same a)

pub some_under : {A B : Type 0} (f : A → B) (x : Option A) → IsSome (under f x) → IsSome x
unfolding under
some_under f None h = h
some_under f (Some a) h = refl

-- the first of two decides, and the second only where the first is missing
pub else_front : {A B : Type 0} (f : A → B) (x y : Option A) {v w : Option B} → IsSome (x else y)
    → (IsSome x → v ≡ under f x) → (IsSome y → (v ≡ under f x) × (w ≡ under f y)) → v else w ≡ under f (x else y)
unfolding under ◌else◌
else_front f None y s left right = let both = right s in rw both.0 both.1
else_front f (Some a) y s left right = rw (left refl)

pub under_rest : {A B : Type 0} (f : A → B) (x y : Option A) (z : Option B) → under f (x else y) else z ≡ under f x else (under f y else z)
unfolding under ◌else◌
under_rest f None y z = refl
under_rest f (Some a) y z = refl
