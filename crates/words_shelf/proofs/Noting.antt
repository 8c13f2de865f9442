-- What is noted of a word is found, and what was noted of another stays.
use Prim.Native.Nat.{ℕ, zero, suc, ◌<◌}
use mathlib.Core.Path.{◌≡◌, refl, ap, sym, subst, ◌∙◌}
use mathlib.Core.Bool.{Bool, true, false}
use mathlib.Core.List.{List}
use borrow.Author.Tests.{eqb-false, eqb-true}
use lib.Dec.{eqb}
use lib.ListN.{get_or, length, replicate, set}
use lib.Seq.{get_or-set_other, get_or-set_same}
use Rattle.std.specs.Prelude.{Option, Some, None}
use Rattle.kinds.proofs.Tests.{never}

module _ {A : Type 0} where
  -- all that is noted is right, where it was and the new note is
  pub noted-right : (P : ℕ → A → Type 0) (notes : List (Option A)) (r : ℕ) {a : A} → r < length notes
      → ((k : ℕ) (x : A) → get_or notes k None ≡ Some x → P k x) → P r a
      → (k : ℕ) (x : A) → get_or (set notes r (Some a)) k None ≡ Some x → P k x
  noted-right P notes r {a} room before here k x e = go (eqb k r) refl
    where
      go : (b : Bool) → eqb k r ≡ b → P k x
      go true h =
          let same : k ≡ r = eqb-true k r h in
          let is : Some a ≡ Some x = sym (get_or-set_same notes r (Some a) None room) ∙ ap (λ j. get_or (set notes r (Some a)) j None) (sym same) ∙ e in
          let value : a ≡ x = cc in
          subst (λ j. P j x) (sym same) (subst (λ y. P r y) value here)
      go false h = before k x (sym (get_or-set_other notes r k (Some a) None (eqb-false k r h)) ∙ e)

  -- nothing is noted yet
  pub noted_nothing : (n k : ℕ) {x : A} {B : Type 0} → get_or (replicate n None) k None ≡ Some x → B
  noted_nothing zero k e = never cc
  noted_nothing (suc n) zero e = never cc
  noted_nothing (suc n) (suc k) e = noted_nothing n k e
