-- Byte for byte the same: that is, equal.
use Prim.Native.Nat.{ℕ}
use mathlib.Core.Path.{◌≡◌, refl, ap, ap₂, sym, ◌∙◌}
use mathlib.Core.Bool.{Bool, true, false, ◌&&◌, false≢true}
use mathlib.Core.List.{List, [], ◌∷◌}
use borrow.Author.Tests.{eq-eqb, eqb-true}
use lib.Dec.{eqb}
use Rattle.kinds.proofs.Tests.{and_true}
use Rattle.stored.specs.Same.{same}

pub same_self : (xs : List ℕ) → same xs xs ≡ true
unfolding same
same_self [] = refl
same_self (x ∷ xs) = ap₂ ◌&&◌ (eq-eqb x x refl) (same_self xs)

pub same_true : (xs ys : List ℕ) → xs ≡ ys → same xs ys ≡ true
same_true xs ys e = ap (same xs) (sym e) ∙ same_self xs

pub same_equal : (xs ys : List ℕ) → same xs ys ≡ true → xs ≡ ys
unfolding same
same_equal [] [] e = refl
same_equal [] (y ∷ ys) e = absurd (false≢true e)
same_equal (x ∷ xs) [] e = absurd (false≢true e)
same_equal (x ∷ xs) (y ∷ ys) e = let (one, more) = and_true (eqb x y) (same xs ys) e in ap₂ ◌∷◌ (eqb-true x y one) (same_equal xs ys more)

pub same_false : (xs ys : List ℕ) → (xs ≡ ys → ⊥) → same xs ys ≡ false
same_false xs ys h = go (same xs ys) refl
  where
    go : (t : Bool) → same xs ys ≡ t → same xs ys ≡ false
    go true e = absurd (h (same_equal xs ys e))
    go false e = e

-- a comparison is what the definition compares
pub same_told : (xs ys : List ℕ) (r : Bool) → (r ≡ true → xs ≡ ys) → (xs ≡ ys → r ≡ true) → r ≡ same xs ys
same_told xs ys true to from = sym (same_true xs ys (to refl))
same_told xs ys false to from = sym (same_false xs ys (λ e. false≢true (from e)))
