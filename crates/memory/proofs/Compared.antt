-- What a test of two ports, `==` or `!=`, says of their numbers.
use Prim.Native.Nat.{ℕ}
use mathlib.Core.Path.{◌≡◌, refl, sym, ◌∙◌}
use mathlib.Core.Bool.{Bool, true, false, not}
use mathlib.Core.Logic.{◌≢◌}
use borrow.Author.Tests.{eqb-false, eqb-true}
use lib.Dec.{eqb}

module _ {r : Bool} {x y : ℕ} where
  pub alike : r ≡ eqb x y → r ≡ true → x ≡ y
  alike told is = eqb-true x y (sym told ∙ is)

  pub unlike : r ≡ eqb x y → r ≡ false → x ≢ y
  unlike told is = eqb-false x y (sym told ∙ is)

  pub apart : r ≡ not (eqb x y) → r ≡ true → x ≢ y
  apart told is = eqb-false x y (go (eqb x y) (sym told ∙ is))
    where
      go : (b : Bool) → not b ≡ true → b ≡ false
      go true e = sym e
      go false e = refl

  pub met : r ≡ not (eqb x y) → r ≡ false → x ≡ y
  met told is = eqb-true x y (go (eqb x y) (sym told ∙ is))
    where
      go : (b : Bool) → not b ≡ false → b ≡ true
      go true e = refl
      go false e = sym e
