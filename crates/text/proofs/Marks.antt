-- The first byte behind a `{` tells whether an annotation begins there.
use Prim.Native.Nat.{ℕ, ◌<◌}
use mathlib.Core.Path.{◌≡◌, ap, sym, ◌∙◌}
use mathlib.Core.List.{List}
use lib.Dec.{eqb, ltb}
use lib.ListN.{length, get_or, drop, drop_of_length-le}
use lib.Seq.{drop-cons}
use borrow.Author.Tests.{ltb-true, ltb-false}
use Rattle.std.specs.Prelude.{Option, Some, None}
use Rattle.std.specs.Option.{is_some, option_eq, IfSome}
use Rattle.plan.specs.Token.{ampersand, annotation}

module _ (text : List ℕ) (from : ℕ) where
  byte_there : (other : ℕ) → from < length text → eqb (get_or text from other) ampersand ≡ annotation (drop from text)
  unfolding annotation
  byte_there other h = sym (ap annotation (drop-cons text from other h))

  -- what stands at the place, if anything does, compared with the `&`
  pub starts_with : {R : Type 0} (byte : R → ℕ) (there : Option R) → is_some there ≡ ltb from (length text)
      → IfSome there (λ r. byte r ≡ get_or text from (byte r)) → (amp : R) → byte amp ≡ ampersand
      → option_eq (λ r s. eqb (byte r) (byte s)) there (Some amp) ≡ annotation (drop from text)
  unfolding annotation
  starts_with byte None some is amp h = sym (ap annotation (drop_of_length-le text (ltb-false from (length text) (sym some))))
  starts_with byte (Some r) some is amp h =
      rw h (ap (λ b. eqb b ampersand) is ∙ byte_there (byte r) (ltb-true from (length text) (sym some)))
