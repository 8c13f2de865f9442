-- Where a character begins at a place of a text, all its bytes are in the text.
use Prim.Native.Nat.{ℕ, ◌+◌, ◌-◌, ◌≤◌}
use mathlib.Core.Path.{◌≡◌, ap, sym, ◌∙◌}
use mathlib.Core.List.{List}
use native.Mathlib.Omega.{arith}
use lib.ListN.{length, take, drop, length-drop}
use lib.Seq.{take_all}
use Rattle.std.specs.Prelude.{Option, Some, None}
use Rattle.std.specs.Option.{IfSome}
use Rattle.plan.specs.declared.Character.{Character}
use Rattle.plan.specs.Token.{character}
use Rattle.plan.proofs.Utf8.{character_width}

-- the bytes from the place on, and the character that they begin with
module _ (text rest : List ℕ) (at : ℕ) (is : rest ≡ take (length text - at) (drop at text)) where
  from_there : character rest ≡ character (drop at text)
  from_there = ap character (is ∙ take_all (length text - at) (drop at text) (omega (arith, length-drop at text)))

  pub bytes_there : (r : Option Character) → r ≡ character rest → IfSome r (λ c. (1 ≤ c.width) × (at + c.width ≤ length text))
  bytes_there None e = tt
  bytes_there (Some c) e =
      let wide = character_width (drop at text) (sym (e ∙ from_there)) in
      (wide.0, omega (arith, wide.0, wide.1, length-drop at text))
