-- What the rows of the worked lists are made of.
use Rattle.std.specs.Prelude.{ℕ, List, [], ◌∷◌}
use Prim.Native.Char.{code}
use Prim.Native.String.{String, [] as empty, ◌∷◌ as ◌then_char◌}
use Rattle.numbers.specs.declared.Numbers.{Numbers}

-- the bytes of a text of ASCII
unfoldable pub bytes : String → List ℕ
bytes empty = []
bytes (c then_char s) = code c ∷ bytes s

abbrev pub five : (number steps cells length place : ℕ) → Numbers
five number steps cells length place =
    record { number = number; steps = steps; cells = cells; length = length; place = place }

-- what an answer and an output say
pub record Told : Type 0 where
  pub says : Numbers
  pub holds : List ℕ
