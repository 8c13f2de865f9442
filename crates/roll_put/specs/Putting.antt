-- What the parts of adding promise each other.
use Rattle.std.specs.Prelude.{ℕ, ◌+◌, ◌≤◌, cond, List, [], ◌∷◌, eqb, length}
use Rattle.roll_rules.specs.Answers.{edition_1, new_bytes}
use Rattle.roll_format.specs.Format.{entry_bytes}
use Rattle.roll_format.specs.EntriesStand.{Storable}

-- the first byte, where there is none yet
abbrev pub opening : (end : ℕ) → List ℕ
opening end = cond (eqb end 0) (edition_1.first ∷ []) []

-- an entry with these sections fits behind the end
pub record RoomFor (buffer : List ℕ) (end : ℕ) (parts : List (List ℕ)) : Type 0 where
  pub storable : Storable parts
  pub room : end + length (new_bytes edition_1 end parts) ≤ length buffer

-- the same at a place of a roll that has its first byte already
pub record RoomAt (buffer : List ℕ) (at : ℕ) (parts : List (List ℕ)) : Type 0 where
  pub storable : Storable parts
  pub room : at + length (entry_bytes parts) ≤ length buffer
