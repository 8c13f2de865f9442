-- Entries one behind the other in some bytes: what a walk over a roll has passed. For the code and the laws; no answer is told by it.
use Rattle.std.specs.Prelude.{ℕ, ◌+◌, ◌≤◌, ◌≡◌, List, [], ◌∷◌, length, drop}
use Rattle.stored.specs.Counted.{FRONT}
use Rattle.roll_format.specs.Format.{Entry, entry, longest}

-- entries that stand one behind the other from a place on, up to another
abbrev pub EntriesStand : (bytes : List ℕ) → (from : ℕ) → List Entry → (upto : ℕ) → Type 0
EntriesStand bytes from [] upto = from ≡ upto
EntriesStand bytes from (e ∷ es) upto =
    (e.place ≡ from) × ((next : ℕ) × (entry (drop from bytes) ≡ FRONT e.parts (drop next bytes)) × (from + 4 ≤ next) × (next ≤ length bytes) × EntriesStand bytes next es upto)

-- sections whose counts fit into four bytes
abbrev pub Storable : List (List ℕ) → Type 0
Storable [] = Unit {0}
Storable (s ∷ ss) = (length s ≤ longest) × Storable ss
