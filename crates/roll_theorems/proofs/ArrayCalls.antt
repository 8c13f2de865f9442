-- A call over the C interface is a call of the service, with its answer and its tally told by numbers: so every theorem of the roll holds
-- of it. Reading has the service's call in `Answers`; adding has it here.
use Prim.Native.Nat.{ℕ}
use mathlib.Core.Path.{◌≡◌, refl}
use mathlib.Core.List.{List, [], ◌∷◌}
use Rattle.roll_rules.specs.Answers.{Added, grown, roll_numbers}
use Rattle.roll_rules.specs.declared.Tally.{Tally}
use Rattle.roll_add.specs.Calls.{Adds}
use Rattle.turnip.specs.RollArrays.{AddsInArray, five_of_roll}

-- a theorem of the roll
pub array_adds : {a : Added} {f d : ℕ} {buffer' tally' array : List ℕ} → AddsInArray a (f ∷ d ∷ []) buffer' tally' array
    → (t : Tally) × Adds a (record { filed = f; done = d }) a.answer buffer' t × (tally' ≡ t.filed ∷ t.done ∷ []) × (array ≡ five_of_roll (roll_numbers a.answer))
array_adds {a} {f} {d} s =
    (record { filed = grown a.more_filed f; done = grown a.more_done d }, record { answer = refl; bytes = s.bytes; filed = refl; done = refl }, s.counts, s.told)
