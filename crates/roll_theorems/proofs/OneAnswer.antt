-- No second answer meets a contract of the roll. The contract settles every number answered, every byte of the
-- buffer, and every number of list and tally.
use Prim.Native.Nat.{ℕ}
use mathlib.Core.Path.{◌≡◌, ap, ap₂, sym, ◌∙◌}
use mathlib.Core.List.{List}
use Rattle.roll_rules.specs.Answers.{Added, RollAnswer, one_entry, roll_numbers}
use Rattle.roll_rules.specs.declared.Tally.{Tally}
use Rattle.roll_read.specs.Calls.{Lists}
use Rattle.roll_add.specs.Calls.{Adds}
use Rattle.turnip.specs.RollArrays.{AddsInArray, five_of_entry, five_of_roll}
use Rattle.turnip.specs.Arrays.{InArray}

-- a theorem of the roll
pub read-one_answer : {roll list : List ℕ} {r s : RollAnswer} {a b : List ℕ} → Lists roll list r a → Lists roll list s b → (r ≡ s) × (a ≡ b)
read-one_answer g h = (g.answer ∙ sym h.answer, g.places ∙ sym h.places)

-- of FILED and of DONE
-- a theorem of the roll
pub add-one_answer : {x : Added} {tally : Tally} {r s : RollAnswer} {a b : List ℕ} {t u : Tally} → Adds x tally r a t → Adds x tally s b u → (r ≡ s) × (a ≡ b) × (t ≡ u)
add-one_answer g h =
    (g.answer ∙ sym h.answer, g.bytes ∙ sym h.bytes, ap₂ (λ (f d : ℕ). record { filed = f; done = d }) (g.filed ∙ sym h.filed) (g.done ∙ sym h.done))

-- Over the C interface as well.
-- a theorem of the roll
pub read_array_once : {roll list a b array array₂ : List ℕ} → InArray (λ r. five_of_roll (roll_numbers r)) (λ r. Lists roll list r a) array → InArray (λ r. five_of_roll (roll_numbers r)) (λ r. Lists roll list r b) array₂
    → (array ≡ array₂) × (a ≡ b)
read_array_once g h =
    let same = read-one_answer g.did h.did in (g.told ∙ ap (λ r. five_of_roll (roll_numbers r)) same.0 ∙ sym h.told, same.1)

-- a theorem of the roll
pub entry_array_once : (roll : List ℕ) (at : ℕ) {array array₂ : List ℕ} → array ≡ five_of_entry (one_entry roll at) → array₂ ≡ five_of_entry (one_entry roll at)
    → array ≡ array₂
entry_array_once roll at g h = g ∙ sym h

-- a theorem of the roll
pub add_array_once : {x : Added} {tally a b t u array array₂ : List ℕ} → AddsInArray x tally a t array → AddsInArray x tally b u array₂
    → (array ≡ array₂) × (a ≡ b) × (t ≡ u)
add_array_once g h = (g.told ∙ sym h.told, g.bytes ∙ sym h.bytes, g.counts ∙ sym h.counts)
