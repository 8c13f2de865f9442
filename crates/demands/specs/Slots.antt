-- Slots as calls of RUN. The first slot reads the run's text. Every other slot reads the text that the slot before it saved. Their memories
-- are equally long, whatever they hold. Each output is long enough for its text: it is so exactly when the answer is not OUTSHORT, and
-- always with 64 bytes for each cell lent.
use Rattle.std.specs.Prelude.{ℕ, ◌+◌, ◌≡◌, ◌≢◌, List, [], ◌∷◌, length}
use Rattle.answers.specs.Run.{RunAnswer, run_numbers}
use Rattle.run.specs.Calls.{Runs}
use Rattle.demands.specs.Terms.{OUTSHORT, saved}

-- one slot: a call of RUN with a memory of that length, its answer, and the text that it saved
pub record Slot (memory_length : ℕ) (text : List ℕ) (quota : ℕ) (r : RunAnswer) (left : List ℕ) : Type 0 where
  pub memory : List ℕ
  pub out : List ℕ
  pub memory' : List ℕ
  pub out' : List ℕ
  pub call : Runs text quota memory out r memory' out'
  pub equal_memory : length memory ≡ memory_length
  pub output_long_enough : (run_numbers r).number ≢ OUTSHORT
  pub saves : left ≡ saved (run_numbers r) out'

-- one or more slots, with these quotas: their steps added up, the last one's answer, and the text that it saved
pub data Slots (memory_length : ℕ) : (text : List ℕ) (quota : ℕ) (quotas : List ℕ) (steps : ℕ) → RunAnswer → (left : List ℕ) → Type 0 where
  only_slot : {text : List ℕ} {quota : ℕ} {r : RunAnswer} {left : List ℕ}
      → Slot memory_length text quota r left → Slots memory_length text quota [] (run_numbers r).steps r left
  first_slot : {text : List ℕ} {quota : ℕ} {r : RunAnswer} {between : List ℕ} {q : ℕ} {quotas : List ℕ} {steps : ℕ} {last : RunAnswer} {left : List ℕ}
      → Slot memory_length text quota r between → Slots memory_length between q quotas steps last left
      → Slots memory_length text quota (q ∷ quotas) ((run_numbers r).steps + steps) last left
