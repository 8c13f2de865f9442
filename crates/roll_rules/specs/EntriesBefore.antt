-- The entries of a roll that stand before a place and obey the rules: what a walk over a roll has passed, and what they come to with one
-- more. For the code and the laws; no answer is told by it.
use Rattle.std.specs.Prelude.{ℕ, ◌+◌, ◌≤◌, ◌<◌, ◌≡◌, Bool, List, [], reverse, length}
use Rattle.std.specs.Prelude.{None}
use Rattle.kinds.specs.Limits.{standard}
use Rattle.roll_rules.specs.Answers.{grown}
use Rattle.roll_format.specs.Format.{Entry, longest}
use Rattle.roll_format.specs.EntriesStand.{EntriesStand}
use Rattle.roll_rules.specs.declared.Sums.{Sums}
use Rattle.roll_rules.specs.Rules.{broken}

-- the entries of a roll before a place: they obey the rules, and before 0 there is none
pub record EntriesBefore (bytes : List ℕ) (es : List Entry) (upto : ℕ) : Type 0 where
  pub short : length bytes ≤ longest
  pub within : upto ≤ length bytes
  pub none_there : upto ≡ 0 → es ≡ []
  pub stand : 0 < upto → EntriesStand bytes 1 es upto
  pub obeyed : broken standard [] es ≡ None

-- some entries stand before the place
pub record HasEntriesBefore (bytes : List ℕ) (upto : ℕ) : Type 0 where
  pub es : List Entry
  pub before : EntriesBefore bytes es upto

-- what is said of the entries before the place, the newest first
abbrev pub Behind : (bytes : List ℕ) → (upto : ℕ) → (List Entry → Type 0) → Type 0
Behind bytes upto Said = (es : List Entry) → EntriesBefore bytes es upto → Said (reverse es)

-- what the entries come to with one entry more; that entry may count as a job filed or as a job done, and it ends at a place
abbrev pub one_entry_more : Sums → (more_filed more_done : Bool) → (end : ℕ) → Sums
one_entry_more s more_filed more_done end =
    record { entries = s.entries + 1; filed = grown more_filed s.filed; done = grown more_done s.done; end = end }
