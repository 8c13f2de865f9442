-- What the code says of a roll's entries, where the definition has the entries themselves.
use Rattle.std.specs.Prelude.{ℕ, ◌-◌, ◌≡◌, List, ◌++◌, reverse, length, drop, Option, Some, None, Result, Ok, Err}
use Rattle.stored.specs.Counted.{AtFront, CUT, FRONT}
use Rattle.roll_rules.specs.Answers.{Judged, ENTRIES, REFUSED, RollAnswer, listed_as, places}
use Rattle.roll_format.specs.Format.{Entry}
use Rattle.roll_rules.specs.declared.Counts.{Counts}
use Rattle.roll_rules.specs.declared.RollRefusal.{RollRefusal}
use Rattle.roll_rules.specs.declared.RollRefusal.TheVariants.{BadRoll}
use Rattle.roll_rules.specs.EntriesBefore.{EntriesBefore}
use Rattle.roll_weigh.specs.Weighed.{Weighed, weighed_at}
use Rattle.roll_read.specs.declared.JudgedEntry.{JudgedEntry}

-- the entry at a place is torn, or breaks a rule, or is counted, and the next one would stand at a place
abbrev pub Judgement : Type 0
Judgement = Result (Option JudgedEntry) RollRefusal

abbrev pub judged_entry : (next : ℕ) → Counts → JudgedEntry
judged_entry next counts = record { next = next; counts = counts }

-- whatever is wrong with an entry, the roll is refused by its place
abbrev pub weight_judged : (at : ℕ) → Weighed → (next : ℕ) → Judgement
weight_judged at (Ok counts) next = Ok (Some (judged_entry next counts))
weight_judged at (Err r) next = Err (BadRoll at)

unfoldable pub entry_judged : (earlier : List Entry) → (at : ℕ) → AtFront (List (List ℕ)) → (bytes : List ℕ) → Judgement
entry_judged earlier at CUT bytes = Ok None
entry_judged earlier at (FRONT parts rest) bytes = weight_judged at (weighed_at earlier at parts) (length bytes - length rest)

-- a list with the places of entries in its front
abbrev pub filled : List Entry → List ℕ → List ℕ
filled es list = places es ++ drop (length es) list

-- so many entries stand before the end
pub record Fillable (bytes : List ℕ) (end : ℕ) (many : ℕ) : Type 0 where
  pub es : List Entry
  pub before : EntriesBefore bytes es end
  pub room : length es ≡ many

-- what the entries come to, or the refusal
abbrev pub judged_as : Judged → RollAnswer
judged_as (ENTRIES es end) = listed_as (reverse es) end
judged_as (REFUSED r) = Err r
