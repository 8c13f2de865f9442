-- What the parts of adding promise each other. Of the roll they say what it comes to. Of the entry they
-- say, by its sections, what is wrong with it.
use Rattle.std.specs.Prelude.{ℕ, ◌*◌, ◌≤◌, ◌≡◌, ◌⊎◌, Bool, false, List, reverse, length, None, Some, Result, Ok, Err}
use Rattle.kinds.specs.Limits.{standard}
use Rattle.roll_rules.specs.Answers.{Added, Judged, ENTRIES, REFUSED, RollAnswer, edition_1, grown, judged, new_entry, sums}
use Rattle.roll_format.specs.Format.{Entry, longest, says}
use Rattle.roll_rules.specs.Rules.{counts_done, counts_filed, fault}
use Rattle.roll_rules.specs.declared.Counts.{Counts}
use Rattle.roll_rules.specs.declared.RollRefusal.{RollRefusal}
use Rattle.roll_rules.specs.declared.Sums.{Sums}
use Rattle.roll_rules.specs.declared.Tally.{Tally}
use Rattle.roll_add.specs.declared.Entered.{Entered}

-- a roll that reads, to which the entry may be added
pub record FineRoll (j : Judged) (parts : List (List ℕ)) (bytes : ℕ) (s : Sums) (more_filed more_done : Bool) : Type 0 where
  pub es : List Entry
  pub reads : j ≡ ENTRIES es s.end
  pub comes : s ≡ sums (reverse es) s.end
  pub within : s.end ≤ bytes
  pub few : 4 * s.entries ≤ s.end
  pub short : bytes ≤ longest
  pub fine : fault standard (reverse es) (new_entry s.end parts) ≡ None
  pub filed_so : more_filed ≡ counts_filed (reverse es) (says parts)
  pub done_so : more_done ≡ counts_done (says parts)

-- a roll that does not read, or an entry with which something is wrong
abbrev pub RefusedFirst : (j : Judged) → (parts : List (List ℕ)) → RollRefusal → Type 0
RefusedFirst j parts q = (j ≡ REFUSED q) ⊎ ((es : List Entry) × (end : ℕ) × (j ≡ ENTRIES es end) × (fault standard (reverse es) (new_entry end parts) ≡ Some q))

-- what the roll comes to, and what the entry counts as; or the refusal
abbrev pub Admission : Type 0
Admission = Result (Sums × Counts) RollRefusal

abbrev pub JudgedWeighed : (j : Judged) → (parts : List (List ℕ)) → (bytes : ℕ) → Admission → Type 0
JudgedWeighed j parts bytes (Err q) = RefusedFirst j parts q
JudgedWeighed j parts bytes (Ok w) = FineRoll j parts bytes w.0 w.1.filed w.1.done

abbrev pub RollWeighed : (roll : List ℕ) → (parts : List (List ℕ)) → Admission → Type 0
RollWeighed roll parts r = JudgedWeighed (judged edition_1 roll) parts (length roll) r

-- an entry added, or the refusal, which counts nothing
abbrev pub Entering : Type 0
Entering = Result Entered RollRefusal

abbrev pub answer_of : Entering → RollAnswer
answer_of (Ok e) = Ok e.sums
answer_of (Err q) = Err q

abbrev pub counts_of : Entering → Counts
counts_of (Ok e) = e.counts
counts_of (Err q) = record { filed = false; done = false }

-- what the code answers is what the definition says
pub record EnteredAs (a : Added) (r : Entering) (buffer : List ℕ) : Type 0 where
  pub answer : answer_of r ≡ a.answer
  pub bytes : buffer ≡ a.buffer
  pub more_filed : (counts_of r).filed ≡ a.more_filed
  pub more_done : (counts_of r).done ≡ a.more_done

-- what was added is answered, and counted in the tally lent
abbrev pub TallyCounted : (tally : Tally) → Entering → RollAnswer → (tally' : Tally) → Type 0
TallyCounted h e r k = (r ≡ answer_of e) × (k.filed ≡ grown (counts_of e).filed h.filed) × (k.done ≡ grown (counts_of e).done h.done)
