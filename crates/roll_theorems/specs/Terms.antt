-- The words of the roll's theorems.
use Rattle.std.specs.Prelude.{ℕ, ◌+◌, ◌≤◌, min, ◌≡◌, ◌⊎◌, Bool, false, cond, List, [], ◌∷◌, ◌++◌, reverse, leb, drop, length, take}
use Rattle.roll_rules.specs.Answers.{ENTRIES, RollAnswer, edition_1, judged, listed_as, new_entry, places, roll_numbers}
use Rattle.roll_format.specs.Format.{DONE, Entry, EntrySays, FILED, NEITHER, says}
use Rattle.roll_rules.specs.declared.Tally.{Tally}
use Rattle.stored.specs.Same.{same}
use Rattle.roll_rules.specs.Rules.{done, filed, FILED_AT, standing}
use Rattle.kinds.specs.Limits.{cell_limit}
use Rattle.demands.specs.Terms.{Bare, NoRuleApplies, Reads}

-- the bytes read as these entries, which end there
abbrev pub RollReads : (roll : List ℕ) → List Entry → (end : ℕ) → Type 0
RollReads roll es end = judged edition_1 roll ≡ ENTRIES es end

-- the bytes of sections, each behind its count; and where an entry ends
unfoldable pub sections_size : List (List ℕ) → ℕ
sections_size [] = 0
sections_size (s ∷ ss) = 4 + length s + sections_size ss

unfoldable pub entry_end : Entry → ℕ
entry_end e = e.place + 4 + sections_size e.parts

-- the entries that are whole in a front part of so many bytes
unfoldable pub whole_in : (bytes : ℕ) → List Entry → List Entry
whole_in bytes [] = []
whole_in bytes (e ∷ es) = cond (leb (entry_end e) bytes) (e ∷ whole_in bytes es) (whole_in bytes es)

-- where these end: where the first entry starts that is not whole in the front part, else the end of all
unfoldable pub torn_from : (bytes : ℕ) → List Entry → (end : ℕ) → ℕ
torn_from bytes [] end = end
torn_from bytes (e ∷ es) end = cond (leb (entry_end e) bytes) (torn_from bytes es end) e.place

-- an entry is of that job; and none of these entries is
unfoldable pub of_job : (job : List ℕ) → EntrySays → Bool
of_job job (FILED j text) = same j job
of_job job (DONE j) = same j job
of_job job NEITHER = false

abbrev pub NoneOf : (job : List ℕ) → List Entry → Type 0
NoneOf job [] = Unit {0}
NoneOf job (e ∷ es) = (of_job job (says e.parts) ≡ false) × NoneOf job es

-- What stands before and behind a DONE of that job. Before it stands a FILED whose text reads as a plan to which no rule applies. Behind
-- that FILED nothing of that job stands except the DONE.
pub record HasText (job : List ℕ) (before after : List Entry) : Type 0 where
  pub earlier : List Entry
  pub filing : Entry
  pub between : List Entry
  pub split : before ≡ earlier ++ filing ∷ between
  pub text : List ℕ
  pub files : says filing.parts ≡ FILED job text
  pub plan : Bare
  pub reads : Reads cell_limit text plan
  pub finished : NoRuleApplies plan
  pub none_between : NoneOf job between
  pub none_after : NoneOf job after

-- the numbers of some refusals; 3 is the demands' `READ`
abbrev pub BADROLL : ℕ
BADROLL = 31

abbrev pub BADTEXT : ℕ
BADTEXT = 33

abbrev pub UNFINISHED : ℕ
UNFINISHED = 36

abbrev pub NOROOM : ℕ
NOROOM = 37

-- the tally is that of these entries
pub record TallyOf (tally : Tally) (es : List Entry) : Type 0 where
  pub jobs_filed : tally.filed ≡ filed (reverse es)
  pub jobs_done : tally.done ≡ done (reverse es)

-- the last entry of that job is a FILED of this text, at that place
abbrev pub FiledLast : (job text : List ℕ) → List Entry → (place : ℕ) → Type 0
FiledLast job text es place = standing job (reverse es) ≡ FILED_AT place text

-- What an added entry did to the roll. The earlier entries and their places stay, and the new entry is the last. The answer is that of the
-- new roll. However many of the new bytes are on the disk, the roll reads up to where the torn entry starts, else up to the end.
pub record OneMore (buffer : List ℕ) (used : ℕ) (parts : List (List ℕ)) (r : RollAnswer) (buffer' : List ℕ) : Type 0 where
  pub es : List Entry
  pub end : ℕ
  pub read : RollReads (take used buffer) es end
  pub reads_now : RollReads (take (roll_numbers r).place buffer') (es ++ new_entry end parts ∷ []) (roll_numbers r).place
  pub answered : r ≡ listed_as (reverse (es ++ new_entry end parts ∷ [])) (roll_numbers r).place
  pub cut_anywhere : (n : ℕ) → end ≤ n → n ≤ (roll_numbers r).place
      → let e = min n (torn_from n (es ++ new_entry end parts ∷ []) (roll_numbers r).place) in
      RollReads (take n buffer') es e ⊎ RollReads (take n buffer') (es ++ new_entry end parts ∷ []) e

-- a refusal: its three numbers in the middle are 0, and every byte and both counts are as they were
pub record Unchanged (buffer : List ℕ) (tally : Tally) (r : RollAnswer) (buffer' : List ℕ) (tally' : Tally) : Type 0 where
  pub same_bytes : buffer' ≡ buffer
  pub same_tally : tally' ≡ tally
  pub no_entries : (roll_numbers r).entries ≡ 0
  pub no_filed : (roll_numbers r).filed ≡ 0
  pub no_done : (roll_numbers r).done ≡ 0

-- what reading answers for these entries: their numbers, and their places first in the list
pub record ListedAs (es : List Entry) (end : ℕ) (list : List ℕ) (r : RollAnswer) (list' : List ℕ) : Type 0 where
  pub answered : r ≡ listed_as (reverse es) end
  pub listed : list' ≡ places es ++ drop (length es) list

-- and for a roll that is refused
pub record Unlisted (list : List ℕ) (r : RollAnswer) (list' : List ℕ) : Type 0 where
  pub same_list : list' ≡ list
  pub no_entries : (roll_numbers r).entries ≡ 0
  pub no_filed : (roll_numbers r).filed ≡ 0
  pub no_done : (roll_numbers r).done ≡ 0
