-- What the services of the roll answer and leave, for every input.
use Rattle.std.specs.Prelude.{ℕ, ◌+◌, min, Bool, false, cond, List, [], ◌∷◌, ◌++◌, map, reverse, eqb, leb, ltb, length, take, drop}
use Rattle.std.specs.Prelude.{Option, None, Some, Result, Ok, Err}
use Rattle.plan.specs.Options.{◌else◌}
use Rattle.kinds.specs.Limits.{Limits, standard}
use Rattle.stored.specs.Counted.{AtFront, CUT, FRONT, largest}
use Rattle.roll_rules.specs.declared.RollNumbers.{RollNumbers}
use Rattle.roll_rules.specs.declared.RollRefusal.{RollRefusal}
use Rattle.roll_rules.specs.declared.Sums.{Sums}
use Rattle.roll_format.specs.declared.EntryKind.TheVariants.{Filed, Done}
use Rattle.roll_rules.specs.declared.RollRefusal.TheVariants.{TooLong, BadRoll, BadJob, BadText, AlreadyDone, Unfiled, Unfinished, NoRoom, MoreEntries}
use Rattle.roll_rules.specs.declared.FoundEntry.{FoundEntry}
use Rattle.roll_rules.specs.declared.EntryRefusal.{EntryRefusal}
use Rattle.roll_rules.specs.declared.EntryRefusal.TheVariants.{TooLong as EntryTooLong, NoEntry}
use Rattle.roll_format.specs.Format.{Entry, Listing, entry, entry_bytes, longest, parts_of, roll, says}
use Rattle.roll_rules.specs.Rules.{broken, counts_done, counts_filed, done, fault, filed}

-- what reading a roll and adding to it answer, and what asking for one entry does
abbrev pub RollAnswer : Type 0
RollAnswer = Result Sums RollRefusal

abbrev pub EntryAnswer : Type 0
EntryAnswer = Result FoundEntry EntryRefusal

abbrev pub found_entry : (job job_bytes text text_bytes : ℕ) → EntryAnswer
found_entry job job_bytes text text_bytes = Ok (record { job = job; job_bytes = job_bytes; text = text; text_bytes = text_bytes })

abbrev pub roll_refusal_number : RollRefusal → ℕ
roll_refusal_number TooLong = 11
roll_refusal_number (BadRoll place) = 31
roll_refusal_number BadJob = 32
roll_refusal_number BadText = 33
roll_refusal_number (AlreadyDone place) = 34
roll_refusal_number Unfiled = 35
roll_refusal_number (Unfinished place) = 36
roll_refusal_number (NoRoom bytes) = 37
roll_refusal_number (MoreEntries entries) = 38

abbrev pub roll_refusal_place : RollRefusal → ℕ
roll_refusal_place TooLong = 0
roll_refusal_place (BadRoll place) = place
roll_refusal_place BadJob = 0
roll_refusal_place BadText = 0
roll_refusal_place (AlreadyDone place) = place
roll_refusal_place Unfiled = 0
roll_refusal_place (Unfinished place) = place
roll_refusal_place (NoRoom bytes) = bytes
roll_refusal_place (MoreEntries entries) = entries

-- the number of a roll that reads, of an entry that is added, and of one that is found
abbrev pub listed_number : ℕ
listed_number = 3

abbrev pub roll_numbers : RollAnswer → RollNumbers
roll_numbers (Ok s) = record { number = listed_number; entries = s.entries; filed = s.filed; done = s.done; place = s.end }
roll_numbers (Err r) = record { number = roll_refusal_number r; entries = 0; filed = 0; done = 0; place = roll_refusal_place r }

abbrev pub entry_number : EntryAnswer → ℕ
entry_number (Err EntryTooLong) = roll_refusal_number TooLong
entry_number (Err NoEntry) = 39
entry_number (Ok found) = listed_number

-- an edition of the roll: its first byte, and the limits of the plans in it
pub record Edition : Type 0 where
  pub first : ℕ
  pub limits : Limits

abbrev pub edition_1 : Edition
edition_1 = record { first = 1; limits = standard }

-- a roll that reads as these entries, up to their end; or is refused
pub data Judged : Type 0 where
  ENTRIES : (entries : List Entry) → (end : ℕ) → Judged
  REFUSED : RollRefusal → Judged

unfoldable pub unbroken : Option ℕ → Listing → Judged
unbroken None l = ENTRIES l.entries l.end
unbroken (Some place) l = REFUSED (BadRoll place)

unfoldable pub by_rules : Limits → Option Listing → Judged
by_rules lim None = REFUSED (BadRoll 0)
by_rules lim (Some l) = unbroken (broken lim [] l.entries) l

unfoldable pub judged : Edition → List ℕ → Judged
judged ed bytes = cond (ltb longest (length bytes)) (REFUSED TooLong) (by_rules ed.limits (roll ed.first bytes))

-- what entries come to, given the newest first, and the answer for those that read
abbrev pub sums : (es : List Entry) → (end : ℕ) → Sums
sums es end = record { entries = length es; filed = filed es; done = done es; end = end }

abbrev pub listed_as : (es : List Entry) → (end : ℕ) → RollAnswer
listed_as es end = Ok (sums es end)

-- Reading: the places go to the front of the list, and its other numbers are as they were; or the list is too short.
pub record Read : Type 0 where
  pub answer : RollAnswer
  pub list : List ℕ

unfoldable pub places : List Entry → List ℕ
places es = map (λ (e : Entry). e.place) es

unfoldable pub fill : Judged → List ℕ → Read
fill (REFUSED r) list = record { answer = Err r; list = list }
fill (ENTRIES es end) list =
    cond (leb (length es) (length list)) (record { answer = listed_as (reverse es) end; list = places es ++ drop (length es) list })
    (record { answer = Err (MoreEntries (length es)); list = list })

unfoldable pub read_roll : Edition → (bytes list : List ℕ) → Read
read_roll ed bytes list = fill (judged ed bytes) list

-- One entry: where its job number and its text stand, and how long they are; nothing but its own bytes is looked at.
unfoldable pub entry_told : (at : ℕ) → AtFront (List (List ℕ)) → EntryAnswer
entry_told at CUT = Err NoEntry
entry_told at (FRONT [] rest) = Err NoEntry
entry_told at (FRONT (job ∷ []) rest) = found_entry (at + 8) (length job) 0 0
entry_told at (FRONT (job ∷ text ∷ []) rest) = found_entry (at + 8) (length job) (at + 12 + length job) (length text)
entry_told at (FRONT (a ∷ b ∷ c ∷ more) rest) = Err NoEntry

unfoldable pub one_entry : (bytes : List ℕ) → (at : ℕ) → EntryAnswer
one_entry bytes at = cond (ltb longest (length bytes)) (Err EntryTooLong) (entry_told at (entry (drop at bytes)))

-- Adding: the new entry goes to the end. In a roll of no bytes it goes behind the first byte, which is put too.
unfoldable pub new_bytes : Edition → (end : ℕ) → List (List ℕ) → List ℕ
new_bytes ed end parts = cond (eqb end 0) (ed.first ∷ entry_bytes parts) (entry_bytes parts)

abbrev pub new_entry : (end : ℕ) → List (List ℕ) → Entry
new_entry end parts = record { place = cond (eqb end 0) 1 end; parts = parts }

-- what adding answers, what the buffer then holds, and whether the tally's two counts grow
pub record Added : Type 0 where
  pub answer : RollAnswer
  pub buffer : List ℕ
  pub more_filed : Bool
  pub more_done : Bool

abbrev pub not_added : List ℕ → RollRefusal → Added
not_added buffer r = record { answer = Err r; buffer = buffer; more_filed = false; more_done = false }

abbrev pub added_entry : Edition → (buffer : List ℕ) → (earlier : List Entry) → (end : ℕ) → (parts : List (List ℕ)) → Added
added_entry ed buffer earlier end parts =
    record {
      answer = listed_as (new_entry end parts ∷ earlier) (end + length (new_bytes ed end parts));
      buffer = take end buffer ++ new_bytes ed end parts ++ drop (end + length (new_bytes ed end parts)) buffer;
      more_filed = counts_filed earlier (says parts);
      more_done = counts_done (says parts);
    }

unfoldable pub no_room : (room end : ℕ) → Option RollRefusal
no_room room end = cond (leb end room) None (Some (NoRoom (min end largest)))

unfoldable pub unless : Option RollRefusal → (buffer : List ℕ) → Added → Added
unless None buffer added = added
unless (Some r) buffer added = not_added buffer r

-- a roll that does not read is refused first, then an entry with which something is wrong, and lack of room last
unfoldable pub add_to : Edition → (buffer : List ℕ) → Judged → (parts : List (List ℕ)) → Added
add_to ed buffer (REFUSED r) parts = not_added buffer r
add_to ed buffer (ENTRIES es end) parts =
    let refusal = fault ed.limits (reverse es) (new_entry end parts) else no_room (length buffer) (end + length (new_bytes ed end parts)) in
    unless refusal buffer (added_entry ed buffer (reverse es) end parts)

-- Only the bytes in use of the buffer are a roll. A use longer than the buffer counts as all of it. A buffer that is too long is refused.
unfoldable pub in_use : Edition → (buffer : List ℕ) → (used : ℕ) → Judged
in_use ed buffer used = cond (ltb longest (length buffer)) (REFUSED TooLong) (judged ed (take used buffer))

unfoldable pub add : Edition → (buffer : List ℕ) → (used : ℕ) → (parts : List (List ℕ)) → Added
add ed buffer used parts = add_to ed buffer (in_use ed buffer used) parts

unfoldable pub file : Edition → (buffer : List ℕ) → (used : ℕ) → (job text : List ℕ) → Added
file ed buffer used job text = add ed buffer used (parts_of Filed job text)

unfoldable pub close_job : Edition → (buffer : List ℕ) → (used : ℕ) → (job : List ℕ) → Added
close_job ed buffer used job = add ed buffer used (parts_of Done job [])

-- a count of the tally, which stops at the largest number
unfoldable pub grown : Bool → ℕ → ℕ
grown more n = cond more (min (n + 1) largest) n
