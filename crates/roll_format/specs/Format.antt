-- The bytes of a roll: entries, one behind the other, and where they end; what an entry says; and an entry's bytes. Nothing here asks
-- whether an entry is right.
use Rattle.std.specs.Prelude.{ℕ, zero, suc, ◌-◌, cond, List, [], ◌∷◌, ◌++◌, eqb, length}
use Rattle.std.specs.Prelude.{Option, None, Some}
use Rattle.stored.specs.Counted.{AtFront, CUT, FRONT, counted, four_bytes, largest, number, then_read, with_count}
use Rattle.roll_format.specs.declared.EntryKind.{EntryKind}
use Rattle.roll_format.specs.declared.EntryKind.TheVariants.{Filed, Done}
use Rattle.roll_format.specs.declared.NewEntry.{NewEntry}
use Rattle.roll_format.specs.declared.NewEntry.TheVariants.{Filed as NewFiled, Done as NewDone}

-- no roll and no buffer is longer
abbrev pub longest : ℕ
longest = largest

-- so many sections, each behind its byte count
unfoldable pub sections : ℕ → List ℕ → AtFront (List (List ℕ))
sections zero bs = FRONT [] bs
sections (suc k) bs = then_read (counted bs) (λ s rest. then_read (sections k rest) (λ ss later. FRONT (s ∷ ss) later))

-- An entry is its number of sections, and then the sections. It is whole when every byte that it announces is there.
unfoldable pub entry : List ℕ → AtFront (List (List ℕ))
entry bs = then_read (number bs) sections

-- a whole entry, with the place of its first byte
pub record Entry : Type 0 where
  pub place : ℕ
  pub parts : List (List ℕ)

-- the whole entries in order, and where they end: the place where the first entry that is not whole starts, or else the end of the bytes
pub record Listing : Type 0 where
  pub entries : List Entry
  pub end : ℕ

unfoldable pub with_first : Entry → Listing → Listing
with_first e l = record { entries = e ∷ l.entries; end = l.end }

unfoldable pub then_listed : (at : ℕ) → AtFront (List (List ℕ)) → (List ℕ → Listing) → Listing
then_listed at CUT later = record { entries = []; end = at }
then_listed at (FRONT ss rest) later = with_first (record { place = at; parts = ss }) (later rest)

-- the listing from the place `at` on; the first `skip` bytes belong to an entry that was listed already
unfoldable pub listing : (skip at : ℕ) → List ℕ → Listing
listing skip at [] = record { entries = []; end = at }
listing (suc skip) at (b ∷ bs) = listing skip (suc at) bs
listing zero at (b ∷ bs) = then_listed at (entry (b ∷ bs)) (λ rest. listing (length bs - length rest) (suc at) bs)

-- a roll of no bytes lists nothing; any other starts with the byte `first`
unfoldable pub roll : (first : ℕ) → List ℕ → Option Listing
roll first [] = Some (record { entries = []; end = 0 })
roll first (b ∷ bs) = cond (eqb b first) (Some (listing 0 1 bs)) None

-- FILED has two sections, the job number and the text; DONE has one, the job number
pub data EntrySays : Type 0 where
  FILED : (job text : List ℕ) → EntrySays
  DONE : (job : List ℕ) → EntrySays
  NEITHER : EntrySays

unfoldable pub says : List (List ℕ) → EntrySays
says [] = NEITHER
says (job ∷ []) = DONE job
says (job ∷ text ∷ []) = FILED job text
says (a ∷ b ∷ c ∷ more) = NEITHER

-- the sections of an entry of each kind
abbrev pub parts_of : EntryKind → (job text : List ℕ) → List (List ℕ)
parts_of Filed job text = job ∷ text ∷ []
parts_of Done job text = job ∷ []

-- the sections of an entry to go behind those of a roll
abbrev pub parts_in : NewEntry → List (List ℕ)
parts_in (NewFiled job text) = parts_of Filed job.now text.now
parts_in (NewDone job) = parts_of Done job.now []

abbrev pub job_in : NewEntry → List ℕ
job_in (NewFiled job text) = job.now
job_in (NewDone job) = job.now

-- an entry, written
unfoldable pub sections_bytes : List (List ℕ) → List ℕ
sections_bytes [] = []
sections_bytes (s ∷ ss) = with_count s ++ sections_bytes ss

unfoldable pub entry_bytes : List (List ℕ) → List ℕ
entry_bytes parts = four_bytes (length parts) ++ sections_bytes parts
