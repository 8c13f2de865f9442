-- What the code says of an entry at a place: told by what stands at the front of the bytes from there on.
use Rattle.std.specs.Prelude.{ℕ, ◌+◌, ◌-◌, List, [], ◌∷◌, length, drop, Option, Some, None}
use Rattle.stored.specs.Counted.{AtFront, CUT, FRONT}
use Rattle.roll_format.specs.Format.{EntrySays, NEITHER, entry, parts_of, says, sections}
use Rattle.stored.specs.Spans.{SpanWithin, part, span}
use Rattle.roll_format.specs.declared.EntryKind.TheVariants.{Filed, Done}
use Rattle.roll_entries.specs.declared.EntryAt.{EntryAt}
use Rattle.roll_entries.specs.declared.EntryAt.TheVariants.{Known, Other}

-- what is left tells where the bytes read so far end
abbrev pub sections_end_told : (bytes : List ℕ) → AtFront (List (List ℕ)) → Option ℕ
sections_end_told bytes CUT = None
sections_end_told bytes (FRONT ss rest) = Some (length bytes - length rest)

-- what the sections of an entry tell of it; the first of them begins at the place
abbrev pub parts_told : (bytes : List ℕ) → (at : ℕ) → AtFront (List (List ℕ)) → Option EntryAt
parts_told bytes at CUT = None
parts_told bytes at (FRONT [] rest) = Some (Other (length bytes - length rest))
parts_told bytes at (FRONT (job ∷ []) rest) = Some (Known Done (span (at + 4) (length job)) (span 0 0) (length bytes - length rest))
parts_told bytes at (FRONT (job ∷ text ∷ []) rest) =
    Some (Known Filed (span (at + 4) (length job)) (span (at + 4 + length job + 4) (length text)) (length bytes - length rest))
parts_told bytes at (FRONT (a ∷ b ∷ c ∷ more) rest) = Some (Other (length bytes - length rest))

unfoldable pub done_at : (bytes : List ℕ) → (at : ℕ) → Option EntryAt
done_at bytes at = parts_told bytes at (sections 1 (drop at bytes))

unfoldable pub filed_at : (bytes : List ℕ) → (at : ℕ) → Option EntryAt
filed_at bytes at = parts_told bytes at (sections 2 (drop at bytes))

abbrev pub others_told : (bytes : List ℕ) → AtFront (List (List ℕ)) → Option EntryAt
others_told bytes CUT = None
others_told bytes (FRONT ss rest) = Some (Other (length bytes - length rest))

unfoldable pub other_at : (bytes : List ℕ) → (at count : ℕ) → Option EntryAt
other_at bytes at count = others_told bytes (sections count (drop at bytes))

unfoldable pub entry_at : (bytes : List ℕ) → (at : ℕ) → Option EntryAt
entry_at bytes at = parts_told bytes (at + 4) (entry (drop at bytes))

-- what an entry says, by its spans; and that its spans stand in the roll
abbrev pub says_told : (bytes : List ℕ) → Option EntryAt → EntrySays
says_told bytes None = NEITHER
says_told bytes (Some (Other next)) = NEITHER
says_told bytes (Some (Known kind job text next)) = says (parts_of kind (part bytes job) (part bytes text))

abbrev pub EntryWithin : (bytes : List ℕ) → Option EntryAt → Type 0
EntryWithin bytes None = Unit {0}
EntryWithin bytes (Some (Other next)) = Unit {0}
EntryWithin bytes (Some (Known kind job text next)) = SpanWithin bytes job × SpanWithin bytes text

abbrev pub next_told : Option EntryAt → (end : ℕ) → ℕ
next_told None end = end
next_told (Some (Other next)) end = next
next_told (Some (Known kind job text next)) end = next
