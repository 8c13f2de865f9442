-- A whole entry as the code finds it: its spans hold its sections, and the next one would stand behind it.
use Prim.Native.Nat.{ℕ, suc, ◌+◌, ◌-◌, ◌≤◌}
use mathlib.Core.Path.{◌≡◌, refl, ap, ap₂, sym, subst, ◌∙◌}
use mathlib.Core.List.{List, [], ◌∷◌}
use native.Mathlib.Omega.{arith}
use lib.ListN.{length, take, drop, length-drop}
use lib.Seq.{drop-drop}
use Rattle.kinds.proofs.Tests.{never}
use Rattle.std.specs.Prelude.{Option, Some, None}
use Rattle.stored.specs.Counted.{AtFront, CUT, FRONT, number}
use Rattle.stored.specs.Spans.{SpanWithin, part}
use Rattle.stored.specs.declared.Span.{Span}
use Rattle.stored.proofs.Counted.{number_front, then-parts}
use Rattle.stored.proofs.Places.{counted-there}
use Rattle.roll_format.specs.Format.{NEITHER, entry, parts_of, says, sections}
use Rattle.roll_format.specs.declared.EntryKind.{EntryKind}
use Rattle.roll_format.proofs.Format.{section_parts, sections_many}
use Rattle.roll_entries.specs.declared.EntryAt.{EntryAt}
use Rattle.roll_entries.specs.declared.EntryAt.TheVariants.{Known, Other}
use Rattle.roll_entries.specs.Entries.{EntryWithin, entry_at, next_told, parts_told, says_told}

-- an entry of one of the two kinds
pub record KnownAt (bytes : List ℕ) (at : ℕ) (kind : EntryKind) (job text : Span) (next : ℕ) : Type 0 where
  pub job_within : SpanWithin bytes job
  pub text_within : SpanWithin bytes text
  pub rest : List ℕ
  pub whole : entry (drop at bytes) ≡ FRONT (parts_of kind (part bytes job) (part bytes text)) rest
  pub there : next ≡ length bytes - length rest

-- an entry of neither
pub record OtherAt (bytes : List ℕ) (at next : ℕ) : Type 0 where
  pub parts : List (List ℕ)
  pub neither : says parts ≡ NEITHER
  pub rest : List ℕ
  pub whole : entry (drop at bytes) ≡ FRONT parts rest
  pub there : next ≡ length bytes - length rest

abbrev pub EntryFound : (bytes : List ℕ) → (at : ℕ) → Option EntryAt → Type 0
EntryFound bytes at None = entry (drop at bytes) ≡ CUT
EntryFound bytes at (Some (Other next)) = OtherAt bytes at next
EntryFound bytes at (Some (Known kind job text next)) = KnownAt bytes at kind job text next

module _ (bytes : List ℕ) (at : ℕ) where
  -- the sections of an entry, the first of which stands behind its number
  entry-sections : {parts : List (List ℕ)} {rest : List ℕ} → entry (drop at bytes) ≡ FRONT parts rest → sections (length parts) (drop (at + 4) bytes) ≡ FRONT parts rest
  unfolding entry
  entry-sections {parts} {rest} e =
      let (k, between, one, two) = then-parts (number (drop at bytes)) sections e in
      let same : between ≡ drop (at + 4) bytes = (number_front (drop at bytes) one).1 ∙ drop-drop 4 at bytes in
      ap₂ sections (sections_many k between two) (sym same) ∙ two

  -- the section at a place, and where the others begin
  first_section : (k from : ℕ) {s : List ℕ} {more : List (List ℕ)} {rest : List ℕ} → sections (suc k) (drop from bytes) ≡ FRONT (s ∷ more) rest
      → (from + 4 + length s ≤ length bytes) × (take (length s) (drop (from + 4) bytes) ≡ s) × (sections k (drop (from + 4 + length s) bytes) ≡ FRONT more rest)
  first_section k from {s} {more} {rest} e =
      let (s', between, more', one, two, three) = section_parts k (drop from bytes) e in
      let same : s' ≡ s = cc in
      let others : more' ≡ more = cc in
      let (fits, is, left) = counted-there bytes from (one ∙ ap (λ z. FRONT z between) same) in
      (fits, sym is, ap (sections k) (sym left) ∙ two ∙ ap (λ z. FRONT z rest) others)

  found_by : {x : Option EntryAt} → entry_at bytes at ≡ x → EntryFound bytes at x → EntryFound bytes at (entry_at bytes at)
  found_by e h = subst (EntryFound bytes at) (sym e) h

  pub entry_found : EntryFound bytes at (entry_at bytes at)
  unfolding entry_at says
  entry_found = go (entry (drop at bytes)) refl
    where
      go : (x : AtFront (List (List ℕ))) → entry (drop at bytes) ≡ x → EntryFound bytes at (entry_at bytes at)
      go CUT e = found_by (ap (parts_told bytes (at + 4)) e) e
      go (FRONT [] rest) e = found_by (ap (parts_told bytes (at + 4)) e) record { parts = []; neither = refl; rest = rest; whole = e; there = refl }
      go (FRONT (job ∷ []) rest) e =
          let (fits, is, more) = first_section 0 (at + 4) (entry-sections e) in
          found_by (ap (parts_told bytes (at + 4)) e)
          record { job_within = fits; text_within = omega arith; rest = rest; whole = e ∙ ap (λ j. FRONT (j ∷ []) rest) (sym is); there = refl }
      go (FRONT (job ∷ text ∷ []) rest) e =
          let (fits, is, more) = first_section 1 (at + 4) (entry-sections e) in
          let (fits₂, is₂, more₂) = first_section 0 (at + 4 + 4 + length job) more in
          found_by (ap (parts_told bytes (at + 4)) e)
          record {
            job_within = fits;
            text_within = fits₂;
            rest = rest;
            whole = e ∙ ap₂ (λ j t. FRONT (j ∷ t ∷ []) rest) (sym is) (sym is₂);
            there = refl;
          }
      go (FRONT (a ∷ b ∷ c ∷ more) rest) e =
          found_by (ap (parts_told bytes (at + 4)) e) record { parts = a ∷ b ∷ c ∷ more; neither = refl; rest = rest; whole = e; there = refl }

-- what the code finds says what the sections say
pub record Tells (bytes : List ℕ) (at : ℕ) (parts : List (List ℕ)) (next : ℕ) : Type 0 where
  pub tells : says_told bytes (entry_at bytes at) ≡ says parts
  pub within : EntryWithin bytes (entry_at bytes at)
  pub behind : (end : ℕ) → next_told (entry_at bytes at) end ≡ next

pub entry_tells : (bytes : List ℕ) (at next : ℕ) → next ≤ length bytes → (parts : List (List ℕ)) → entry (drop at bytes) ≡ FRONT parts (drop next bytes) → Tells bytes at parts next
entry_tells bytes at next within parts e = go (entry_at bytes at) refl (entry_found bytes at)
  where
    by : (x : Option EntryAt) → entry_at bytes at ≡ x → says_told bytes x ≡ says parts → EntryWithin bytes x → ((end : ℕ) → next_told x end ≡ next) → Tells bytes at parts next
    by x is t w b =
        record {
          tells = ap (says_told bytes) is ∙ t;
          within = subst (EntryWithin bytes) (sym is) w;
          behind = λ end. ap (λ (y : Option EntryAt). next_told y end) is ∙ b end;
        }

    there : {rest : List ℕ} → drop next bytes ≡ rest → length bytes - length rest ≡ next
    there left = omega (arith, ap length left, length-drop next bytes)

    go : (x : Option EntryAt) → entry_at bytes at ≡ x → EntryFound bytes at x → Tells bytes at parts next
    go None is f = never (let z : FRONT parts (drop next bytes) ≡ CUT = sym e ∙ f in cc)
    go (Some (Other n)) is f =
        let front : FRONT parts (drop next bytes) ≡ FRONT f.parts f.rest = sym e ∙ f.whole in
        let same : parts ≡ f.parts = cc in
        let left : drop next bytes ≡ f.rest = cc in
        by (Some (Other n)) is (sym (ap says same ∙ f.neither)) tt (λ end. f.there ∙ there left)
    go (Some (Known kind job text n)) is f =
        let front : FRONT parts (drop next bytes) ≡ FRONT (parts_of kind (part bytes job) (part bytes text)) f.rest = sym e ∙ f.whole in
        let same : parts ≡ parts_of kind (part bytes job) (part bytes text) = cc in
        let left : drop next bytes ≡ f.rest = cc in
        by (Some (Known kind job text n)) is (ap says (sym same)) (f.job_within, f.text_within) (λ end. f.there ∙ there left)
