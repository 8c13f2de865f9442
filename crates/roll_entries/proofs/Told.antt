-- What the code finds of an entry, section by section, is what stands at the front of the bytes from its place on.
use Prim.Native.Nat.{ℕ, suc, ◌+◌, ◌-◌, ◌≤◌, ◌<◌}
use mathlib.Core.Path.{◌≡◌, refl, ap, ap₂, sym, ◌∙◌}
use mathlib.Core.Logic.{◌≢◌}
use mathlib.Core.List.{List, [], ◌∷◌}
use native.Mathlib.Omega.{arith}
use lib.ListN.{length, drop, length-drop}
use Rattle.kinds.proofs.Tests.{never}
use Rattle.std.specs.Prelude.{Some, None}
use Rattle.stored.specs.Counted.{AtFront, CUT, FRONT, then_read}
use Rattle.stored.specs.Places.{number_at, counted_at, two_counted_at}
use Rattle.stored.specs.Spans.{SpanWithin, part, span}
use Rattle.stored.specs.declared.Span.{Span}
use Rattle.stored.proofs.Places.{number_found, number_lost, counted_found, counted_lost}
use Rattle.stored.proofs.Pairs.{part_long, two_counted_found, two_counted_front, two_counted_lost}
use Rattle.roll_format.specs.Format.{entry, sections}
use Rattle.roll_format.specs.declared.EntryKind.TheVariants.{Filed, Done}
use Rattle.roll_format.proofs.Format.{sections_many, two-sections}
use Rattle.roll_entries.specs.Entries.{done_at, entry_at, filed_at, other_at, others_told, parts_told, sections_end_told}
use Rattle.roll_entries.specs.declared.EntryAt.TheVariants.{Known, Other}

-- what is left behind a span says where it ends
span_end : (bytes : List ℕ) (s : Span) → SpanWithin bytes s → length bytes - length (drop (s.at + s.len) bytes) ≡ s.at + s.len
span_end bytes s h = omega (arith, length-drop (s.at + s.len) bytes)

module _ (bytes : List ℕ) (at : ℕ) where
  -- a section that is cut cuts all
  section_cut : (k : ℕ) → counted_at bytes at ≡ None → sections (suc k) (drop at bytes) ≡ CUT
  unfolding sections then_read
  section_cut k e = ap (λ x. then_read x (λ s rest. then_read (sections k rest) (λ ss later. FRONT (s ∷ ss) later))) (counted_lost bytes at e)

  section_whole : (k : ℕ) {s : Span} → counted_at bytes at ≡ Some s
      → sections (suc k) (drop at bytes) ≡ then_read (sections k (drop (s.at + s.len) bytes)) (λ ss later. FRONT (part bytes s ∷ ss) later)
  unfolding sections then_read
  section_whole k e =
      ap (λ x. then_read x (λ s rest. then_read (sections k rest) (λ ss later. FRONT (s ∷ ss) later))) (counted_found bytes at e).front

  pub done_torn : counted_at bytes at ≡ None → None ≡ done_at bytes at
  unfolding done_at
  done_torn e = sym (ap (parts_told bytes at) (section_cut 0 e))

  pub done-whole : {job : Span} → counted_at bytes at ≡ Some job → Some (Known Done job (span 0 0) (job.at + job.len)) ≡ done_at bytes at
  unfolding done_at sections then_read
  done-whole {job} e =
      let f = counted_found bytes at e in
      sym (ap (parts_told bytes at) (section_whole 0 e)
      ∙ ap₂ (λ s n. Some (Known Done s (span 0 0) n)) (ap₂ span (sym f.place) (part_long bytes job f.within)) (span_end bytes job f.within))

  pub filed_torn : two_counted_at bytes at ≡ None → None ≡ filed_at bytes at
  unfolding filed_at
  filed_torn e = sym (ap (parts_told bytes at) (two-sections (drop at bytes) ∙ two_counted_lost bytes at e (λ job text. job ∷ text ∷ [])))

  pub filed-whole : {job text : Span} → two_counted_at bytes at ≡ Some (job, text) → Some (Known Filed job text (text.at + text.len)) ≡ filed_at bytes at
  unfolding filed_at
  filed-whole {job} {text} e =
      let f = two_counted_found bytes at e in
      let long = part_long bytes job f.within in
      let there : at + 4 + length (part bytes job) + 4 ≡ text.at = omega (arith, long, f.place, f.place₂) in
      let spans : Some (Known Filed (span (at + 4) (length (part bytes job))) (span (at + 4 + length (part bytes job) + 4) (length (part bytes text))) (length bytes - length (drop (text.at + text.len) bytes))) ≡ Some (Known Filed job text (text.at + text.len)) =
      ap₂ (λ s t. Some (Known Filed s t (length bytes - length (drop (text.at + text.len) bytes)))) (ap₂ span (sym f.place) long) (ap₂ span there (part_long bytes text f.within₂))
      ∙ ap (λ n. Some (Known Filed job text n)) (span_end bytes text f.within₂) in
      sym (ap (parts_told bytes at) (two-sections (drop at bytes) ∙ two_counted_front bytes at e (λ job text. job ∷ text ∷ [])) ∙ spans)

-- the loop over sections

pub record SectionsSoFar (bytes : List ℕ) (from count at left : ℕ) : Type 0 where
  pub within : at ≤ length bytes
  pub same : sections_end_told bytes (sections count (drop from bytes)) ≡ sections_end_told bytes (sections left (drop at bytes))

pub sections-first : {bytes : List ℕ} {from : ℕ} (count left : ℕ) → from ≤ length bytes → left ≡ count → SectionsSoFar bytes from count from left
sections-first {bytes} {from} count left h all = record { within = h; same = ap (λ k. sections_end_told bytes (sections k (drop from bytes))) (sym all) }

sections_end_then : (bytes : List ℕ) (s : List ℕ) (x : AtFront (List (List ℕ))) → sections_end_told bytes (then_read x (λ ss later. FRONT (s ∷ ss) later)) ≡ sections_end_told bytes x
unfolding then_read
sections_end_then bytes s CUT = refl
sections_end_then bytes s (FRONT ss rest) = refl

module _ {bytes : List ℕ} {from count at left : ℕ} (so_far : SectionsSoFar bytes from count at left) where
  pub sections_end : left ≡ 0 → Some at ≡ sections_end_told bytes (sections count (drop from bytes))
  unfolding sections
  sections_end e =
      sym (so_far.same ∙ ap (λ k. sections_end_told bytes (sections k (drop at bytes))) e ∙ ap Some (omega (arith, so_far.within, length-drop at bytes)))

  module _ (more : 0 < left) where
    one_less : left ≡ suc (left - 1)
    one_less = omega arith

    pub sections_torn : counted_at bytes at ≡ None → None ≡ sections_end_told bytes (sections count (drop from bytes))
    sections_torn e =
        sym (so_far.same ∙ ap (λ k. sections_end_told bytes (sections k (drop at bytes))) one_less ∙ ap (sections_end_told bytes) (section_cut bytes at (left - 1) e))

    pub sections_on : {s : Span} → counted_at bytes at ≡ Some s → (next less : ℕ) → next ≡ s.at + s.len → less ≡ left - 1 → SectionsSoFar bytes from count next less
    sections_on {s} e next less there fewer =
        record {
          within = omega (arith, (counted_found bytes at e).within, there);
          same =
              so_far.same ∙ ap (λ k. sections_end_told bytes (sections k (drop at bytes))) one_less ∙ ap (sections_end_told bytes) (section_whole bytes at (left - 1) e)
              ∙ sections_end_then bytes (part bytes s) (sections (left - 1) (drop (s.at + s.len) bytes))
              ∙ ap₂ (λ k n. sections_end_told bytes (sections k (drop n bytes))) (sym fewer) (sym there);
        }

pub other_torn : (bytes : List ℕ) (at count : ℕ) → sections_end_told bytes (sections count (drop at bytes)) ≡ None → None ≡ other_at bytes at count
unfolding other_at
other_torn bytes at count e = go (sections count (drop at bytes)) e
  where
    go : (x : AtFront (List (List ℕ))) → sections_end_told bytes x ≡ None → None ≡ others_told bytes x
    go CUT told = refl
    go (FRONT ss rest) told = never cc

pub other_whole : (bytes : List ℕ) (at count : ℕ) {next : ℕ} → sections_end_told bytes (sections count (drop at bytes)) ≡ Some next → Some (Other next) ≡ other_at bytes at count
unfolding other_at
other_whole bytes at count {next} e = go (sections count (drop at bytes)) e
  where
    go : (x : AtFront (List (List ℕ))) → sections_end_told bytes x ≡ Some next → Some (Other next) ≡ others_told bytes x
    go CUT told = never cc
    go (FRONT ss rest) told = ap (λ n. Some (Other n)) (let same : next ≡ length bytes - length rest = cc in same)

-- an entry, by its number of sections

module _ (bytes : List ℕ) (at : ℕ) where
  pub entry_torn : number_at bytes at ≡ None → None ≡ entry_at bytes at
  unfolding entry_at entry then_read
  entry_torn e = sym (ap (λ x. parts_told bytes (at + 4) (then_read x sections)) (number_lost bytes at e))

  module _ {count : ℕ} (found : number_at bytes at ≡ Some count) where
    pub entry_within : at + 4 ≤ length bytes
    entry_within = (number_found bytes at found).0

    told : entry_at bytes at ≡ parts_told bytes (at + 4) (sections count (drop (at + 4) bytes))
    unfolding entry_at entry then_read
    told = ap (λ x. parts_told bytes (at + 4) (then_read x sections)) (number_found bytes at found).1

    pub entry_done : count ≡ 1 → done_at bytes (at + 4) ≡ entry_at bytes at
    unfolding done_at
    entry_done e = sym (told ∙ ap (λ k. parts_told bytes (at + 4) (sections k (drop (at + 4) bytes))) e)

    pub entry-filed : count ≡ 2 → filed_at bytes (at + 4) ≡ entry_at bytes at
    unfolding filed_at
    entry-filed e = sym (told ∙ ap (λ k. parts_told bytes (at + 4) (sections k (drop (at + 4) bytes))) e)

    pub entry_other : count ≢ 1 → count ≢ 2 → other_at bytes (at + 4) count ≡ entry_at bytes at
    unfolding other_at
    entry_other one two = go (sections count (drop (at + 4) bytes)) refl ∙ sym told
      where
        go : (x : AtFront (List (List ℕ))) → sections count (drop (at + 4) bytes) ≡ x → others_told bytes x ≡ parts_told bytes (at + 4) x
        go CUT h = refl
        go (FRONT [] rest) h = refl
        go (FRONT (job ∷ []) rest) h = absurd (one (sym (sections_many count (drop (at + 4) bytes) h)))
        go (FRONT (job ∷ text ∷ []) rest) h = absurd (two (sym (sections_many count (drop (at + 4) bytes) h)))
        go (FRONT (a ∷ b ∷ c ∷ more) rest) h = refl
