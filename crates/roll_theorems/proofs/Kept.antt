-- What was added is the last entry read, and all earlier ones stay; the tally lent is that of the new roll; a refusal changes nothing.
use Prim.Native.Nat.{ℕ, ◌<◌}
use mathlib.Core.Path.{◌≡◌, ap, ap₂, sym, subst, ◌∙◌}
use mathlib.Core.Logic.{◌⊎◌, inl, inr, ◌≢◌}
use mathlib.Core.List.{List, [], ◌∷◌, ◌++◌, reverse, reverse-append}
use native.Mathlib.Omega.{arith}
use lib.ListN.{length, take, length-reverse}
use Rattle.stored.specs.Counted.{largest}
use Rattle.roll_rules.specs.Answers.{Added, RollAnswer, add, close_job, edition_1, file, grown, new_entry, roll_numbers}
use Rattle.roll_format.specs.Format.{Entry, parts_of, says}
use Rattle.roll_rules.specs.Rules.{counts_filed, done, filed}
use Rattle.roll_format.specs.declared.EntryKind.{EntryKind}
use Rattle.roll_format.specs.declared.EntryKind.TheVariants.{Filed, Done}
use Rattle.roll_rules.specs.declared.Sums.{Sums}
use Rattle.roll_rules.specs.declared.Tally.{Tally}
use Rattle.roll_rules.proofs.Growing.{sums_on}
use Rattle.roll_rules.proofs.Sound.{reads_before}
use Rattle.roll_add.specs.Calls.{Adds}
use Rattle.roll_add.proofs.Entering.{short_entry}
use Rattle.roll_add.proofs.Weighed.{before_few}
use Rattle.demands.specs.Terms.{READ}
use Rattle.roll_theorems.specs.Terms.{OneMore, RollReads, TallyOf, Unchanged}
use Rattle.roll_theorems.proofs.Added.{Made, NotMade, made_or_not, one_more, refusal_not-read}

-- no roll has so many jobs that a count would stop
-- a theorem of the roll
pub counts_few : (roll : List ℕ) {es : List Entry} {end : ℕ} → RollReads roll es end → length es < largest
counts_few roll r = let b = reads_before roll r in omega (arith, before_few b, b.within, b.short)

module _ (buffer : List ℕ) (used : ℕ) (kind : EntryKind) (job text : List ℕ) {tally : Tally} {r : RollAnswer} {buffer' : List ℕ} {tally' : Tally}
    (call : Adds (add edition_1 buffer used (parts_of kind job text)) tally r buffer' tally') where
  abbrev parts : List (List ℕ)
  parts = parts_of kind job text

  pub was_made : (roll_numbers r).number ≡ READ → Made buffer used parts (add edition_1 buffer used parts)
  was_made e = go (made_or_not buffer used parts)
    where
      go : Made buffer used parts (add edition_1 buffer used parts) ⊎ NotMade buffer (add edition_1 buffer used parts) → Made buffer used parts (add edition_1 buffer used parts)
      go (inl m) = m
      go (inr n) = absurd (refusal_not-read n.why (sym (ap (λ (x : RollAnswer). (roll_numbers x).number) (call.answer ∙ ap (λ (a : Added). a.answer) n.refused)) ∙ e))

  entry-added : (roll_numbers r).number ≡ READ → OneMore buffer used parts r buffer'
  entry-added e =
      let m = was_made e in
      let it = short_entry kind job text _ _ m.fine in
      let o = one_more buffer used parts m it.few it.storable in
      subst (λ (bs : List ℕ). OneMore buffer used parts r bs) (sym call.bytes) (subst (λ (x : RollAnswer). OneMore buffer used parts x (add edition_1 buffer used parts).buffer) (sym call.answer) o)

  tally-kept : (roll_numbers r).number ≡ READ → (es : List Entry) (end : ℕ) → RollReads (take used buffer) es end → TallyOf tally es → TallyOf tally' (es ++ new_entry end parts ∷ [])
  tally-kept e es end reads t =
      let m = was_made e in
      let new = new_entry end parts in
      let same_es : m.es ≡ es = let x = sym m.read ∙ reads in cc in
      let few : length (reverse es) < largest = omega (arith, length-reverse es, counts_few (take used buffer) reads) in
      let counted = sums_on (reverse es) new end end few in
      let turned = reverse-append es (new ∷ []) in
      record {
        jobs_filed =
            call.filed ∙ ap₂ grown (m.more_filed ∙ ap (λ (fs : List Entry). counts_filed (reverse fs) (says parts)) same_es) t.jobs_filed
            ∙ ap (λ (s : Sums). s.filed) counted ∙ sym (ap filed turned);
        jobs_done = call.done ∙ ap₂ grown m.more_done t.jobs_done ∙ ap (λ (s : Sums). s.done) counted ∙ sym (ap done turned);
      }

  entry-refused : (roll_numbers r).number ≢ READ → Unchanged buffer tally r buffer' tally'
  unfolding grown
  entry-refused e = go (made_or_not buffer used parts)
    where
      go : Made buffer used parts (add edition_1 buffer used parts) ⊎ NotMade buffer (add edition_1 buffer used parts)
          → Unchanged buffer tally r buffer' tally'
      go (inl m) = absurd (e (ap (λ (x : RollAnswer). (roll_numbers x).number) (call.answer ∙ m.answer)))
      go (inr n) =
          let told = call.answer ∙ ap (λ (a : Added). a.answer) n.refused in
          let filed-same : tally'.filed ≡ tally.filed = call.filed ∙ ap (λ (a : Added). grown a.more_filed tally.filed) n.refused in
          let done-same : tally'.done ≡ tally.done = call.done ∙ ap (λ (a : Added). grown a.more_done tally.done) n.refused in
          record {
            same_bytes = call.bytes ∙ ap (λ (a : Added). a.buffer) n.refused;
            same_tally = ap₂ (λ (f d : ℕ). record { filed = f; done = d }) filed-same done-same;
            no_entries = ap (λ (x : RollAnswer). (roll_numbers x).entries) told;
            no_filed = ap (λ (x : RollAnswer). (roll_numbers x).filed) told;
            no_done = ap (λ (x : RollAnswer). (roll_numbers x).done) told;
          }

-- the two kinds of entry
module _ (buffer : List ℕ) (used : ℕ) (job text : List ℕ) {tally : Tally} {r : RollAnswer} {buffer' : List ℕ} {tally' : Tally}
    (call : Adds (file edition_1 buffer used job text) tally r buffer' tally') where
  -- a theorem of the roll
  pub filed_is_last : (roll_numbers r).number ≡ READ → OneMore buffer used (job ∷ text ∷ []) r buffer'
  unfolding file
  filed_is_last = entry-added buffer used Filed job text call

  -- a theorem of the roll
  pub filed-tally : (roll_numbers r).number ≡ READ → (es : List Entry) (end : ℕ) → RollReads (take used buffer) es end → TallyOf tally es
      → TallyOf tally' (es ++ new_entry end (job ∷ text ∷ []) ∷ [])
  unfolding file
  filed-tally = tally-kept buffer used Filed job text call

  -- a theorem of the roll
  pub filed-refused : (roll_numbers r).number ≢ READ → Unchanged buffer tally r buffer' tally'
  unfolding file
  filed-refused = entry-refused buffer used Filed job text call

module _ (buffer : List ℕ) (used : ℕ) (job : List ℕ) {tally : Tally} {r : RollAnswer} {buffer' : List ℕ} {tally' : Tally}
    (call : Adds (close_job edition_1 buffer used job) tally r buffer' tally') where
  -- a theorem of the roll
  pub done_is_last : (roll_numbers r).number ≡ READ → OneMore buffer used (job ∷ []) r buffer'
  unfolding close_job
  done_is_last = entry-added buffer used Done job [] call

  -- a theorem of the roll
  pub done-tally : (roll_numbers r).number ≡ READ → (es : List Entry) (end : ℕ) → RollReads (take used buffer) es end → TallyOf tally es
      → TallyOf tally' (es ++ new_entry end (job ∷ []) ∷ [])
  unfolding close_job
  done-tally = tally-kept buffer used Done job [] call

  -- a theorem of the roll
  pub done_refused : (roll_numbers r).number ≢ READ → Unchanged buffer tally r buffer' tally'
  unfolding close_job
  done_refused = entry-refused buffer used Done job [] call
