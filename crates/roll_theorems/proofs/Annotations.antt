-- Request 2 in the roll: a text that holds an annotation is no printed text, so adding it is BADTEXT, and a whole entry that holds one is
-- BADROLL. No roll that reads holds one.
use Prim.Native.Nat.{ℕ, ◌≤◌}
use mathlib.Core.Path.{◌≡◌, refl, ap, sym, subst, ◌∙◌}
use mathlib.Core.Bool.{Bool, true, false}
use Rattle.std.specs.Prelude.{None, Some}
use mathlib.Core.List.{List, [], ◌∷◌, ◌++◌, reverse}
use borrow.Author.Tests.{le-ltb}
use lib.ListN.{length, take}
use Rattle.kinds.specs.Limits.{token_limit}
use Rattle.plan.specs.Reading.{HoldsAnnotation}
use Rattle.kinds.specs.Limits.{standard}
use Rattle.plan.proofs.Annotations.{print_no_annotation}
use Rattle.roll_rules.specs.Answers.{Added, ENTRIES, REFUSED, Read, RollAnswer, add, add_to, by_rules, edition_1, file, in_use, judged, new_entry, roll_numbers, unbroken}
use Rattle.roll_format.specs.Format.{Entry, FILED, Listing, longest, roll, says}
use Rattle.roll_rules.specs.Rules.{broken, fault, fault_of, is_job, is_printed}
use Rattle.roll_rules.specs.declared.RollRefusal.{RollRefusal}
use Rattle.roll_rules.specs.declared.RollRefusal.TheVariants.{BadJob, BadRoll, BadText}
use Rattle.roll_rules.specs.declared.Tally.{Tally}
use Rattle.roll_rules.proofs.Adding.{fault-first}
use Rattle.roll_rules.proofs.Reading.{read_refuses}
use Rattle.roll_rules.proofs.Rules.{broken-at, entry_fine, filed_fine, said_fine}
use Rattle.roll_rules.proofs.Sound.{reads_before}
use Rattle.roll_rules.proofs.Texts.{printed-text}
use Rattle.roll_add.specs.Calls.{Adds}
use Rattle.roll_read.specs.Calls.{Lists}
use Rattle.roll_theorems.specs.Terms.{BADROLL, BADTEXT, RollReads}

-- a printed text holds none
printed_unannotated : (text : List ℕ) → is_printed standard text ≡ true → HoldsAnnotation text → ⊥
printed_unannotated text e =
    let (a, is) = printed-text standard text e in
    subst (λ t. HoldsAnnotation t → ⊥) (sym is) (print_no_annotation token_limit a.plan a.fine)

-- a text that holds one
module _ (text : List ℕ) (annotated : HoldsAnnotation text) where
  not-printed : is_printed standard text ≡ false
  not-printed = go (is_printed standard text) refl
    where
      go : (t : Bool) → is_printed standard text ≡ t → t ≡ false
      go true h = absurd (printed_unannotated text h annotated)
      go false h = refl

  -- is BADTEXT, where the roll reads and the job number is one
  -- a theorem of annotations
  pub annotated_bad_text : (buffer : List ℕ) (used : ℕ) (job : List ℕ) {es : List Entry} {end : ℕ} → length buffer ≤ longest
      → RollReads (take used buffer) es end → is_job job ≡ true → {tally : Tally} {a : RollAnswer} {buffer' : List ℕ} {tally' : Tally}
      → Adds (file edition_1 buffer used job text) tally a buffer' tally' → (roll_numbers a).number ≡ BADTEXT
  unfolding file add in_use fault fault_of says
  annotated_bad_text buffer used job {es} {end} short reads its_job call =
      let wrong : fault standard (reverse es) (new_entry end (job ∷ text ∷ [])) ≡ Some BadText = rw (its_job, not-printed) in
      let used_is : in_use edition_1 buffer used ≡ ENTRIES es end = rw (le-ltb longest (length buffer) short) reads in
      let added = ap (λ j. add_to edition_1 buffer j (job ∷ text ∷ [])) used_is ∙ fault-first edition_1 buffer (job ∷ text ∷ []) es end wrong in
      ap (λ (x : RollAnswer). (roll_numbers x).number) (call.answer ∙ ap (λ (x : Added). x.answer) added)

  -- and a whole entry with it breaks the rules, whatever stands before it
  breaks : (earlier : List Entry) (e : Entry) (job : List ℕ) → says e.parts ≡ FILED job text → (why : RollRefusal) × (fault standard earlier e ≡ Some why)
  unfolding fault fault_of
  breaks earlier e job is = go (is_job job) refl
    where
      go : (j : Bool) → is_job job ≡ j → (why : RollRefusal) × (fault_of standard earlier e.place (says e.parts) ≡ Some why)
      go true h = (BadText, rw (is, h, not-printed) refl)
      go false h = (BadJob, rw (is, h) refl)

  -- so the roll is BADROLL, at that entry's place where no earlier one breaks them
  -- a theorem of annotations
  pub annotated_bad_roll : (bytes : List ℕ) (l : Listing) (front after : List Entry) (e : Entry) (job : List ℕ) → length bytes ≤ longest → roll 1 bytes ≡ Some l
      → l.entries ≡ front ++ e ∷ after → broken standard [] front ≡ None → says e.parts ≡ FILED job text
      → {list : List ℕ} {r : RollAnswer} {list' : List ℕ} → Lists bytes list r list' → ((roll_numbers r).number ≡ BADROLL) × ((roll_numbers r).place ≡ e.place)
  unfolding judged by_rules unbroken
  annotated_bad_roll bytes l front after e job short whole split good is {list} call =
      let (why, wrong) = breaks (reverse front) e job is in
      let first : broken standard [] l.entries ≡ Some e.place = ap (broken standard []) split ∙ broken-at standard front good e wrong after in
      let refused : judged edition_1 bytes ≡ REFUSED (BadRoll e.place) = rw (le-ltb longest (length bytes) short, whole, first) in
      let told = call.answer ∙ ap (λ (x : Read). x.answer) (read_refuses edition_1 bytes list refused) in
      (ap (λ (x : RollAnswer). (roll_numbers x).number) told, ap (λ (x : RollAnswer). (roll_numbers x).place) told)

-- every text in a roll that reads is without
-- a theorem of annotations
pub filed_unannotated : (roll : List ℕ) (before after : List Entry) (e : Entry) {end : ℕ} → RollReads roll (before ++ e ∷ after) end
    → (job text : List ℕ) → says e.parts ≡ FILED job text → HoldsAnnotation text → ⊥
filed_unannotated roll before after e reads job text is =
    let fine = (entry_fine standard before e after (reads_before roll reads).obeyed).0 in
    printed_unannotated text (filed_fine standard (reverse before) e.place job text (said_fine standard (reverse before) e fine is)).1
