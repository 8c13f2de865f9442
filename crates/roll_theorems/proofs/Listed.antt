-- What reading a roll answers, said of its calls: exactly the entries, or a refusal that changes nothing; and of every front part.
use Prim.Native.Nat.{ℕ, ◌≤◌, min, ◌<◌}
use mathlib.Core.Path.{◌≡◌, refl, ap, sym, ◌∙◌}
use mathlib.Core.Logic.{◌≢◌, ◌⊎◌, inl, inr}
use mathlib.Core.List.{List}
use native.Mathlib.Omega.{arith}
use lib.ListN.{length, take}
use Rattle.std.specs.Prelude.{Err}
use Rattle.roll_rules.specs.Answers.{ENTRIES, Judged, REFUSED, Read, RollAnswer, edition_1, judged, read_roll, roll_numbers}
use Rattle.roll_format.specs.Format.{Entry}
use Rattle.roll_rules.specs.declared.RollRefusal.{RollRefusal}
use Rattle.roll_rules.specs.declared.RollRefusal.TheVariants.{MoreEntries}
use Rattle.roll_read.specs.Calls.{Lists}
use Rattle.demands.specs.Terms.{READ}
use Rattle.roll_theorems.specs.Terms.{ListedAs, RollReads, Unlisted, torn_from, whole_in}
use Rattle.roll_theorems.proofs.Added.{refusal_not-read}
use Rattle.roll_theorems.proofs.Cut.{cut_reads}
use native.Mathlib.Decide.{dec_lt}
use Rattle.roll_rules.proofs.Reading.{read_fits, read_refuses, read_short}

module _ {roll list : List ℕ} {r : RollAnswer} {list' : List ℕ} (call : Lists roll list r list') where
  answer_by : {x : Read} → read_roll edition_1 roll list ≡ x → r ≡ x.answer
  answer_by e = call.answer ∙ ap (λ (x : Read). x.answer) e

  list_by : {x : Read} → read_roll edition_1 roll list ≡ x → list' ≡ x.list
  list_by e = call.places ∙ ap (λ (x : Read). x.list) e

  -- a roll that reads is read, with a list long enough
  -- a theorem of the roll
  pub reads_listed : (es : List Entry) (end : ℕ) → RollReads roll es end → length es ≤ length list → ListedAs es end list r list'
  reads_listed es end reads room = let so = read_fits edition_1 roll list reads room in record { answered = answer_by so; listed = list_by so }

  -- a call lists, or refuses and changes nothing
  abbrev ListedOrNot : Type 0
  ListedOrNot = ((es : List Entry) × (end : ℕ) × RollReads roll es end × (length es ≤ length list)) ⊎ ((q : RollRefusal) × (read_roll edition_1 roll list ≡ record { answer = Err q; list = list }))

  listed_or_not : ListedOrNot
  listed_or_not = go (judged edition_1 roll) refl
    where
      by_room : (es : List Entry) (end : ℕ) → RollReads roll es end → Dec (length list < length es) → ListedOrNot
      by_room es end reads (no h) = inl (es, end, reads, omega arith)
      by_room es end reads (yes h) = inr (MoreEntries (length es), read_short edition_1 roll list reads h)

      go : (j : Judged) → judged edition_1 roll ≡ j → ListedOrNot
      go (REFUSED q) h = inr (q, read_refuses edition_1 roll list h)
      go (ENTRIES es end) h = by_room es end h (dec_lt (length list) (length es))

  -- what was read is a roll that reads
  -- a theorem of the roll
  pub listed_reads : (roll_numbers r).number ≡ READ → (es : List Entry) × (end : ℕ) × RollReads roll es end × (length es ≤ length list)
  listed_reads e = go listed_or_not
    where
      go : ListedOrNot → (es : List Entry) × (end : ℕ) × RollReads roll es end × (length es ≤ length list)
      go (inl it) = it
      go (inr (q, so)) = absurd (refusal_not-read q (sym (ap (λ (x : RollAnswer). (roll_numbers x).number) (answer_by so)) ∙ e))

  -- a refusal changes no number of the list
  -- a theorem of the roll
  pub read-refused : (roll_numbers r).number ≢ READ → Unlisted list r list'
  read-refused e = go listed_or_not
    where
      go : ListedOrNot → Unlisted list r list'
      go (inl (es, end, reads, room)) = absurd (e (ap (λ (x : RollAnswer). (roll_numbers x).number) (reads_listed es end reads room).answered))
      go (inr (q, so)) =
          record {
            same_list = list_by so;
            no_entries = ap (λ (x : RollAnswer). (roll_numbers x).entries) (answer_by so);
            no_filed = ap (λ (x : RollAnswer). (roll_numbers x).filed) (answer_by so);
            no_done = ap (λ (x : RollAnswer). (roll_numbers x).done) (answer_by so);
          }

-- the cut: every front part of a roll that reads is read, and never refused, with a list long enough for its entries
-- a theorem of the roll
pub cut-listed : (roll : List ℕ) (es : List Entry) (end : ℕ) → RollReads roll es end → (n : ℕ) {list : List ℕ} {r : RollAnswer} {list' : List ℕ} → Lists (take n roll) list r list'
    → length (whole_in n es) ≤ length list → ListedAs (whole_in n es) (min n (torn_from n es end)) list r list'
cut-listed roll es end reads n call room = reads_listed call (whole_in n es) (min n (torn_from n es end)) (cut_reads roll reads n) room
