-- What a call that adds did: with answer 3 the roll has one entry more, with any other nothing changed.
use Prim.Native.Nat.{ℕ, ◌+◌, ◌≤◌, ◌<◌, min}
use mathlib.Core.Path.{◌≡◌, refl, ap, ap₂, sym, subst, ◌∙◌}
use mathlib.Core.Logic.{◌⊎◌, inl, inr}
use mathlib.Core.Bool.{Bool, true, false, cond}
use Rattle.std.specs.Prelude.{Option, None, Some}
use mathlib.Core.List.{List, [], ◌∷◌, ◌++◌, append-nil, reverse, reverse-append}
use native.Mathlib.Omega.{arith}
use native.Mathlib.Decide.{dec_lt}
use borrow.Author.Tests.{ltb-false}
use lib.Dec.{ltb}
use lib.ListN.{length, take}
use lib.Seq.{take-take}
use Rattle.kinds.specs.Limits.{standard}
use Rattle.kinds.specs.Written.{put_at}
use Rattle.roll_rules.specs.Answers.{Added, ENTRIES, Judged, REFUSED, RollAnswer, add, add_to, edition_1, in_use, judged, listed_as, new_bytes, new_entry, not_added, roll_numbers, roll_refusal_number}
use Rattle.roll_format.specs.Format.{Entry, longest, says}
use Rattle.roll_rules.proofs.Adding.{entry_made, fault-first, room_last, roll-first}
use Rattle.roll_rules.specs.Rules.{counts_done, counts_filed, fault}
use Rattle.roll_rules.specs.declared.RollRefusal.{RollRefusal}
use Rattle.roll_rules.specs.declared.RollRefusal.TheVariants.{AlreadyDone, BadJob, BadRoll, BadText, MoreEntries, NoRoom, TooLong, Unfiled, Unfinished}
use Rattle.demands.specs.Terms.{READ}
use Rattle.roll_theorems.specs.Terms.{OneMore, RollReads, torn_from, whole_in}
use Rattle.roll_theorems.proofs.Adding.{put_reads}
use Rattle.roll_theorems.proofs.Cut.{cut_reads, one-whole, reads_all, whole_append}
use Rattle.roll_format.specs.EntriesStand.{Storable}

pub refusal_not-read : (q : RollRefusal) → roll_refusal_number q ≡ READ → ⊥
refusal_not-read TooLong e = omega arith
refusal_not-read (BadRoll p) e = omega arith
refusal_not-read BadJob e = omega arith
refusal_not-read BadText e = omega arith
refusal_not-read (AlreadyDone p) e = omega arith
refusal_not-read Unfiled e = omega arith
refusal_not-read (Unfinished p) e = omega arith
refusal_not-read (NoRoom n) e = omega arith
refusal_not-read (MoreEntries n) e = omega arith

-- the two ways in which adding ends
pub record Made (buffer : List ℕ) (used : ℕ) (parts : List (List ℕ)) (a : Added) : Type 0 where
  pub es : List Entry
  pub end : ℕ
  pub read : RollReads (take used buffer) es end
  pub short : length buffer ≤ longest
  pub fine : fault standard (reverse es) (new_entry end parts) ≡ None
  pub room : end + length (new_bytes edition_1 end parts) ≤ length buffer
  pub answer : a.answer ≡ listed_as (new_entry end parts ∷ reverse es) (end + length (new_bytes edition_1 end parts))
  pub bytes : a.buffer ≡ put_at buffer end (new_bytes edition_1 end parts)
  pub more_filed : a.more_filed ≡ counts_filed (reverse es) (says parts)
  pub more_done : a.more_done ≡ counts_done (says parts)

pub record NotMade (buffer : List ℕ) (a : Added) : Type 0 where
  pub why : RollRefusal
  pub refused : a ≡ not_added buffer why

module _ (buffer : List ℕ) (used : ℕ) (parts : List (List ℕ)) where
  pub made_or_not : Made buffer used parts (add edition_1 buffer used parts)
      ⊎ NotMade buffer (add edition_1 buffer used parts)
  unfolding add in_use
  made_or_not = by_length (ltb longest (length buffer)) refl
    where
      Either : Judged → Type 0
      Either j = Made buffer used parts (add_to edition_1 buffer j parts) ⊎ NotMade buffer (add_to edition_1 buffer j parts)

      by_room : (es : List Entry) (end : ℕ) → RollReads (take used buffer) es end → length buffer ≤ longest → fault standard (reverse es) (new_entry end parts) ≡ None
          → Dec (length buffer < end + length (new_bytes edition_1 end parts)) → Either (ENTRIES es end)
      by_room es end reads short fine (no h) =
          inl (rw (entry_made edition_1 buffer parts es end fine (omega arith)) record {
            es = es;
            end = end;
            read = reads;
            short = short;
            fine = fine;
            room = omega arith;
            answer = refl;
            bytes = refl;
            more_filed = refl;
            more_done = refl;
          })
      by_room es end reads short fine (yes h) =
          inr (record { why = NoRoom (min (end + length (new_bytes edition_1 end parts)) longest); refused = room_last edition_1 buffer parts es end fine h })

      by_fault : (es : List Entry) (end : ℕ) → RollReads (take used buffer) es end → length buffer ≤ longest → (x : Option RollRefusal) → fault standard (reverse es) (new_entry end parts) ≡ x → Either (ENTRIES es end)
      by_fault es end reads short None e = by_room es end reads short e (dec_lt (length buffer) (end + length (new_bytes edition_1 end parts)))
      by_fault es end reads short (Some q) e = inr (record { why = q; refused = fault-first edition_1 buffer parts es end e })

      by_roll : length buffer ≤ longest → (j : Judged) → judged edition_1 (take used buffer) ≡ j → Either j
      by_roll short (REFUSED q) e = inr (record { why = q; refused = roll-first edition_1 buffer parts q })
      by_roll short (ENTRIES es end) e = by_fault es end e short (fault standard (reverse es) (new_entry end parts)) refl

      by_length : (t : Bool) → ltb longest (length buffer) ≡ t → Either (cond t (REFUSED TooLong) (judged edition_1 (take used buffer)))
      by_length true e = inr (record { why = TooLong; refused = roll-first edition_1 buffer parts TooLong })
      by_length false e = by_roll (ltb-false longest (length buffer) e) (judged edition_1 (take used buffer)) refl

  module _ {a : Added} (m : Made buffer used parts a) (few : length parts ≤ longest) (fits : Storable parts) where
    last : Entry
    last = new_entry m.end parts

    place : (roll_numbers a.answer).place ≡ m.end + length (new_bytes edition_1 m.end parts)
    place = ap (λ (x : RollAnswer). (roll_numbers x).place) m.answer

    now_reads : RollReads (take (roll_numbers a.answer).place a.buffer) (m.es ++ new_entry m.end parts ∷ []) (roll_numbers a.answer).place
    now_reads = rw (place, m.bytes) (put_reads parts few fits buffer used m.read m.short m.fine m.room)

    cut : (n : ℕ) → m.end ≤ n → n ≤ (roll_numbers a.answer).place
        → let e = min n (torn_from n (m.es ++ new_entry m.end parts ∷ []) (roll_numbers a.answer).place) in
        RollReads (take n a.buffer) m.es e ⊎ RollReads (take n a.buffer) (m.es ++ new_entry m.end parts ∷ []) e
    cut n low high = go (one-whole n (new_entry m.end parts))
      where
        all : List Entry
        all = m.es ++ new_entry m.end parts ∷ []

        end : ℕ
        end = min n (torn_from n (m.es ++ new_entry m.end parts ∷ []) (roll_numbers a.answer).place)

        reads : RollReads (take n a.buffer) (whole_in n (m.es ++ new_entry m.end parts ∷ [])) end
        reads =
            subst (λ bs. RollReads bs (whole_in n (m.es ++ new_entry m.end parts ∷ [])) end) (take-take n (roll_numbers a.answer).place a.buffer high)
            (cut_reads (take (roll_numbers a.answer).place a.buffer) now_reads n)

        kept : whole_in n (m.es ++ new_entry m.end parts ∷ []) ≡ m.es ++ whole_in n (new_entry m.end parts ∷ [])
        kept = whole_append n m.es (new_entry m.end parts ∷ []) ∙ ap (◌++ whole_in n (new_entry m.end parts ∷ [])) (reads_all (take used buffer) m.read n low)

        go : (whole_in n (new_entry m.end parts ∷ []) ≡ new_entry m.end parts ∷ []) ⊎ (whole_in n (new_entry m.end parts ∷ []) ≡ [])
            → RollReads (take n a.buffer) m.es end ⊎ RollReads (take n a.buffer) (m.es ++ new_entry m.end parts ∷ []) end
        go (inl w) = inr (subst (λ es. RollReads (take n a.buffer) es end) (kept ∙ ap (m.es ++◌) w) reads)
        go (inr w) = inl (subst (λ es. RollReads (take n a.buffer) es end) (kept ∙ ap (m.es ++◌) w ∙ append-nil m.es) reads)

    pub one_more : OneMore buffer used parts a.answer a.buffer
    one_more =
        record {
          es = m.es;
          end = m.end;
          read = m.read;
          reads_now = now_reads;
          answered = m.answer ∙ ap₂ listed_as (sym (reverse-append m.es (new_entry m.end parts ∷ []))) (sym place);
          cut_anywhere = cut;
        }
