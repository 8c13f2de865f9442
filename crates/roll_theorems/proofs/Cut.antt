-- A roll that is cut: of any front part the whole entries are read, and the torn one is not.
use Prim.Native.Nat.{ℕ, zero, suc, ◌+◌, ◌-◌, ◌≤◌, ◌<◌, min}
use mathlib.Core.Path.{◌≡◌, refl, ap, ap₂, sym, subst, ◌∙◌}
use mathlib.Core.Logic.{◌⊎◌, inl, inr}
use mathlib.Core.Bool.{Bool, true, false, cond}
use Rattle.std.specs.Prelude.{None}
use mathlib.Core.List.{List, [], ◌∷◌, ◌++◌, append_assoc}
use native.Mathlib.Omega.{arith}
use native.Mathlib.Decide.{dec_lt}
use borrow.Author.Tests.{le-leb, lt-leb}
use lib.Dec.{leb}
use lib.ListN.{length, take, drop, length-append, length-drop, length-take, take-append-drop}
use lib.Seq.{take_all, take-append-add, take-append-le}
use Rattle.kinds.specs.Limits.{standard}
use Rattle.stored.specs.Counted.{AtFront, CUT, FRONT, number, then_read}
use Rattle.kinds.proofs.Tests.{never}
use Rattle.roll_format.specs.Format.{Entry, entry}
use Rattle.roll_rules.specs.Rules.{broken}
use Rattle.roll_format.specs.EntriesStand.{EntriesStand}
use Rattle.roll_rules.proofs.Rules.{broken_front}
use Rattle.roll_format.proofs.Format.{stands_within}
use Rattle.roll_theorems.specs.Terms.{RollReads, entry_end, sections_size, torn_from, whole_in}
use Rattle.stored.proofs.Exact.{FoundFront}
use Rattle.roll_theorems.proofs.Exact.{found_entry}
use Rattle.roll_rules.proofs.Sound.{Blank, SoundRoll, blank_reads, reads_sound, sound_reads}

pub drop-take : {A : Type 0} (k n : ℕ) (xs : List A) → drop k (take n xs) ≡ take (n - k) (drop k xs)
drop-take zero n xs = ap (λ i. take i xs) (let e : n ≡ n - zero = omega arith in e)
drop-take (suc k) zero xs = ap (λ i. take i (drop (suc k) xs)) (let e : zero ≡ zero - suc k = omega arith in e)
drop-take (suc k) (suc n) [] = sym (take_all (suc n - suc k) [] (omega arith))
drop-take (suc k) (suc n) (x ∷ xs) = drop-take k n xs ∙ ap (λ i. take i (drop k xs)) (let e : n - k ≡ suc n - suc k = omega arith in e)

pub nothing_cut : entry [] ≡ CUT
unfolding entry number then_read
nothing_cut = refl

-- an entry in a front part: whole there when its last byte is, and else cut
module _ (bytes : List ℕ) (from next : ℕ) {parts : List (List ℕ)} (whole : entry (drop from bytes) ≡ FRONT parts (drop next bytes)) (low : from + 4 ≤ next) (high : next ≤ length bytes) where
  found : FoundFront entry parts (drop from bytes) (drop next bytes) (4 + sections_size parts)
  found = found_entry (drop from bytes) whole

  -- its bytes are those that it announces
  pub ends_there : next ≡ from + 4 + sections_size parts
  ends_there = omega (arith, ap length found.is, length-append found.own (drop next bytes), found.long, length-drop from bytes, length-drop next bytes)

  pub kept_whole : (n : ℕ) → next ≤ n → entry (drop from (take n bytes)) ≡ FRONT parts (drop next (take n bytes))
  kept_whole n h =
      let split : n - from ≡ length found.own + (n - next) = omega (arith, found.long, ends_there) in
      ap entry (drop-take from n bytes ∙ ap₂ take split found.is ∙ take-append-add found.own (drop next bytes) (n - next)) ∙ found.exact.whole (take (n - next) (drop next bytes))
      ∙ ap (FRONT parts) (sym (drop-take next n bytes))

  pub cut_torn : (n : ℕ) → from ≤ n → n < next → entry (drop from (take n bytes)) ≡ CUT
  cut_torn n l h =
      let few : n - from < length found.own = omega (arith, found.long, ends_there) in
      ap entry (drop-take from n bytes ∙ ap (take (n - from)) found.is ∙ take-append-le (n - from) found.own (drop next bytes) (omega arith)) ∙ found.exact.cut (n - from) few

-- what is torn stays torn when more is cut off
pub still_torn : (bytes : List ℕ) (at n : ℕ) → entry (drop at bytes) ≡ CUT → entry (drop at (take n bytes)) ≡ CUT
still_torn bytes at n e = go (entry (drop at (take n bytes))) refl
  where
    go : (x : AtFront (List (List ℕ))) → entry (drop at (take n bytes)) ≡ x → entry (drop at (take n bytes)) ≡ CUT
    go CUT h = h
    go (FRONT parts rest) h =
        let f = found_entry (drop at (take n bytes)) h in
        let all : drop at bytes ≡ f.own ++ (rest ++ drop (n - at) (drop at bytes)) =
        sym (take-append-drop (n - at) (drop at bytes)) ∙ ap (◌++ drop (n - at) (drop at bytes)) (sym (drop-take at n bytes) ∙ f.is) ∙ append_assoc f.own rest (drop (n - at) (drop at bytes)) in
        never (let z = sym e ∙ ap entry all ∙ f.exact.whole (rest ++ drop (n - at) (drop at bytes)) in cc)

module _ (bytes : List ℕ) (n upto : ℕ) where
  -- nothing that starts behind the cut is whole
  none_whole : (es : List Entry) (from : ℕ) → EntriesStand bytes from es upto → n ≤ from → whole_in n es ≡ []
  unfolding whole_in entry_end
  none_whole [] from s h = refl
  none_whole (e ∷ es) from (p, (next, whole, low, high, more)) h =
      rw (lt-leb (e.place + 4 + sections_size e.parts) n (omega (arith, p))) (none_whole es next more (omega arith))

  record CutAt (es : List Entry) (from : ℕ) (kept : List Entry) (end : ℕ) : Type 0 where
    stand : EntriesStand (take n bytes) from kept end
    within : end ≤ length (take n bytes)
    torn : entry (drop end (take n bytes)) ≡ CUT
    lost : List Entry
    split : es ≡ kept ++ lost

  stands_cut : (es : List Entry) (from : ℕ) → EntriesStand bytes from es upto → entry (drop upto bytes) ≡ CUT → upto ≤ length bytes → from ≤ n
      → CutAt es from (whole_in n es) (torn_from n es upto)
  unfolding whole_in entry_end torn_from
  stands_cut [] from s e f l =
      record { stand = s; within = omega (arith, s, length-take n bytes); torn = still_torn bytes upto n e; lost = []; split = refl }
  stands_cut (e ∷ es) from (p, (next, whole, low, high, more)) behind f l =
      cut-first (λ h. stands_cut es next more behind f h) (dec_lt n next)
    where
      ends : e.place + 4 + sections_size e.parts ≡ next
      ends = omega (arith, ends_there bytes from next whole low high, p)

      cut-first : (next ≤ n → CutAt es next (whole_in n es) (torn_from n es upto)) → Dec (n < next)
          → CutAt (e ∷ es) from (whole_in n (e ∷ es)) (torn_from n (e ∷ es) upto)
      cut-first later (no h) =
          let it = later (omega arith) in
          let test = le-leb (e.place + 4 + sections_size e.parts) n (omega (arith, ends)) in
          rw test record {
            stand = (p, (next, kept_whole bytes from next whole low high n (omega arith), low, omega (arith, length-take n bytes), it.stand));
            within = it.within;
            torn = it.torn;
            lost = it.lost;
            split = ap (e ∷◌) it.split;
          }
      cut-first later (yes h) =
          let test = lt-leb (e.place + 4 + sections_size e.parts) n (omega (arith, ends)) in
          rw (test, none_whole es next more (omega arith)) record {
            stand = sym p;
            within = omega (arith, p, length-take n bytes);
            torn = subst (λ k. entry (drop k (take n bytes)) ≡ CUT) (sym p) (cut_torn bytes from next whole low high n l h);
            lost = e ∷ es;
            split = refl;
          }

-- the first byte stays
pub first-kept : (bytes : List ℕ) (n : ℕ) → 1 ≤ n → bytes ≡ 1 ∷ drop 1 bytes → take n bytes ≡ 1 ∷ drop 1 (take n bytes)
first-kept bytes zero h e = absurd (omega arith)
first-kept bytes (suc k) h e = subst (λ bs. take (suc k) bs ≡ 1 ∷ drop 1 (take (suc k) bs)) (sym e) refl

-- every front part of a roll that reads is read, as the entries whole in it
-- a theorem of the roll
pub cut_reads : (roll : List ℕ) {es : List Entry} {end : ℕ} → RollReads roll es end → (n : ℕ) → RollReads (take n roll) (whole_in n es) (min n (torn_from n es end))
unfolding whole_in torn_from
cut_reads roll {es} {end} r n = go n (reads_sound roll r)
  where
    blank : {part : List ℕ} {kept : List Entry} {at : ℕ} → part ≡ [] → kept ≡ [] → at ≡ 0 → RollReads part kept at
    blank p k a = rw (p, k, a) blank_reads

    go : (n : ℕ) → Blank roll es end ⊎ SoundRoll roll es end → RollReads (take n roll) (whole_in n es) (min n (torn_from n es end))
    go n (inl b) = rw (b.no_bytes, b.no_entries, b.at_0) (blank (take_all n [] (omega arith)) refl (omega arith))
    go zero (inr s) = blank refl (none_whole roll 0 end es 1 s.stand (omega arith)) (omega arith)
    go (suc k) (inr s) =
        let it = stands_cut roll (suc k) end es 1 s.stand s.torn s.within (omega arith) in
        let at : min (suc k) (torn_from (suc k) es end) ≡ torn_from (suc k) es end = omega (arith, it.within, length-take (suc k) roll) in
        subst (RollReads (take (suc k) roll) (whole_in (suc k) es)) (sym at) (sound_reads (take (suc k) roll) record {
          short = omega (arith, s.short, length-take (suc k) roll);
          first = first-kept roll (suc k) (omega arith) s.first;
          stand = it.stand;
          within = it.within;
          torn = it.torn;
          obeyed = broken_front standard [] (whole_in (suc k) es) it.lost (subst (λ es. broken standard [] es ≡ None) it.split s.obeyed);
        })

-- all are whole in bytes that reach their end
pub all_whole : (bytes : List ℕ) (n upto : ℕ) (es : List Entry) (from : ℕ) → EntriesStand bytes from es upto → upto ≤ n → whole_in n es ≡ es
unfolding whole_in entry_end
all_whole bytes n upto [] from s h = refl
all_whole bytes n upto (e ∷ es) from (p, (next, whole, low, high, more)) h =
    let ends = ends_there bytes from next whole low high in
    let test = le-leb (e.place + 4 + sections_size e.parts) n (omega (arith, p, ends, stands_within bytes next upto es more)) in
    rw test (ap (e ∷◌) (all_whole bytes n upto es next more h))

pub whole_append : (n : ℕ) (xs ys : List Entry) → whole_in n (xs ++ ys) ≡ whole_in n xs ++ whole_in n ys
unfolding whole_in
whole_append n [] ys = refl
whole_append n (e ∷ xs) ys = go (leb (entry_end e) n) (whole_append n xs ys)
  where
    go : (t : Bool) → whole_in n (xs ++ ys) ≡ whole_in n xs ++ whole_in n ys → cond t (e ∷ whole_in n (xs ++ ys)) (whole_in n (xs ++ ys)) ≡ cond t (e ∷ whole_in n xs) (whole_in n xs) ++ whole_in n ys
    go true h = ap (e ∷◌) h
    go false h = h

-- one entry is whole or it is not
pub one-whole : (n : ℕ) (e : Entry) → (whole_in n (e ∷ []) ≡ e ∷ []) ⊎ (whole_in n (e ∷ []) ≡ [])
unfolding whole_in
one-whole n e = go (leb (entry_end e) n)
  where
    go : (t : Bool) → (cond t (e ∷ []) [] ≡ e ∷ []) ⊎ (cond t (e ∷ []) [] ≡ [])
    go true = inl refl
    go false = inr refl

-- of a roll that reads, a part that reaches its end has all the entries
pub reads_all : (roll : List ℕ) {es : List Entry} {end : ℕ} → RollReads roll es end → (n : ℕ) → end ≤ n → whole_in n es ≡ es
unfolding whole_in
reads_all roll {es} {end} r n h = go (reads_sound roll r)
  where
    go : Blank roll es end ⊎ SoundRoll roll es end → whole_in n es ≡ es
    go (inl b) = rw b.no_entries refl
    go (inr s) = all_whole roll n end es 1 s.stand h
