-- A roll with one entry more: it reads as the old entries and the new one, behind them.
use Prim.Native.Nat.{ℕ, ◌+◌, ◌≤◌}
use mathlib.Core.Path.{◌≡◌, refl, ap, ap₂, sym, subst, ◌∙◌}
use mathlib.Core.Logic.{◌⊎◌, inl, inr, ◌≢◌}
use Rattle.std.specs.Prelude.{None}
use mathlib.Core.List.{List, [], ◌∷◌, ◌++◌, append_assoc, append-nil, reverse}
use native.Mathlib.Omega.{arith}
use borrow.Author.Tests.{ne_eqb}
use lib.ListN.{length, take, drop, length-append, length-take}
use lib.Seq.{drop-append-le, drop-append_seam, drop-length, take-append_seam, take-take}
use Rattle.kinds.specs.Limits.{standard}
use Rattle.kinds.specs.Written.{put_at}
use Rattle.stored.specs.Counted.{FRONT}
use Rattle.roll_rules.specs.Answers.{edition_1, new_bytes, new_entry}
use Rattle.roll_format.specs.Format.{Entry, entry, entry_bytes, longest}
use Rattle.roll_rules.specs.Rules.{broken, fault}
use Rattle.roll_format.specs.EntriesStand.{EntriesStand, Storable}
use Rattle.roll_format.proofs.Format.{stands_on, stands_within}
use Rattle.roll_theorems.specs.Terms.{RollReads, sections_size}
use Rattle.roll_theorems.proofs.Cut.{first-kept, kept_whole, nothing_cut}
use Rattle.roll_theorems.proofs.Exact.{found_entry}
use Rattle.roll_format.proofs.Readback.{entry_back}
use Rattle.roll_rules.proofs.Rules.{obeyed_on}
use Rattle.roll_rules.proofs.Sound.{Blank, SoundRoll, reads_sound, sound_reads}

-- entries stand in the bytes up to their end, and other bytes behind it change nothing
stands_front : (bytes : List ℕ) (n upto : ℕ) (es : List Entry) (from : ℕ) → EntriesStand bytes from es upto → upto ≤ n → EntriesStand (take n bytes) from es upto
stands_front bytes n upto [] from s h = s
stands_front bytes n upto (e ∷ es) from (p, (next, whole, low, high, more)) h =
    let later = stands_within bytes next upto es more in
    (p, (next, kept_whole bytes from next whole low high n (omega (arith, later)), low, omega (arith, later, length-take n bytes), stands_front bytes n upto es next more h))

stands_longer : (xs ys : List ℕ) (upto : ℕ) (es : List Entry) (from : ℕ) → EntriesStand xs from es upto → EntriesStand (xs ++ ys) from es upto
stands_longer xs ys upto [] from s = s
stands_longer xs ys upto (e ∷ es) from (p, (next, whole, low, high, more)) =
    let f = found_entry (drop from xs) whole in
    let same = ap entry (drop-append-le from xs ys (omega arith) ∙ ap (◌++ ys) f.is ∙ append_assoc f.own (drop next xs) ys) ∙ f.exact.whole (drop next xs ++ ys)
    ∙ ap (FRONT e.parts) (sym (drop-append-le next xs ys high)) in
    (p, (next, same, low, omega (arith, length-append xs ys), stands_longer xs ys upto es next more))

refl_broken : broken standard [] [] ≡ None
unfolding broken
refl_broken = refl

new_first : (end : ℕ) (parts : List (List ℕ)) → end ≡ 0 → new_bytes edition_1 end parts ≡ 1 ∷ entry_bytes parts
unfolding new_bytes
new_first end parts e = rw e refl

new_later : (end : ℕ) (parts : List (List ℕ)) → end ≢ 0 → new_bytes edition_1 end parts ≡ entry_bytes parts
unfolding new_bytes
new_later end parts h = rw (ne_eqb end 0 h) refl

take_put : (buffer : List ℕ) (at : ℕ) (bytes : List ℕ) → at ≤ length buffer → take (at + length bytes) (put_at buffer at bytes) ≡ take at buffer ++ bytes
take_put buffer at bytes h =
    let long : at + length bytes ≡ length (take at buffer ++ bytes) = omega (arith, length-append (take at buffer) bytes, length-take at buffer) in
    ap (λ k. take k (put_at buffer at bytes)) long ∙ take-append_seam (take at buffer ++ bytes) (drop (at + length bytes) buffer)

-- bytes of which the first are a roll up to its end, and the others one entry
module _ (parts : List (List ℕ)) (few : length parts ≤ longest) (fits : Storable parts) where
  pub bytes_long : length (entry_bytes parts) ≡ 4 + sections_size parts
  bytes_long =
      let f = found_entry (entry_bytes parts ++ []) (entry_back parts [] few fits) in
      omega (arith, ap length f.is, length-append (entry_bytes parts) [], length-append f.own [], f.long)

  behind_front : (front : List ℕ) (es : List Entry) (end : ℕ) → front ≡ 1 ∷ drop 1 front → length front ≡ end → EntriesStand front 1 es end → broken standard [] es ≡ None
      → fault standard (reverse es) (record { place = end; parts = parts }) ≡ None → length (front ++ entry_bytes parts) ≤ longest
      → RollReads (front ++ entry_bytes parts) (es ++ record { place = end; parts = parts } ∷ []) (length (front ++ entry_bytes parts))
  behind_front front es end first ends stand obeyed good short =
      let there : drop end (front ++ entry_bytes parts) ≡ entry_bytes parts = ap (λ k. drop k (front ++ entry_bytes parts)) (sym ends) ∙ drop-append_seam front (entry_bytes parts) in
      let over : drop (length (front ++ entry_bytes parts)) (front ++ entry_bytes parts) ≡ [] = drop-length (front ++ entry_bytes parts) in
      let whole : entry (drop end (front ++ entry_bytes parts)) ≡ FRONT parts (drop (length (front ++ entry_bytes parts)) (front ++ entry_bytes parts)) =
      ap entry (there ∙ sym (append-nil (entry_bytes parts))) ∙ entry_back parts [] few fits ∙ ap (FRONT parts) (sym over) in
      sound_reads (front ++ entry_bytes parts) record {
        short = short;
        first = ap (◌++ entry_bytes parts) first ∙ ap (1 ∷◌) (sym (drop-append-le 1 front (entry_bytes parts) (omega (arith, ap length first))));
        stand = stands_on (front ++ entry_bytes parts) 1 end (length (front ++ entry_bytes parts)) es (stands_longer front (entry_bytes parts) end es 1 stand) whole (omega (arith, ends, bytes_long, length-append front (entry_bytes parts))) (omega arith);
        within = omega arith;
        torn = ap entry over ∙ nothing_cut;
        obeyed = obeyed_on standard es obeyed (record { place = end; parts = parts }) good;
      }

  same_reads : {a b : List ℕ} {xs ys : List Entry} {m n : ℕ} → a ≡ b → xs ≡ ys → m ≡ n → RollReads b ys n → RollReads a xs m
  same_reads p q r it = rw (p, q, r) it

  -- the roll in use of a buffer, and the buffer with the new entry at its end
  module _ (buffer : List ℕ) (used : ℕ) {es : List Entry} {end : ℕ} (reads : RollReads (take used buffer) es end) (short : length buffer ≤ longest)
      (good : fault standard (reverse es) (new_entry end parts) ≡ None) (room : end + length (new_bytes edition_1 end parts) ≤ length buffer) where
    pub put_reads : RollReads (take (end + length (new_bytes edition_1 end parts)) (put_at buffer end (new_bytes edition_1 end parts))) (es ++ new_entry end parts ∷ [])
        (end + length (new_bytes edition_1 end parts))
    put_reads = go (reads_sound (take used buffer) reads)
      where
        written : take (end + length (new_bytes edition_1 end parts)) (put_at buffer end (new_bytes edition_1 end parts)) ≡ take end buffer ++ new_bytes edition_1 end parts
        written = take_put buffer end (new_bytes edition_1 end parts) (omega arith)

        go : Blank (take used buffer) es end ⊎ SoundRoll (take used buffer) es end
            → RollReads (take (end + length (new_bytes edition_1 end parts)) (put_at buffer end (new_bytes edition_1 end parts))) (es ++ new_entry end parts ∷ [])
            (end + length (new_bytes edition_1 end parts))
        go (inl b) =
            let made = new_first end parts b.at_0 in
            same_reads (written ∙ ap₂ (λ k bs. take k buffer ++ bs) b.at_0 made) (ap₂ (λ (fs : List Entry) k. fs ++ new_entry k parts ∷ []) b.no_entries b.at_0)
            (let e : end + length (new_bytes edition_1 end parts) ≡ length (1 ∷ entry_bytes parts) = omega (arith, b.at_0, ap length made) in e)
            (behind_front (1 ∷ []) [] 1 refl refl refl refl_broken (sym (ap₂ (λ (fs : List Entry) k. fault standard (reverse fs) (new_entry k parts)) b.no_entries b.at_0) ∙ good) (omega (arith, ap length made)))
        go (inr s) =
            let low = stands_within (take used buffer) 1 end es s.stand in
            let later : end ≢ 0 = λ z. absurd (omega (arith, z, low)) in
            let made = new_later end parts later in
            let same : take end (take used buffer) ≡ take end buffer = take-take end used buffer (omega (arith, s.within, length-take used buffer)) in
            let long : length (take end buffer) ≡ end = omega (arith, length-take end buffer) in
            let place : new_entry end parts ≡ record { place = end; parts = parts } = rw (ne_eqb end 0 later) refl in
            let all : length (take end buffer ++ entry_bytes parts) ≡ end + length (new_bytes edition_1 end parts) = omega (arith, length-append (take end buffer) (entry_bytes parts), ap length made, long) in
            let stand = subst (λ bs. EntriesStand bs 1 es end) same (stands_front (take used buffer) end end es 1 s.stand (omega arith)) in
            same_reads (written ∙ ap (take end buffer ++◌) made) (ap (λ (e : Entry). es ++ e ∷ []) place) (sym all)
            (behind_front (take end buffer) es end (subst (λ bs. bs ≡ 1 ∷ drop 1 bs) same (first-kept (take used buffer) end low s.first)) long stand s.obeyed (ap (fault standard (reverse es)) (sym place) ∙ good) (omega (arith, all)))
