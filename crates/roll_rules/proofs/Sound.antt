-- A roll that reads, by its bytes: the first byte, then the entries one behind the other. What stands behind them is torn.
use Prim.Native.Nat.{ℕ, ◌≤◌}
use mathlib.Core.Path.{◌≡◌, refl, ap, subst, ◌∙◌}
use mathlib.Core.Logic.{◌⊎◌, inl, inr}
use mathlib.Core.Bool.{Bool, true, false, cond}
use Rattle.std.specs.Prelude.{Option, None, Some}
use mathlib.Core.List.{List, [], ◌∷◌}
use native.Mathlib.Omega.{arith}
use borrow.Author.Tests.{eqb-true, le-ltb, ltb-false}
use lib.Dec.{eqb, ltb}
use lib.ListN.{length, drop, length-append}
use Rattle.kinds.specs.Limits.{standard}
use Rattle.kinds.proofs.Tests.{never}
use Rattle.stored.specs.Counted.{AtFront, CUT, FRONT}
use Rattle.roll_rules.specs.Answers.{ENTRIES, REFUSED, by_rules, edition_1, judged, unbroken}
use Rattle.roll_format.specs.Format.{Entry, Listing, entry, listing, longest, roll, with_first}
use Rattle.roll_rules.specs.Rules.{broken}
use Rattle.roll_rules.specs.EntriesBefore.{EntriesBefore}
use Rattle.roll_format.specs.EntriesStand.{EntriesStand}
use Rattle.roll_rules.specs.declared.RollRefusal.TheVariants.{TooLong}
use Rattle.roll_format.proofs.Format.{stands_within, entry-there, front_entries, in_front, listing-cut, listing_stands, listing_stands_up, listing-whole}

-- a roll of no bytes
pub record Blank (bytes : List ℕ) (es : List Entry) (end : ℕ) : Type 0 where
  pub no_bytes : bytes ≡ []
  pub no_entries : es ≡ []
  pub at_0 : end ≡ 0

-- any other
pub record SoundRoll (bytes : List ℕ) (es : List Entry) (end : ℕ) : Type 0 where
  pub short : length bytes ≤ longest
  pub first : bytes ≡ 1 ∷ drop 1 bytes
  pub stand : EntriesStand bytes 1 es end
  pub within : end ≤ length bytes
  pub torn : entry (drop end bytes) ≡ CUT
  pub obeyed : broken standard [] es ≡ None

in_front-whole : (es : List Entry) (end : ℕ) → in_front es (record { entries = []; end = end }) ≡ record { entries = es; end = end }
unfolding in_front with_first
in_front-whole [] end = refl
in_front-whole (e ∷ es) end = ap (with_first e) (in_front-whole es end)

-- where a listing ends no whole entry stands
listing_torn : (bytes : List ℕ) (at : ℕ) → at ≤ length bytes → entry (drop (listing 0 at (drop at bytes)).end bytes) ≡ CUT
unfolding with_first
listing_torn bytes at h = go (entry (drop end bytes)) refl
  where
    end : ℕ
    end = (listing 0 at (drop at bytes)).end

    none_left : length (listing 0 end (drop end bytes)).entries ≡ 0
    none_left =
        let (up, within) = listing_stands_up bytes at h in
        let same = listing_stands bytes at (listing 0 at (drop at bytes)).end (listing 0 at (drop at bytes)).entries up in
        omega (
          arith,
          ap (λ (l : Listing). length l.entries) same,
          ap length (front_entries (listing 0 at (drop at bytes)).entries (listing 0 end (drop end bytes))),
          length-append (listing 0 at (drop at bytes)).entries (listing 0 end (drop end bytes)).entries,
        )

    go : (x : AtFront (List (List ℕ))) → entry (drop end bytes) ≡ x → entry (drop end bytes) ≡ CUT
    go CUT e = e
    go (FRONT ss rest) e =
        let (next, is, low, high) = entry-there bytes end (listing_stands_up bytes at h).1 e in
        let more = listing-whole bytes end next (e ∙ ap (FRONT ss) is) low high in
        absurd (omega (arith, none_left, ap (λ (l : Listing). length l.entries) more))

pub reads_sound : (bytes : List ℕ) {es : List Entry} {end : ℕ} → judged edition_1 bytes ≡ ENTRIES es end → Blank bytes es end ⊎ SoundRoll bytes es end
unfolding judged by_rules unbroken roll broken
reads_sound bytes {es} {end} e = by_length (ltb longest (length bytes)) refl e
  where
    by_listing : (b : ℕ) (bs : List ℕ) → length (b ∷ bs) ≤ longest → b ≡ 1 → (x : Option ℕ) → broken standard [] (listing 0 1 bs).entries ≡ x → unbroken x (listing 0 1 bs) ≡ ENTRIES es end
        → SoundRoll (b ∷ bs) es end
    by_listing b bs short one None obeys h =
        let listed : (listing 0 1 bs).entries ≡ es = cc in
        let ends : (listing 0 1 bs).end ≡ end = cc in
        let (up, within) = listing_stands_up (b ∷ bs) 1 (omega arith) in
        record {
          short = short;
          first = ap (◌∷ bs) one;
          stand = subst (λ k. EntriesStand (b ∷ bs) 1 es k) ends (subst (λ fs. EntriesStand (b ∷ bs) 1 fs (listing 0 1 bs).end) listed up);
          within = omega (arith, ends, within);
          torn = subst (λ k. entry (drop k (b ∷ bs)) ≡ CUT) ends (listing_torn (b ∷ bs) 1 (omega arith));
          obeyed = subst (λ fs. broken standard [] fs ≡ None) listed obeys;
        }
    by_listing b bs short one (Some p) obeys h = never cc

    by_first : (b : ℕ) (bs : List ℕ) → length (b ∷ bs) ≤ longest → (t : Bool) → eqb b 1 ≡ t → by_rules standard (cond t (Some (listing 0 1 bs)) None) ≡ ENTRIES es end
        → SoundRoll (b ∷ bs) es end
    by_first b bs short true one h = by_listing b bs short (eqb-true b 1 one) (broken standard [] (listing 0 1 bs).entries) refl h
    by_first b bs short false one h = never cc

    by_bytes : (bs : List ℕ) → length bs ≤ longest → by_rules standard (roll 1 bs) ≡ ENTRIES es end → Blank bs es end ⊎ SoundRoll bs es end
    by_bytes [] short h =
        let nothing : es ≡ [] = cc in
        let zero_end : end ≡ 0 = cc in
        inl (record { no_bytes = refl; no_entries = nothing; at_0 = zero_end })
    by_bytes (b ∷ bs) short h = inr (by_first b bs short (eqb b 1) refl h)

    by_length : (t : Bool) → ltb longest (length bytes) ≡ t → cond t (REFUSED TooLong) (by_rules standard (roll 1 bytes)) ≡ ENTRIES es end → Blank bytes es end ⊎ SoundRoll bytes es end
    by_length true l h = never cc
    by_length false l h = by_bytes bytes (ltb-false longest (length bytes) l) h

pub blank_reads : judged edition_1 [] ≡ ENTRIES [] 0
unfolding judged by_rules unbroken roll broken
blank_reads = refl

pub sound_reads : (bytes : List ℕ) {es : List Entry} {end : ℕ} → SoundRoll bytes es end → judged edition_1 bytes ≡ ENTRIES es end
unfolding judged by_rules unbroken roll
sound_reads bytes {es} {end} s =
    let listed : listing 0 1 (drop 1 bytes) ≡ record { entries = es; end = end } =
    listing_stands bytes 1 end es s.stand ∙ ap (in_front es) (listing-cut bytes end s.torn s.within) ∙ in_front-whole es end in
    rw (le-ltb longest (length bytes) s.short) (ap (λ bs. by_rules standard (roll 1 bs)) s.first ∙ ap (λ (l : Listing). unbroken (broken standard [] l.entries) l) listed
    ∙ ap (λ x. unbroken x (record { entries = es; end = end })) s.obeyed)

-- the entries of every roll that reads stand before its end
pub reads_before : (bytes : List ℕ) {es : List Entry} {end : ℕ} → judged edition_1 bytes ≡ ENTRIES es end → EntriesBefore bytes es end
unfolding broken
reads_before bytes {es} {end} e = go (reads_sound bytes e)
  where
    go : Blank bytes es end ⊎ SoundRoll bytes es end → EntriesBefore bytes es end
    go (inl b) =
        record {
          short = omega (arith, ap length b.no_bytes);
          within = omega (arith, b.at_0);
          none_there = λ _. b.no_entries;
          stand = λ more. absurd (omega (arith, b.at_0));
          obeyed = ap (broken standard []) b.no_entries;
        }
    go (inr s) =
        record {
          short = s.short;
          within = s.within;
          none_there = λ z. absurd (omega (arith, z, stands_within bytes 1 end es s.stand));
          stand = λ _. s.stand;
          obeyed = s.obeyed;
        }
