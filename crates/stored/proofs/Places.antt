-- What the code finds at a place is what stands at the front of the bytes from there on.
use Prim.Native.Nat.{ℕ, ◌+◌, ◌*◌, ◌-◌, ◌≤◌, ◌<◌}
use mathlib.Core.Path.{◌≡◌, refl, ap, ap₂, sym, subst, ◌∙◌}
use mathlib.Core.List.{List, [], ◌∷◌}
use native.Mathlib.Omega.{arith}
use Rattle.std.proofs.lemmas.List.{get_or-drop}
use Rattle.std.specs.Prelude.{Some, None, slice_index}
use borrow.Author.Tests.{le-leb, lt-leb}
use lib.ListN.{length, take, drop, get_or, length-drop}
use lib.Seq.{drop-drop, length-take-le}
use Rattle.kinds.proofs.Tests.{never}
use Rattle.stored.specs.Counted.{AtFront, CUT, FRONT, counted, number, so_many, then_read}
use Rattle.stored.specs.Places.{number_at, number_told, counted_at, counted_told}
use Rattle.stored.specs.Spans.{SpanWithin, part, span}
use Rattle.stored.specs.declared.Span.{Span}
use Rattle.stored.proofs.Counted.{number_cut, number_front, so_many-parts, then-parts}

-- what counted bytes that are found say of all bytes: they stand behind their count, and the rest behind them
pub record RunFound (bytes : List ℕ) (at : ℕ) (s : Span) : Type 0 where
  pub place : s.at ≡ at + 4
  pub within : SpanWithin bytes s
  pub front : counted (drop at bytes) ≡ FRONT (part bytes s) (drop (s.at + s.len) bytes)

module _ (bytes : List ℕ) (at : ℕ) where
  pub number_at-cut : length bytes < at + 4 → None ≡ number_at bytes at
  unfolding number_at
  number_at-cut h = ap number_told (sym (number_cut bytes at h))

  -- the four bytes from there on
  pub number_at-whole : at + 4 ≤ length bytes → (n : ℕ)
      → n ≡ slice_index bytes at + slice_index bytes (at + 1) * 256 + slice_index bytes (at + 2) * 65536 + slice_index bytes (at + 3) * 16777216 → Some n ≡ number_at bytes at
  unfolding number_at number
  number_at-whole within n e = go (drop at bytes) (omega (arith, length-drop at bytes)) (λ i. get_or-drop at bytes i 0)
    where
      go : (bs : List ℕ) → 4 ≤ length bs → ((i : ℕ) → get_or bs i 0 ≡ get_or bytes (at + i) 0) → Some n ≡ number_told (number bs)
      go [] h same = absurd (omega arith)
      go (a ∷ []) h same = absurd (omega arith)
      go (a ∷ b ∷ []) h same = absurd (omega arith)
      go (a ∷ b ∷ c ∷ []) h same = absurd (omega arith)
      go (a ∷ b ∷ c ∷ d ∷ bs) h same =
          let first : a ≡ get_or bytes at 0 = same 0 ∙ ap (λ i. get_or bytes i 0) (omega arith) in
          ap Some (omega (arith, e, first, same 1, same 2, same 3))

  -- a number that is found stands within the bytes, and the rest behind it
  pub number_found : {n : ℕ} → number_at bytes at ≡ Some n → (at + 4 ≤ length bytes) × (number (drop at bytes) ≡ FRONT n (drop (at + 4) bytes))
  unfolding number_at
  number_found {n} e = go (number (drop at bytes)) refl e
    where
      go : (x : AtFront ℕ) → number (drop at bytes) ≡ x → number_told x ≡ Some n → (at + 4 ≤ length bytes) × (number (drop at bytes) ≡ FRONT n (drop (at + 4) bytes))
      go CUT h told = never cc
      go (FRONT m rest) h told =
          let (long, behind) = number_front (drop at bytes) h in
          let same : m ≡ n = cc in
          (omega (arith, length-drop at bytes), h ∙ ap₂ FRONT same (behind ∙ drop-drop 4 at bytes))

  pub number_lost : number_at bytes at ≡ None → number (drop at bytes) ≡ CUT
  unfolding number_at
  number_lost e = go (number (drop at bytes)) refl e
    where
      go : (x : AtFront ℕ) → number (drop at bytes) ≡ x → number_told x ≡ None → number (drop at bytes) ≡ CUT
      go CUT h told = h
      go (FRONT n rest) h told = never cc

  -- counted bytes are cut with their count, or behind it, or whole
  pub counted_at-cut : number_at bytes at ≡ None → None ≡ counted_at bytes at
  unfolding counted_at number_at counted then_read
  counted_at-cut e = go (number (drop at bytes)) e
    where
      go : (x : AtFront ℕ) → number_told x ≡ None → None ≡ counted_told at (then_read x so_many)
      go CUT told = refl
      go (FRONT m rest) told = never cc

  module _ {n : ℕ} (found : number_at bytes at ≡ Some n) where
    counted_so : counted (drop at bytes) ≡ so_many n (drop (at + 4) bytes)
    unfolding counted then_read
    counted_so = ap (λ x. then_read x so_many) (number_found found).1

    pub counted_at_short : length bytes - (at + 4) < n → None ≡ counted_at bytes at
    unfolding counted_at so_many
    counted_at_short h = sym (ap (counted_told at) counted_so ∙ rw (lt-leb n (length (drop (at + 4) bytes)) (omega (arith, length-drop (at + 4) bytes))) refl)

    pub counted_at-whole : n ≤ length bytes - (at + 4) → Some (span (at + 4) n) ≡ counted_at bytes at
    unfolding counted_at so_many
    counted_at-whole h =
        let within : n ≤ length (drop (at + 4) bytes) = omega (arith, length-drop (at + 4) bytes) in
        sym (ap (counted_told at) counted_so ∙ rw (le-leb n (length (drop (at + 4) bytes)) within) (ap (λ k. Some (span (at + 4) k)) (length-take-le n (drop (at + 4) bytes) within)))

  -- and what the code's answer says of the bytes
  pub counted_lost : counted_at bytes at ≡ None → counted (drop at bytes) ≡ CUT
  unfolding counted_at
  counted_lost e = go (counted (drop at bytes)) refl e
    where
      go : (x : AtFront (List ℕ)) → counted (drop at bytes) ≡ x → counted_told at x ≡ None → counted (drop at bytes) ≡ CUT
      go CUT h told = h
      go (FRONT given rest) h told = never cc

  pub counted-there : {given rest : List ℕ} → counted (drop at bytes) ≡ FRONT given rest
      → (at + 4 + length given ≤ length bytes) × (given ≡ take (length given) (drop (at + 4) bytes)) × (rest ≡ drop (at + 4 + length given) bytes)
  unfolding counted
  counted-there {given} {rest} h =
      let (n, between, one, two) = then-parts (number (drop at bytes)) so_many h in
      let (long, behind) = number_front (drop at bytes) one in
      let (fits, is, left) = so_many-parts n between two in
      let same : between ≡ drop (at + 4) bytes = behind ∙ drop-drop 4 at bytes in
      let size : length given ≡ n = ap length is ∙ length-take-le n between fits in (
        omega (arith, length-drop at bytes, length-drop (at + 4) bytes, ap length same),
        is ∙ ap₂ take (sym size) same,
        left ∙ ap (drop n) same ∙ drop-drop n (at + 4) bytes ∙ ap (λ k. drop (at + 4 + k) bytes) (sym size),
      )

  pub counted_found : {s : Span} → counted_at bytes at ≡ Some s → RunFound bytes at s
  unfolding counted_at
  counted_found {s} e = go (counted (drop at bytes)) refl e
    where
      go : (x : AtFront (List ℕ)) → counted (drop at bytes) ≡ x → counted_told at x ≡ Some s → RunFound bytes at s
      go CUT h told = never cc
      go (FRONT given rest) h told =
          let same : span (at + 4) (length given) ≡ s = cc in
          let (fits, is, left) = counted-there h in
          subst (RunFound bytes at) same (record { place = refl; within = fits; front = h ∙ ap₂ FRONT is left })
