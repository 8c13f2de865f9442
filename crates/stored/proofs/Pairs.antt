-- Counted bytes, twice in a row, as the code finds them: what its answer says of them, whatever is made of the two.
use Prim.Native.Nat.{ℕ, ◌+◌}
use mathlib.Core.Path.{◌≡◌, refl, ap, ap₂, sym, ◌∙◌}
use mathlib.Core.List.{List}
use native.Mathlib.Omega.{arith}
use Rattle.std.specs.Prelude.{Option, Some, None}
use lib.ListN.{length, drop, length-drop}
use lib.Seq.{length-take-le}
use Rattle.kinds.proofs.Tests.{never}
use Rattle.stored.specs.Counted.{CUT, FRONT, two_counted}
use Rattle.stored.specs.Places.{counted_at, two_counted_at, two_counted_told}
use Rattle.stored.specs.Spans.{SpanWithin, part, span}
use Rattle.stored.specs.declared.Span.{Span}
use Rattle.stored.proofs.Counted.{two_first-cut, two_second_cut, two-whole}
use Rattle.stored.proofs.Places.{counted_found, counted_lost}

-- as long as the span says
pub part_long : (bytes : List ℕ) (s : Span) → SpanWithin bytes s → length (part bytes s) ≡ s.len
part_long bytes s h = length-take-le s.len (drop s.at bytes) (omega (arith, length-drop s.at bytes))

-- where counted bytes that are found twice in a row stand: the second's count is behind the first
pub record TwoCountedFound (bytes : List ℕ) (at : ℕ) (first second : Span) : Type 0 where
  pub place : first.at ≡ at + 4
  pub within : SpanWithin bytes first
  pub place₂ : second.at ≡ first.at + first.len + 4
  pub within₂ : SpanWithin bytes second

module _ (bytes : List ℕ) (at : ℕ) where
  -- the first or the second is cut, or both are whole
  pub two_counted_at-cut : counted_at bytes at ≡ None → None ≡ two_counted_at bytes at
  unfolding two_counted_at
  two_counted_at-cut e = ap (two_counted_told at) (sym (two_first-cut (λ one two. (one, two)) (drop at bytes) (counted_lost bytes at e)))

  module _ {first : Span} (one : counted_at bytes at ≡ Some first) where
    pub two_counted_at_short : counted_at bytes (first.at + first.len) ≡ None → None ≡ two_counted_at bytes at
    unfolding two_counted_at
    two_counted_at_short e =
        ap (two_counted_told at)
        (sym (two_second_cut (λ one two. (one, two)) (drop at bytes) (counted_found bytes at one).front (counted_lost bytes (first.at + first.len) e)))

    pub two_counted_at-whole : {second : Span} → counted_at bytes (first.at + first.len) ≡ Some second → Some (first, second) ≡ two_counted_at bytes at
    unfolding two_counted_at
    two_counted_at-whole {second} e =
        let a = counted_found bytes at one in
        let b = counted_found bytes (first.at + first.len) e in
        let size = part_long bytes first a.within in
        let behind : at + 4 + length (part bytes first) + 4 ≡ second.at = omega (arith, a.place, b.place, size) in
        sym
        (ap (two_counted_told at) (two-whole (λ one two. (one, two)) (drop at bytes) a.front b.front)
        ∙ ap₂ (λ (a b : Span). Some (a, b)) (ap₂ span (sym a.place) size) (ap₂ span behind (part_long bytes second b.within)))

  -- what the code's answer says: each of the two as it is found by itself
  two_counted-parts : {first second : Span} → two_counted_at bytes at ≡ Some (first, second)
      → (counted_at bytes at ≡ Some first) × (counted_at bytes (first.at + first.len) ≡ Some second)
  two_counted-parts {first} {second} e = go (counted_at bytes at) refl
    where
      both : (a : Span) → counted_at bytes at ≡ Some a → (x : Option Span) → counted_at bytes (a.at + a.len) ≡ x
          → (counted_at bytes at ≡ Some first) × (counted_at bytes (first.at + first.len) ≡ Some second)
      both a h None g = never (let z = two_counted_at_short h g in cc)
      both a h (Some b) g =
          let is = two_counted_at-whole h g ∙ e in
          let same : (a, b) ≡ (first, second) = cc in
          let one = ap (λ (p : Span × Span). p.0) same in
          let two = ap (λ (p : Span × Span). p.1) same in
          (h ∙ ap Some one, ap (λ (s : Span). counted_at bytes (s.at + s.len)) (sym one) ∙ g ∙ ap Some two)

      go : (x : Option Span) → counted_at bytes at ≡ x → (counted_at bytes at ≡ Some first) × (counted_at bytes (first.at + first.len) ≡ Some second)
      go None h = never (let z = two_counted_at-cut h in cc)
      go (Some a) h = both a h (counted_at bytes (a.at + a.len)) refl

  module _ {first second : Span} (found : two_counted_at bytes at ≡ Some (first, second)) where
    pub two_counted_found : TwoCountedFound bytes at first second
    two_counted_found =
        let (one, two) = two_counted-parts found in
        let a = counted_found bytes at one in
        let b = counted_found bytes (first.at + first.len) two in
        record { place = a.place; within = a.within; place₂ = b.place; within₂ = b.within }

    pub two_counted_front : {A : Type 0} (f : List ℕ → List ℕ → A)
        → two_counted f (drop at bytes) ≡ FRONT (f (part bytes first) (part bytes second)) (drop (second.at + second.len) bytes)
    two_counted_front f =
        let (one, two) = two_counted-parts found in
        two-whole f (drop at bytes) (counted_found bytes at one).front (counted_found bytes (first.at + first.len) two).front

  pub two_counted_lost : two_counted_at bytes at ≡ None → {A : Type 0} (f : List ℕ → List ℕ → A) → two_counted f (drop at bytes) ≡ CUT
  two_counted_lost e {A} f = go (counted_at bytes at) refl
    where
      short : (a : Span) → counted_at bytes at ≡ Some a → (x : Option Span) → counted_at bytes (a.at + a.len) ≡ x → two_counted f (drop at bytes) ≡ CUT
      short a h None g = two_second_cut f (drop at bytes) (counted_found bytes at h).front (counted_lost bytes (a.at + a.len) g)
      short a h (Some b) g = never (let z = two_counted_at-whole h g in cc)

      go : (x : Option Span) → counted_at bytes at ≡ x → two_counted f (drop at bytes) ≡ CUT
      go None h = two_first-cut f (drop at bytes) (counted_lost bytes at h)
      go (Some a) h = short a h (counted_at bytes (a.at + a.len)) refl
