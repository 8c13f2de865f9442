-- What stands at a place of some bytes, as the code says it: told by what stands at the front of the bytes from there on.
use Rattle.std.specs.Prelude.{ℕ, ◌+◌, List, length, drop, Option, Some, None}
use Rattle.stored.specs.Counted.{AtFront, CUT, FRONT, counted, number, two_counted}
use Rattle.stored.specs.Spans.{span}
use Rattle.stored.specs.declared.Span.{Span}

abbrev pub number_told : AtFront ℕ → Option ℕ
number_told CUT = None
number_told (FRONT n rest) = Some n

unfoldable pub number_at : (bytes : List ℕ) → (at : ℕ) → Option ℕ
number_at bytes at = number_told (number (drop at bytes))

abbrev pub counted_told : (at : ℕ) → AtFront (List ℕ) → Option Span
counted_told at CUT = None
counted_told at (FRONT found rest) = Some (span (at + 4) (length found))

unfoldable pub counted_at : (bytes : List ℕ) → (at : ℕ) → Option Span
counted_at bytes at = counted_told at (counted (drop at bytes))

-- the second's count stands behind the first
abbrev pub two_counted_told : (at : ℕ) → AtFront (List ℕ × List ℕ) → Option (Span × Span)
two_counted_told at CUT = None
two_counted_told at (FRONT (one, two) rest) = Some (span (at + 4) (length one), span (at + 4 + length one + 4) (length two))

unfoldable pub two_counted_at : (bytes : List ℕ) → (at : ℕ) → Option (Span × Span)
two_counted_at bytes at = two_counted_told at (two_counted (λ one two. (one, two)) (drop at bytes))
