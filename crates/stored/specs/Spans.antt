-- A span of some bytes: where it begins and how many it has. Then the bytes that it names, and that all of them are there.
use Rattle.std.specs.Prelude.{ℕ, ◌+◌, ◌≤◌, List, length, take, drop}
use Rattle.stored.specs.declared.Span.{Span}

abbrev pub span : (at len : ℕ) → Span
span at len = record { at = at; len = len }

abbrev pub part : (bytes : List ℕ) → Span → List ℕ
part bytes s = take s.len (drop s.at bytes)

abbrev pub SpanWithin : (bytes : List ℕ) → Span → Type 0
SpanWithin bytes s = s.at + s.len ≤ length bytes
