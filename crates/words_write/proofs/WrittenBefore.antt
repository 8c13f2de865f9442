-- Bytes that stand in the output before a place stay when more is put from that place on. And what was put stands there.
use Prim.Native.Nat.{ℕ, ◌+◌, ◌-◌, ◌≤◌}
use mathlib.Core.Path.{◌≡◌, refl, ap, ap₂, sym, ◌∙◌}
use mathlib.Core.List.{List, ◌++◌, append_assoc}
use native.Mathlib.Omega.{arith}
use lib.ListN.{drop, length, take}
use lib.Seq.{drop_at, length-take-le, take-add, take-append-le, take-append_seam, take-take}
use Rattle.std.specs.List.{copy_within}
use Rattle.kinds.specs.Written.{put_at}
use Rattle.stored.specs.Spans.{part}
use Rattle.stored.specs.declared.Span.{Span}
use Rattle.stored.proofs.Pairs.{part_long}
use Rattle.words_write.specs.Writing.{WrittenBefore}

module _ (out : List ℕ) (put : ℕ) (here : put ≤ length out) (bytes : List ℕ) where
  front : take put (put_at out put bytes) ≡ take put out
  front =
      let size : length (take put out) ≡ put = length-take-le put out here in
      ap (take put) (append_assoc (take put out) bytes (drop (put + length bytes) out))
      ∙ take-append-le put (take put out) (bytes ++ drop (put + length bytes) out) (omega arith) ∙ take-take put put out (omega arith)

  -- a part of the output, by the bytes before its end
  part_of : (l : List ℕ) (s : Span) → s.at + s.len ≤ length l → part l s ≡ drop s.at (take (s.at + s.len) l)
  part_of l s h =
      sym (ap (drop s.at) (take-add s.at s.len l) ∙ drop_at (take s.at l) (take s.len (drop s.at l)) s.at (length-take-le s.at l (omega arith)))

  pub stands_on : (s : Span) (was : List ℕ) → length (put_at out put bytes) ≡ length out → WrittenBefore out put s was
      → WrittenBefore (put_at out put bytes) (put + length bytes) s was
  stands_on s was long (before, is) =
      let end = s.at + s.len in
      let same : take end (put_at out put bytes) ≡ take end out =
      sym (take-take end put (put_at out put bytes) before) ∙ ap (take end) front ∙ take-take end put out before in
      (omega arith, part_of (put_at out put bytes) s (omega arith) ∙ ap (drop s.at) same ∙ sym (part_of out s (omega arith)) ∙ is)

  pub stands_here : (s : Span) → s.at ≡ put → s.len ≡ length bytes → WrittenBefore (put_at out put bytes) (put + length bytes) s bytes
  stands_here s here_is long =
      let size : length (take put out) ≡ put = length-take-le put out here in (
        omega arith,
        ap₂ (λ n k. take n (drop k (put_at out put bytes))) long here_is
            ∙ ap (take (length bytes)) (ap (drop put) (append_assoc (take put out) bytes (drop (put + length bytes) out)) ∙ drop_at (take put out) (bytes ++ drop (put + length bytes) out) put size)
            ∙ take-append_seam bytes (drop (put + length bytes) out),
      )

-- the library's copy within a slice, as bytes that are put
pub copied : (out : List ℕ) (put : ℕ) (s : Span) {end : ℕ} → end ≡ s.at + s.len → s.at + s.len ≤ length out
    → copy_within out s.at end put ≡ put_at out put (part out s)
copied out put s {end} e room =
    let size : length (part out s) ≡ s.len = part_long out s room in
    let count : end - s.at ≡ s.len = omega arith in
    rw (count, size) refl
