-- What is written at a place: the stores of a number's bytes, and those of bytes behind their count, are what is put there.
use Prim.Native.Nat.{ℕ, suc, ◌+◌, ◌-◌, ◌≤◌}
use mathlib.Core.Path.{◌≡◌, ap, ap₂, sym, ◌∙◌}
use mathlib.Core.List.{List, [], ◌∷◌, ◌++◌, append_assoc, append-nil}
use native.Mathlib.Omega.{arith}
use borrow.Rule.Slice.PartMut.{mid_of, mid_len, post_of, Post-is, put_mid}
use lib.ListN.{length, set, take, drop, drop_of_length-le}
use lib.Seq.{sets-eq, take-length}
use Rattle.kinds.specs.Written.{put_at}
use Rattle.kinds.proofs.Putting.{put_on}
use Rattle.stored.specs.Counted.{four_bytes, with_count}

pub four_stores : (l : List ℕ) (at a b c d : ℕ) → at + 4 ≤ length l
    → set (set (set (set l at a) (at + 1) b) (at + 2) c) (at + 3) d ≡ put_at l at (a ∷ b ∷ c ∷ d ∷ [])
four_stores l at a b c d h =
    let one : at + 1 ≡ suc at = omega arith in
    let two : at + 2 ≡ suc (suc at) = omega arith in
    let three : at + 3 ≡ suc (suc (suc at)) = omega arith in
    rw (one, two, three) (sets-eq (a ∷ b ∷ c ∷ d ∷ []) l at h)

-- a part of the bytes that was lent to be written and is back
pub bytes_stored : (l given last : List ℕ) (at : ℕ) → at + length given ≤ length l
    → last ≡ take (length given) given ++ drop (length given) (mid_of at (at + length given - at) l)
    → put_mid at (at + length given - at) l last ≡ put_at l at given
bytes_stored l given last at room e =
    let size : length (mid_of at (at + length given - at) l) ≤ length given = omega (arith, mid_len at (at + length given) l room) in
    let all : last ≡ given = e ∙ ap₂ ◌++◌ (take-length given) (drop_of_length-le _ size) ∙ append-nil given in
    ap (λ r. take at l ++ (r ++ post_of at (at + length given - at) l)) all ∙ ap (λ r. take at l ++ (given ++ r)) (Post-is at (at + length given) l (omega arith))
    ∙ sym (append_assoc (take at l) given (drop (at + length given) l))

-- the count, then the bytes
pub counted_stored : (l m l' given : List ℕ) (at : ℕ) → at + 4 + length given ≤ length l → m ≡ put_at l at (four_bytes (length given)) → l' ≡ put_at m (at + 4) given
    → l' ≡ put_at l at (with_count given)
unfolding with_count four_bytes
counted_stored l m l' given at h one two = two ∙ ap (λ k. put_at k (at + 4) given) one ∙ put_on l at (four_bytes (length given)) (omega arith) given
