-- Bytes behind bytes in an output: what is put from a place on, and then from its end on, is put there in a row.
use Prim.Native.Nat.{ℕ, ◌+◌, ◌≤◌}
use mathlib.Core.Path.{◌≡◌, ap, sym, ◌∙◌}
use mathlib.Core.List.{List, [], ◌++◌, append_assoc, append-nil}
use native.Mathlib.Omega.{arith}
use native.Mathlib.Nat.{add-zero, zero-add}
use lib.ListN.{length, take, drop, length-append, length-drop, take-append-drop}
use lib.Seq.{length-take-le, take_at, drop_at, drop-drop}
use Rattle.kinds.specs.Written.{put_at, written}

pub put_nothing : (out : List ℕ) (put : ℕ) → put_at out put [] ≡ out
put_nothing out put = rw (append-nil, add-zero) (take-append-drop put out)

pub put_front : (t out : List ℕ) → put_at out 0 t ≡ written t out
put_front t out = ap (λ k. t ++ drop k out) (zero-add (length t))

module _ (out : List ℕ) (put : ℕ) (xs : List ℕ) (room : put + length xs ≤ length out) where
  front : length (take put out ++ xs) ≡ put + length xs
  front = length-append (take put out) xs ∙ ap (◌+ length xs) (length-take-le put out (omega arith))

  pub put_long : length (put_at out put xs) ≡ length out
  put_long =
      omega (arith, front, length-append (take put out ++ xs) (drop (put + length xs) out), length-drop (put + length xs) out)

  pub put_on : (ys : List ℕ) → put_at (put_at out put xs) (put + length xs) ys ≡ put_at out put (xs ++ ys)
  put_on ys =
      let rest = drop (put + length xs) out in
      let both : put + length xs + length ys ≡ put + length (xs ++ ys) = omega (arith, length-append xs ys) in
      let later : drop (put + length xs + length ys) (put_at out put xs) ≡ drop (put + length (xs ++ ys)) out =
      sym (drop-drop (length ys) (put + length xs) (put_at out put xs)) ∙ ap (drop (length ys)) (drop_at (take put out ++ xs) rest (put + length xs) front)
      ∙ drop-drop (length ys) (put + length xs) out ∙ ap (λ k. drop k out) both in
      rw (take_at (take put out ++ xs) rest (put + length xs) front, later, append_assoc (take put out) xs ys)
