-- A piece has as many bytes as its length says, and these are what the plan's piece prints; and what stands in the output once a
-- piece is put there.
use Prim.Native.Nat.{ℕ, suc, ◌+◌, ◌≤◌, ◌<◌}
use mathlib.Core.Path.{◌≡◌, refl, ap, sym, ◌∙◌}
use mathlib.Core.List.{List, [], ◌∷◌}
use native.Mathlib.Numerals.{add-one}
use native.Mathlib.Omega.{arith}
use lib.ListN.{length, take, drop, set, length-drop}
use lib.Seq.{length-take-le, append_snoc, set_split}
use Rattle.kinds.specs.declared.Token.{Token as TextToken}
use Rattle.plan.specs.Pieces.{Piece as PlanPiece, piece_print}
use Rattle.kinds.specs.Written.{put_at}
use Rattle.pieces.specs.Written.{Is, is_operator, is_token, is_open, is_close, piece_bytes, piece_length, InText}
use Rattle.pieces.specs.declared.Piece.{Piece}
use Rattle.pieces.specs.declared.Piece.TheVariants.{Operator, Token, Open, Close}

pub length-piece : (text : List ℕ) (k : Piece) → InText text k → length (piece_bytes text k) ≡ piece_length k
unfolding piece_bytes
length-piece text (Operator o) h = refl
length-piece text (Token t) h = length-take-le t.len (drop t.at.0 text) (simp length-drop (omega arith))
length-piece text Open h = refl
length-piece text Close h = refl

module _ {L : Type 0} {text : List ℕ} where
  pub is_in_text : {k : Piece} {x : PlanPiece L} → Is text k x → InText text k
  is_in_text is_operator = tt
  is_in_text (is_token h) = h.0
  is_in_text is_open = tt
  is_in_text is_close = tt

  pub is_printed : {k : Piece} {x : PlanPiece L} → Is text k x → piece_bytes text k ≡ piece_print x
  unfolding piece_bytes piece_print
  is_printed is_operator = refl
  is_printed (is_token h) = h.1
  is_printed is_open = refl
  is_printed is_close = refl

-- a piece at its place in the output: a byte is one store, a token is copied
module _ (text out : List ℕ) (put : ℕ) (piece : Piece) (room : put + piece_length piece ≤ length out) where
  byte_room : (x : Piece) → piece ≡ x → piece_length x ≡ 1 → put < length out
  byte_room x is one = omega (arith, room, ap piece_length is)

  pub byte_put : (x : Piece) (b : ℕ) → piece ≡ x → piece_length x ≡ 1 → b ∷ [] ≡ piece_bytes text x → set out put b ≡ put_at out put (piece_bytes text piece)
  byte_put x b is one e =
      rw (is, ← e) (set_split out put b (byte_room x is one) ∙ rw add-one (sym (append_snoc (take put out) b (drop (suc put) out))))

  module _ (t : TextToken) (is : piece ≡ Token t) where
    pub token_there : InText text piece → t.at.0 + t.len ≤ length text
    token_there h = rw is at h

    pub token_room : put + t.len ≤ length out
    token_room = rw is at room

    pub token_put : (out' : List ℕ) → out' ≡ put_at out put (take t.len (drop t.at.0 text)) → out' ≡ put_at out put (piece_bytes text piece)
    unfolding piece_bytes
    token_put out' e = e ∙ rw is
