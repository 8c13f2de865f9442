-- What a piece of the code is: a piece of a plan. Where it is a token, the token stands in the text.
use Rattle.std.specs.Prelude.{ℕ, ◌+◌, ◌≤◌, ◌≡◌, List, [], ◌∷◌, ◌++◌, length, take, drop}
use Rattle.kinds.specs.declared.Token.{Token as TextToken}
use Rattle.plan.specs.Plan.{letter, open_bracket, close_bracket, open_brace, close_brace}
use Rattle.plan.specs.Pieces.{Piece as PlanPiece, OP, TOKEN, BEGIN, END}
use Rattle.plan.specs.declared.Operator.{Operator as PlanOperator}
use Rattle.pieces.specs.declared.Piece.{Piece}
use Rattle.pieces.specs.declared.Piece.TheVariants.{Operator, Token, Open, Close}

-- the bytes of a token in the text, both braces among them, from a place on
abbrev pub TokenAt : (text : List ℕ) → (at len : ℕ) → List ℕ → Type 0
TokenAt text at len t = (at + len ≤ length text) × (take len (drop at text) ≡ open_brace ∷ (t ++ close_brace ∷ []))

-- the code's piece is the plan's
pub data Is {L : Type 0} (text : List ℕ) : Piece → PlanPiece L → Type 0 where
  is_operator : {l : L} {o : PlanOperator} → Is text (Operator o) (OP l o)
  is_token : {l : L} {k : TextToken} {t : List ℕ} → TokenAt text k.at.0 k.len t → Is text (Token k) (TOKEN l t)
  is_open : {l : L} → Is text Open (BEGIN l)
  is_close : Is text Close END

unfoldable pub piece_bytes : (text : List ℕ) → Piece → List ℕ
piece_bytes text (Operator o) = letter o ∷ []
piece_bytes text (Token k) = take k.len (drop k.at.0 text)
piece_bytes text Open = open_bracket ∷ []
piece_bytes text Close = close_bracket ∷ []

abbrev pub piece_length : Piece → ℕ
piece_length (Operator o) = 1
piece_length (Token k) = k.len
piece_length Open = 1
piece_length Close = 1

-- a token's bytes stand in the text
abbrev pub InText : (text : List ℕ) → Piece → Type 0
InText text (Operator o) = Unit {0}
InText text (Token k) = k.at.0 + k.len ≤ length text
InText text Open = Unit {0}
InText text Close = Unit {0}
