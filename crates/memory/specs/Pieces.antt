-- The piece that a port shows by its own numbers. And the one condition that the walks along a plan's
-- chain ask for: its printed text has room.
use Rattle.std.specs.Prelude.{ℕ, ◌+◌, ◌*◌, ◌%◌, ◌≤◌, cond, List, [], ◌∷◌, eqb, length}
use Rattle.kinds.specs.Limits.{token_limit, cell_limit}
use Rattle.kinds.specs.declared.Token.{Token as TextToken}
use Rattle.plan.specs.Plan.{Plan, print}
use Rattle.plan.specs.Pieces.{Piece as PlanPiece}
use Rattle.pieces.specs.Written.{Is}
use Rattle.pieces.specs.declared.Piece.{Piece}
use Rattle.pieces.specs.declared.Piece.TheVariants.{Operator, Token, Open, Close}
use Rattle.memory.specs.Held.{HeldIn}
use Rattle.memory.specs.Memory.{datum, token_at}
use Rattle.memory.specs.Numbered.{kind_of}
use Rattle.memory.specs.declared.HeldPlan.{HeldPlan}
use Rattle.memory.specs.declared.Kind.{Kind}
use Rattle.memory.specs.declared.Kind.TheVariants.{Operator as OPERATOR, Token as TOKEN, Block as BLOCK}

abbrev pub start_piece : Kind → TextToken → Piece
start_piece (OPERATOR o) t = Operator o
start_piece TOKEN t = Token t
start_piece BLOCK t = Open

-- an odd port is a `]`; an even one is by its datum an operator, a token or a `[`
unfoldable pub piece_at : List ℕ → (port : ℕ) → Piece
piece_at w port = cond (eqb (port % 2) 1) Close (start_piece (kind_of (datum w port)) (token_at w port))

-- the ports show these pieces, one each
abbrev pub Shown : (text w : List ℕ) → List ℕ → List (PlanPiece ℕ) → Type 0
Shown text w [] [] = Unit {0}
Shown text w [] (x ∷ ps) = ⊥
Shown text w (p ∷ qs) [] = ⊥
Shown text w (p ∷ qs) (x ∷ ps) = Is text (piece_at w p) x × Shown text w qs ps

-- the longest printed text
abbrev pub print_limit : ℕ
print_limit = token_limit * cell_limit

-- the memory holds a plan whose printed text ends at the place `room` or before it, if it begins at the place `from`
pub record PrintsWithin (from room : ℕ) (text : List ℕ) (h : HeldPlan) : Type 0 where
  pub plan : Plan ℕ
  pub held : HeldIn text h plan
  pub fits : from + length (print plan) ≤ room
