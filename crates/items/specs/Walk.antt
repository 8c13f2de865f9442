-- What a step of the walk says. The text shows pieces from where the walk stands. The step tells the first of them with its place, and
-- the others begin behind it; or that there is none.
use Rattle.std.specs.Prelude.{Option, Some, None, ℕ, ◌+◌, ◌<◌, ◌≤◌, ◌≡◌, false, List, [], ◌∷◌, ◌++◌, length, get_or, drop}
use Rattle.kinds.specs.Limits.{text_limit, token_limit}
use Rattle.plan.specs.Plan.{Plan, print}
use Rattle.plan.specs.Pieces.{Found, Piece as PlanPiece, OP, TOKEN, BEGIN, END, Shows, piece_print, pieces}
use Rattle.plan.specs.Reading.{Mark, class, mark, place}
use Rattle.pieces.specs.Written.{Is, piece_length}
use Rattle.pieces.specs.declared.Piece.{Piece as CodePiece}
use Rattle.pieces.specs.declared.Piece.TheVariants.{Token}
use Rattle.items.specs.declared.Placed.{Placed}

-- from the place on, the text shows pieces
pub record ShowsAhead (text : List ℕ) (at : ℕ) : Type 0 where
  pub short : length text ≤ text_limit
  pub come : List (PlanPiece ℕ)
  pub shows : Shows token_limit at (drop at text) come

-- a piece that begins an item has its place as its label
abbrev pub LabelledAt : ℕ → PlanPiece ℕ → Type 0
LabelledAt at (OP l o) = l ≡ at
LabelledAt at (TOKEN l t) = l ≡ at
LabelledAt at (BEGIN l) = l ≡ at
LabelledAt at END = Unit {0}

-- the first of the pieces ps is k, at the place `at`; the others come from the place `rest` on
pub record Passed (text : List ℕ) (from : ℕ) (k : CodePiece) (at rest : ℕ) (ps : List (PlanPiece ℕ)) : Type 0 where
  pub first : PlanPiece ℕ
  pub later : List (PlanPiece ℕ)
  pub parts : ps ≡ first ∷ later
  pub is : Is text k first
  pub placed : LabelledAt at first
  pub prints : drop at text ≡ piece_print first ++ drop rest text
  pub shows : Shows token_limit rest (drop rest text) later
  pub ahead : from < rest
  pub within : rest ≤ length text

-- the place behind a piece
abbrev pub behind : Placed → ℕ
behind k = k.at.0 + piece_length k.piece

-- the piece is the first of the pieces ps, which the text shows from the place `from` on
abbrev pub Begins : (text : List ℕ) → (from : ℕ) → Placed → List (PlanPiece ℕ) → Type 0
Begins text from k ps = Passed text from k.piece k.at.0 (behind k) ps

abbrev pub Walked : (text : List ℕ) → (from : ℕ) → Option Placed → List (PlanPiece ℕ) → Type 0
Walked text from None ps = ps ≡ []
Walked text from (Some k) ps = Begins text from k ps

-- what the walk gives, where it stands before and behind it; where no piece comes, it stands where it stood
abbrev pub Gives : (text : List ℕ) → (from : ℕ) → Option Placed → (text' : List ℕ) → (rest : ℕ) → Type 0
Gives text from None text' rest =
    (text' ≡ text) × ((rest ≡ from) × ((ps : List (PlanPiece ℕ)) → Shows token_limit from (drop from text) ps → ps ≡ []))
Gives text from (Some k) text' rest =
    (text' ≡ text) × ((ps : List (PlanPiece ℕ)) → Shows token_limit from (drop from text) ps → Passed text from k.piece k.at.0 rest ps)

-- the piece at a place
abbrev pub at_place : CodePiece → ℕ → Placed
at_place k at = record { piece = k; at = place at }

-- the token with the text t, whose `{` stands at the place
abbrev pub one_token : ℕ → List ℕ → Placed
one_token at t = at_place (Token (record { at = place at; len = length t + 2 })) at

pub record TokenFrom (text : List ℕ) (at : ℕ) : Type 0 where
  pub short : length text ≤ text_limit
  pub inside : at < length text
  pub t : List ℕ
  pub found : Found token_limit (drop (at + 1) text) t

-- a mark stands at the place, and m are its bytes behind the first one
pub record MarkAt (text : List ℕ) (at : ℕ) (m : List ℕ) : Type 0 where
  pub rest : List ℕ
  pub splits : drop (at + 1) text ≡ m ++ rest
  pub is : Mark token_limit (get_or text at 0) m

pub record MarkFrom (text : List ℕ) (at : ℕ) : Type 0 where
  pub short : length text ≤ text_limit
  pub inside : at < length text
  pub m : List ℕ
  pub found : MarkAt text at m

-- the text shows pieces from the place on, and no mark begins there
pub record PieceFrom (text : List ℕ) (at : ℕ) : Type 0 where
  pub ahead : ShowsAhead text at
  pub inside : at < length text
  pub no_mark : mark (class (get_or text at 0)) (drop (at + 1) text) ≡ false

-- the text shows the pieces of a plan, and its printed text has room in the output from the place on
pub record Tidyable (text out : List ℕ) (from : ℕ) : Type 0 where
  pub short : length text ≤ text_limit
  pub plan : Plan ℕ
  pub shows : Shows token_limit 0 text (pieces plan)
  pub room : from + length (print plan) ≤ length out
