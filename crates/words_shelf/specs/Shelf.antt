-- Which of the first words of a list a token names, and what it stands for by them.
use Rattle.std.specs.Prelude.{ℕ, zero, suc, ◌≤◌, cond, List, length, Option, Some, None}
use Rattle.kinds.specs.declared.Token.{Token}
use Rattle.kinds.specs.Limits.{text_limit, token_limit}
use Rattle.plan.specs.Plan.{Plan}
use Rattle.plan.specs.Pieces.{Piece, OP, TOKEN, BEGIN, END, Shows, pieces}
use Rattle.plan.specs.Reading.{plan_of}
use Rattle.pieces.specs.Written.{Is, TokenAt}
use Rattle.pieces.specs.declared.Piece.{Piece as CodePiece}
use Rattle.stored.specs.Same.{same}
use Rattle.words_meaning.specs.Linking.{link_plan, stands_for, stock_token}
use Rattle.words_shelf.specs.Words.{word_of, words_to}
use Rattle.words_shelf.specs.declared.WordAt.{WordAt}

-- a text that reads as a plan
pub record Readable (text : List ℕ) : Type 0 where
  pub short : length text ≤ text_limit
  pub shows : Shows token_limit 0 text (pieces (plan_of token_limit text))

-- which of the words of the ranks below n has the token with the text t
unfoldable pub seek : (list : List ℕ) → (words : List WordAt) → (n : ℕ) → (t : List ℕ) → Option ℕ
seek list words zero t = None
seek list words (suc n) t = let earlier = seek list words n t in cond (same t (stock_token (word_of list words n))) (Some n) earlier

abbrev pub seek_piece : {L : Type 0} → (list : List ℕ) → (words : List WordAt) → (n : ℕ) → Piece L → Option ℕ
seek_piece list words n (OP l o) = None
seek_piece list words n (TOKEN l t) = seek list words n t
seek_piece list words n (BEGIN l) = None
seek_piece list words n END = None

-- a token of the code is one of the text's; and so is a piece of the code
abbrev pub TokenStands : (text : List ℕ) → Token → Type 0
TokenStands text k = (t : List ℕ) × TokenAt text k.at.0 k.len t

abbrev pub PieceStands : (text : List ℕ) → CodePiece → Type 0
PieceStands text k = (x : Piece ℕ) × Is text k x

-- what a token stands for by the words of the ranks below n; a text's plan linked by them; and the linked plan of a word, which the
-- words before it settle
abbrev pub stands_to : (list : List ℕ) → (words : List WordAt) → (n : ℕ) → List ℕ → Option (Plan ℕ)
stands_to list words n = stands_for token_limit (words_to list words n)

unfoldable pub linked_text : (list : List ℕ) → (words : List WordAt) → (n : ℕ) → (text : List ℕ) → Plan ℕ
linked_text list words n text = link_plan (stands_to list words n) (plan_of token_limit text)

unfoldable pub linked_word : (list : List ℕ) → (words : List WordAt) → (rank : ℕ) → Plan ℕ
linked_word list words rank = linked_text list words rank (word_of list words rank).text
