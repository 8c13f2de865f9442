-- How the code measures a linked plan: by its cells and its printed bytes. Both counts stop growing past the limit, so that nothing
-- wraps. And what is remembered of the words.
use Rattle.std.specs.Prelude.{ℕ, ◌+◌, ◌*◌, min, ◌≡◌, List, length, get_or, Option, Some, None}
use Rattle.kinds.specs.Limits.{cell_limit, token_limit}
use Rattle.plan.specs.Plan.{Plan, cells, print}
use Rattle.plan.specs.Pieces.{Piece, in_a_row, piece_labels}
use Rattle.pieces.specs.declared.Piece.{Piece as CodePiece}
use Rattle.pieces.specs.declared.Piece.TheVariants.{Operator, Token, Open, Close}
use Rattle.plan.specs.declared.Size.{Size}
use Rattle.words_shelf.specs.Shelf.{linked_word}
use Rattle.words_shelf.specs.declared.WordAt.{WordAt}

-- one cell more than a plan may have, and one byte more than its printed text can have
abbrev pub past_cells : ℕ
past_cells = cell_limit + 1

abbrev pub past_bytes : ℕ
past_bytes = token_limit * cell_limit + 1

abbrev pub capped_size : (cells bytes : ℕ) → Size
capped_size cells bytes = record { cells = min cells past_cells; length = min bytes past_bytes }

unfoldable pub size : {L : Type 0} → Plan L → Size
size p = capped_size (cells p) (length (print p))

-- the same of pieces in a row
unfoldable pub size_of : {L : Type 0} → List (Piece L) → Size
size_of ps = capped_size (length (piece_labels ps)) (length (in_a_row ps))

unfoldable pub plus : Size → Size → Size
plus a b = capped_size (a.cells + b.cells) (a.length + b.length)

-- a piece of the code begins an item, except a `]`
abbrev pub piece_cells : CodePiece → ℕ
piece_cells (Operator o) = 1
piece_cells (Token k) = 1
piece_cells Open = 1
piece_cells Close = 0

-- what is remembered of a word is the size of its linked plan
abbrev pub SizesKnown : (list : List ℕ) → (words : List WordAt) → (sizes : List (Option Size)) → Type 0
SizesKnown list words sizes = (r : ℕ) (s : Size) → get_or sizes r None ≡ Some s → size (linked_word list words r) ≡ s
