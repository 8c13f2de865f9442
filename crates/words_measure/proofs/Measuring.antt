-- Sizes add up along pieces.
use Prim.Native.Nat.{ℕ, ◌+◌, ◌≤◌, min}
use mathlib.Core.Path.{◌≡◌, refl, ap, ap₂, sym, ◌∙◌}
use mathlib.Core.List.{List, [], ◌∷◌, ◌++◌, append-nil}
use native.Mathlib.Omega.{arith}
use lib.ListN.{length, length-append}
use Rattle.plan.specs.Plan.{Plan}
use Rattle.plan.specs.Pieces.{Piece, in_a_row, piece_print, pieces, piece_labels}
use Rattle.plan.proofs.Pieces.{cells-pieces, print-pieces, row_append, piece_labels_append}
use Rattle.pieces.specs.Written.{Is, is_close, is_open, is_operator, is_token, piece_length}
use Rattle.pieces.specs.declared.Piece.{Piece as CodePiece}
use Rattle.pieces.specs.declared.Piece.TheVariants.{Operator, Token, Open, Close}
use Rattle.pieces.proofs.Pieces.{is_in_text, is_printed, length-piece}
use Rattle.words_measure.specs.Sizes.{past_bytes, past_cells, piece_cells, plus, capped_size, size, size_of}

pub size-pieces : {L : Type 0} (p : Plan L) → size p ≡ size_of (pieces p)
unfolding size size_of
size-pieces p = ap₂ capped_size (cells-pieces p) (ap length (print-pieces p))

sum_capped : (a b most : ℕ) → min (a + b) most ≡ min (min a most + min b most) most
sum_capped a b most = omega arith

pub size_append : {L : Type 0} (xs ys : List (Piece L)) → size_of (xs ++ ys) ≡ plus (size_of xs) (size_of ys)
unfolding size_of plus
size_append xs ys =
    ap₂ (λ c l. record { cells = c; length = l })
    (ap (λ n. min n past_cells) (ap length (piece_labels_append xs ys) ∙ length-append (piece_labels xs) (piece_labels ys)) ∙ sum_capped (length (piece_labels xs)) (length (piece_labels ys)) past_cells)
    (ap (λ n. min n past_bytes) (ap length (row_append xs ys) ∙ length-append (in_a_row xs) (in_a_row ys)) ∙ sum_capped (length (in_a_row xs)) (length (in_a_row ys)) past_bytes)

pub size_nothing : size_of {L = ℕ} [] ≡ record { cells = 0; length = 0 }
unfolding size_of piece_labels in_a_row
size_nothing = refl

-- a piece that stays
cells_told : {text : List ℕ} {k : CodePiece} {x : Piece ℕ} → Is text k x → piece_cells k ≡ length (piece_labels (x ∷ []))
unfolding piece_labels
cells_told is_operator = refl
cells_told (is_token s) = refl
cells_told is_open = refl
cells_told is_close = refl

at_most_one : (k : CodePiece) → piece_cells k ≤ 1
at_most_one (Operator o) = omega arith
at_most_one (Token t) = omega arith
at_most_one Open = omega arith
at_most_one Close = omega arith

pub piece-size : {text : List ℕ} {k : CodePiece} {x : Piece ℕ} {c l : ℕ} → Is text k x → c ≡ piece_cells k → l ≡ min (piece_length k) past_bytes
    → record { cells = c; length = l } ≡ size_of (x ∷ [])
unfolding size_of in_a_row
piece-size {text} {k} {x} {c} {l} is e f =
    let count = cells_told is in
    let small : piece_cells k ≤ 1 = at_most_one k in
    let bytes : length (in_a_row (x ∷ [])) ≡ piece_length k =
    ap length (append-nil (piece_print x)) ∙ ap length (sym (is_printed is)) ∙ length-piece text k (is_in_text is) in
    ap₂ (λ a b. record { cells = a; length = b })
    (let z : c ≡ min (length (piece_labels (x ∷ []))) past_cells = omega arith in z)
    (let z : l ≡ min (length (in_a_row (x ∷ []))) past_bytes = f ∙ ap (λ n. min n past_bytes) (sym bytes) in z)
