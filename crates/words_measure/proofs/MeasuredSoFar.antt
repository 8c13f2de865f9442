-- A turn of the walk that measures a text: what was put so far is measured, and all that is remembered is right.
use Prim.Native.Nat.{ℕ, ◌<◌}
use mathlib.Core.Path.{◌≡◌, refl, ap, ap₂, sym, ◌∙◌}
use mathlib.Core.List.{List, [], ◌∷◌, ◌++◌}
use lib.ListN.{length, set}
use Rattle.std.specs.Prelude.{Option, Some, None}
use Rattle.plan.specs.Pieces.{Piece, pieces}
use Rattle.plan.specs.declared.Size.{Size}
use Rattle.pieces.specs.Written.{Is}
use Rattle.pieces.specs.declared.Piece.{Piece as CodePiece}
use Rattle.items.specs.Walk.{Passed}
use Rattle.words_meaning.specs.Places.{gives_way_to}
use Rattle.words_shelf.specs.Shelf.{Readable, linked_text, linked_word, seek_piece, stands_to}
use Rattle.words_shelf.specs.declared.WordAt.{WordAt}
use Rattle.words_shelf.proofs.Noting.{noted-right}
use Rattle.words_shelf.proofs.StandsFor.{LinkedSoFar, linked_first, linked_on, piece-listed, piece_unlisted}
use Rattle.words_measure.specs.Sizes.{SizesKnown, plus, size, size_of}
use Rattle.words_measure.proofs.Measuring.{size_append, size_nothing, size-pieces}

pub record MeasuredSoFar (list : List ℕ) (words : List WordAt) (text : List ℕ) (n : ℕ) (sizes : List (Option Size)) (sum : Size) (at : ℕ) : Type 0 where
  pub gone : List (Piece ℕ)
  pub so_far : LinkedSoFar list words text n at gone
  pub right : sum ≡ size_of gone
  pub known : SizesKnown list words sizes

pub measured_first : (list : List ℕ) (words : List WordAt) {text : List ℕ} (n : ℕ) {sizes : List (Option Size)} → Readable text → SizesKnown list words sizes
    → MeasuredSoFar list words text n sizes (record { cells = 0; length = 0 }) 0
measured_first list words n reads known =
    record { gone = []; so_far = linked_first list words n reads; right = sym size_nothing; known = known }

module _ {list : List ℕ} {words : List WordAt} {text : List ℕ} {n : ℕ} {sizes : List (Option Size)} {sum : Size} {at : ℕ}
    (inv : MeasuredSoFar list words text n sizes sum at) where
  pub measured_last : pieces (linked_text list words n text) ≡ inv.gone → sum ≡ size (linked_text list words n text)
  measured_last over = inv.right ∙ ap size_of (sym over) ∙ sym (size-pieces (linked_text list words n text))

  -- what is put for the next piece
  module _ {k : CodePiece} {place rest : ℕ} (passed : Passed text at k place rest inv.so_far.ahead.come) {found : Option ℕ}
      (told : (x : Piece ℕ) → Is text k x → found ≡ seek_piece list words n x) where
    on : {w sum' : Size} {sizes' : List (Option Size)} → w ≡ size_of (gives_way_to (stands_to list words n) passed.first) → sum' ≡ plus sum w
        → SizesKnown list words sizes' → MeasuredSoFar list words text n sizes' sum' rest
    on is e known =
        let here = gives_way_to (stands_to list words n) passed.first in
        record {
          gone = inv.gone ++ here;
          so_far = linked_on inv.so_far k place rest passed refl;
          right = e ∙ ap₂ plus inv.right is ∙ sym (size_append inv.gone here);
          known = known;
        }

    -- the piece itself
    pub measured_itself : found ≡ None → {w sum' : Size} {sizes' : List (Option Size)} → ((t : List ℕ) (x : Piece ℕ) → Is t k x → w ≡ size_of (x ∷ []))
        → SizesKnown list words sizes' → sum' ≡ plus sum w → MeasuredSoFar list words text n sizes' sum' rest
    measured_itself h own known e =
        let stays = piece_unlisted list words n passed.first (sym (told passed.first passed.is) ∙ h) in
        on (own text passed.first passed.is ∙ ap size_of (sym stays)) e known

    -- or a word, whose rank is smaller
    module _ {r : ℕ} (h : found ≡ Some r) where
      listed : (r < n) × (gives_way_to (stands_to list words n) passed.first ≡ pieces (linked_word list words r))
      listed = piece-listed list words n passed.first (sym (told passed.first passed.is) ∙ h)

      pub measured_lower : r < n
      measured_lower = listed.0

      pub measured_word : {w sum' : Size} {sizes' : List (Option Size)} → w ≡ size (linked_word list words r) → SizesKnown list words sizes' → sum' ≡ plus sum w
          → MeasuredSoFar list words text n sizes' sum' rest
      measured_word is known e = on (is ∙ size-pieces (linked_word list words r) ∙ ap size_of (sym listed.1)) e known

-- a word that was measured is remembered
pub word-noted : (list : List ℕ) (words : List WordAt) (sizes : List (Option Size)) (rank : ℕ) {w : Size} → rank < length sizes
    → w ≡ size (linked_word list words rank) → SizesKnown list words sizes → SizesKnown list words (set sizes rank (Some w))
word-noted list words sizes rank room is known = noted-right (λ k s. size (linked_word list words k) ≡ s) sizes rank room known (sym is)
