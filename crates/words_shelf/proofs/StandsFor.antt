-- What is found for a token, or for a piece, is what it stands for by the words below the rank. Then a walk that links a text, piece by
-- piece: what was put so far and what is to come are together the linked plan's pieces.
use Prim.Native.Nat.{ℕ, zero, suc, ◌<◌}
use mathlib.Core.Path.{◌≡◌, refl, ap, sym, ◌∙◌}
use mathlib.Core.Bool.{Bool, true, false, cond}
use mathlib.Core.List.{List, [], ◌∷◌, ◌++◌, append_assoc, append-nil}
use native.Mathlib.Omega.{arith}
use Rattle.std.specs.Prelude.{Some, None}
use Rattle.plan.specs.Pieces.{Piece, OP, TOKEN, BEGIN, END, pieces}
use Rattle.kinds.proofs.Tests.{never}
use Rattle.pieces.specs.declared.Piece.{Piece as CodePiece}
use Rattle.items.specs.Walk.{Passed, ShowsAhead}
use Rattle.items.proofs.Walking.{passed_ahead}
use Rattle.stored.specs.Same.{same}
use Rattle.words_meaning.specs.Linking.{stands_for, stock_token}
use Rattle.words_meaning.specs.Places.{linked_pieces, put_for, gives_way_to}
use Rattle.words_meaning.proofs.Flat.{pieces-link}
use Rattle.words_shelf.specs.Shelf.{PieceStands, Readable, linked_text, linked_word, seek, seek_piece, stands_to}
use Rattle.words_shelf.specs.Words.{Shelved, word_at, word_in, word_of, words_to}
use Rattle.words_shelf.specs.declared.WordAt.{WordAt}
use Rattle.words_shelf.proofs.Reading.{plan_readable}

module _ (list : List ℕ) (words : List WordAt) where
  pub seek_unlisted : (n : ℕ) (t : List ℕ) → seek list words n t ≡ None → stands_to list words n t ≡ None
  unfolding seek words_to stands_for linked_word linked_text
  seek_unlisted zero t e = refl
  seek_unlisted (suc n) t e = go (same t (stock_token (word_of list words n))) refl e (seek_unlisted n t)
    where
      go : (b : Bool) → same t (stock_token (word_of list words n)) ≡ b → cond b (Some n) (seek list words n t) ≡ None
          → (seek list words n t ≡ None → stands_to list words n t ≡ None)
          → cond b (Some (linked_word list words n)) (stands_to list words n t) ≡ None
      go true h g more = never cc
      go false h g more = more g

  seek-listed : (n : ℕ) (t : List ℕ) {r : ℕ} → seek list words n t ≡ Some r → (r < n) × (stands_to list words n t ≡ Some (linked_word list words r))
  unfolding seek words_to stands_for linked_word linked_text
  seek-listed zero t e = never cc
  seek-listed (suc n) t {r} e = go (same t (stock_token (word_of list words n))) e (seek-listed n t)
    where
      go : (b : Bool) → cond b (Some n) (seek list words n t) ≡ Some r
          → (seek list words n t ≡ Some r → (r < n) × (stands_to list words n t ≡ Some (linked_word list words r)))
          → (r < suc n) × (cond b (Some (linked_word list words n)) (stands_to list words n t) ≡ Some (linked_word list words r))
      go true g more = let here : n ≡ r = cc in (omega arith, ap (λ k. Some (linked_word list words k)) here)
      go false g more = let (below, is) = more g in (omega arith, is)

  -- the same of a piece
  pub piece_unlisted : (n : ℕ) (x : Piece ℕ) → seek_piece list words n x ≡ None → gives_way_to (stands_to list words n) x ≡ x ∷ []
  unfolding gives_way_to put_for
  piece_unlisted n (OP l o) e = refl
  piece_unlisted n (TOKEN l t) e = rw (seek_unlisted n t e)
  piece_unlisted n (BEGIN l) e = refl
  piece_unlisted n END e = refl

  pub piece-listed : (n : ℕ) (x : Piece ℕ) {r : ℕ} → seek_piece list words n x ≡ Some r
      → (r < n) × (gives_way_to (stands_to list words n) x ≡ pieces (linked_word list words r))
  unfolding gives_way_to put_for
  piece-listed n (OP l o) e = never cc
  piece-listed n (TOKEN l t) e = let (below, is) = seek-listed n t e in (below, rw is refl)
  piece-listed n (BEGIN l) e = never cc
  piece-listed n END e = never cc

-- the text of a word that is kept reads
pub word_reads : (list : List ℕ) (words : List WordAt) {n : ℕ} → Shelved list words n → (r : ℕ) → r < n → Readable (word_of list words r).text
unfolding word_of
word_reads list words s r below = plan_readable (word_in list (word_at words r)).text (s r below).2

-- its linked plan is that of its text, linked by the words before it, as a shelf has them
pub word_linked : {list : List ℕ} {words : List WordAt} {rank : ℕ} {list' : List ℕ} {words' : List WordAt} {n : ℕ} {text : List ℕ}
    → list' ≡ list → words' ≡ words → n ≡ rank → text ≡ (word_of list words rank).text → linked_text list' words' n text ≡ linked_word list words rank
unfolding linked_word
word_linked a b c d = rw (a, b, c, d)

-- a piece that a walk gave is one of the text's
pub passed_stands : {text : List ℕ} {at place rest : ℕ} {k : CodePiece} {ps : List (Piece ℕ)} → Passed text at k place rest ps → PieceStands text k
passed_stands passed = (passed.first, passed.is)

-- a walk over the text
pub record LinkedSoFar (list : List ℕ) (words : List WordAt) (text : List ℕ) (n at : ℕ) (gone : List (Piece ℕ)) : Type 0 where
  pub ahead : ShowsAhead text at
  pub whole : pieces (linked_text list words n text) ≡ gone ++ linked_pieces (stands_to list words n) ahead.come

pub linked_first : (list : List ℕ) (words : List WordAt) {text : List ℕ} (n : ℕ) → Readable text → LinkedSoFar list words text n 0 []
unfolding linked_text
linked_first list words n r =
    record { ahead = record { short = r.short; come = _; shows = r.shows }; whole = pieces-link (stands_to list words n) _ }

module _ {list : List ℕ} {words : List WordAt} {text : List ℕ} {n at : ℕ} {gone : List (Piece ℕ)} (so_far : LinkedSoFar list words text n at gone) where
  -- no piece is to come
  pub linked_over : so_far.ahead.come ≡ [] → pieces (linked_text list words n text) ≡ gone
  unfolding linked_pieces
  linked_over over = so_far.whole ∙ ap (λ ps. gone ++ linked_pieces (stands_to list words n) ps) over ∙ append-nil gone

  -- the next piece
  module _ (k : CodePiece) (place rest : ℕ) (passed : Passed text at k place rest so_far.ahead.come) where
    pub linked_on : {here : List (Piece ℕ)} → gives_way_to (stands_to list words n) passed.first ≡ here → LinkedSoFar list words text n rest (gone ++ here)
    unfolding linked_pieces
    linked_on {here} e =
        record {
          ahead = passed_ahead so_far.ahead passed;
          whole =
              so_far.whole ∙ ap (λ ps. gone ++ linked_pieces (stands_to list words n) ps) passed.parts
              ∙ ap (λ ps. gone ++ (ps ++ linked_pieces (stands_to list words n) passed.later)) e
              ∙ sym (append_assoc gone here (linked_pieces (stands_to list words n) passed.later));
        }

    -- what is put here is a part of the whole
    pub linked_part : {here : List (Piece ℕ)} → gives_way_to (stands_to list words n) passed.first ≡ here
        → (later : List (Piece ℕ)) × (pieces (linked_text list words n text) ≡ (gone ++ here) ++ later)
    linked_part e = (_, (linked_on e).whole)
