-- A turn of the walk that writes a linked text: what was put so far stands in the output, and what is remembered of the words stands there too.
use Prim.Native.Nat.{ℕ, ◌+◌, ◌≤◌, ◌<◌}
use mathlib.Core.Path.{◌≡◌, ap, ap₂, sym, ◌∙◌}
use mathlib.Core.List.{List, [], ◌∷◌, ◌++◌, append-nil}
use native.Mathlib.Omega.{arith}
use native.Mathlib.Nat.{add-zero}
use lib.ListN.{get_or, length, length-append}
use Rattle.std.specs.Prelude.{Option, Some, None}
use Rattle.plan.specs.Plan.{print}
use Rattle.plan.specs.Pieces.{Piece, in_a_row, piece_print, pieces}
use Rattle.plan.specs.declared.Size.{Size}
use Rattle.plan.proofs.Pieces.{print-pieces, row_append}
use Rattle.kinds.specs.Written.{put_at}
use Rattle.pieces.specs.Written.{InText, Is, piece_bytes, piece_length}
use Rattle.pieces.specs.declared.Piece.{Piece as CodePiece}
use Rattle.pieces.proofs.Pieces.{is_in_text, is_printed, length-piece}
use Rattle.kinds.proofs.Putting.{put_long, put_nothing, put_on}
use Rattle.items.specs.Walk.{Passed}
use Rattle.stored.specs.declared.Span.{Span}
use Rattle.words_meaning.specs.Places.{gives_way_to}
use Rattle.words_shelf.specs.Shelf.{linked_text, linked_word, seek_piece, stands_to}
use Rattle.words_shelf.specs.declared.WordAt.{WordAt}
use Rattle.words_shelf.proofs.StandsFor.{LinkedSoFar, linked_first, linked_on, linked_part, piece-listed, piece_unlisted}
use Rattle.words_measure.specs.Sizes.{SizesKnown}
use Rattle.words_write.specs.Writing.{WordsPlaced, Writable, WritableLong, WritableWord, WritableWordLong}
use Rattle.words_write.proofs.WrittenBefore.{stands_on}

pub record WrittenSoFar (list : List ℕ) (words : List WordAt) (text : List ℕ) (n : ℕ) (sizes : List (Option Size)) (out₀ : List ℕ) (put : ℕ)
    (places : List (Option Span)) (out : List ℕ) (end at : ℕ) : Type 0 where
  pub gone : List (Piece ℕ)
  pub so_far : LinkedSoFar list words text n at gone
  pub end_is : end ≡ put + length (in_a_row gone)
  pub holds : out ≡ put_at out₀ put (in_a_row gone)
  pub known : SizesKnown list words sizes
  pub placed : WordsPlaced list words places out end
  pub room : put + length (print (linked_text list words n text)) ≤ length out₀

pub written_first : {list : List ℕ} {words : List WordAt} {n : ℕ} {text : List ℕ} {sizes : List (Option Size)} {places : List (Option Span)} {out : List ℕ} {put : ℕ}
    → Writable list words n text sizes places out put → WrittenSoFar list words text n sizes out put places out put 0
unfolding in_a_row
written_first {list} {words} {n} {out = out} {put = put} w =
    record {
      gone = [];
      so_far = linked_first list words n w.reads;
      end_is = sym (add-zero put);
      holds = sym (put_nothing out put);
      known = w.known;
      placed = w.placed;
      room = w.room;
    }

module _ {list : List ℕ} {words : List WordAt} {text : List ℕ} {n : ℕ} {sizes : List (Option Size)} {out₀ : List ℕ} {put : ℕ} {places : List (Option Span)}
    {out : List ℕ} {end at : ℕ} (inv : WrittenSoFar list words text n sizes out₀ put places out end at) where
  module _ (over : pieces (linked_text list words n text) ≡ inv.gone) where
    all : print (linked_text list words n text) ≡ in_a_row inv.gone
    all = print-pieces (linked_text list words n text) ∙ ap in_a_row over

    pub written_behind : end ≡ put + length (print (linked_text list words n text))
    written_behind = inv.end_is ∙ ap (λ l. put + length l) (sym all)

    pub written_all : out ≡ put_at out₀ put (print (linked_text list words n text))
    written_all = inv.holds ∙ ap (put_at out₀ put) (sym all)

  -- what was put, and more, is within the whole
  size_of : (more : List (Piece ℕ)) → pieces (linked_text list words n text) ≡ inv.gone ++ more
      → length (print (linked_text list words n text)) ≡ length (in_a_row inv.gone) + length (in_a_row more)
  size_of more e =
      ap length (print-pieces (linked_text list words n text) ∙ ap in_a_row e ∙ row_append inv.gone more) ∙ length-append (in_a_row inv.gone) (in_a_row more)

  put_so_far : put + length (in_a_row inv.gone) ≤ length out₀
  put_so_far = omega (arith, inv.room, size_of _ inv.so_far.whole)

  long : length out ≡ length out₀
  long = ap length inv.holds ∙ put_long out₀ put (in_a_row inv.gone) put_so_far

  end_within : end ≤ length out
  end_within = omega (arith, inv.end_is, long, put_so_far)

  -- what is put for the next piece
  module _ {k : CodePiece} {place rest : ℕ} (passed : Passed text at k place rest inv.so_far.ahead.come) {found : Option ℕ}
      (told : (x : Piece ℕ) → Is text k x → found ≡ seek_piece list words n x) where
    module _ {here : List (Piece ℕ)} (is : gives_way_to (stands_to list words n) passed.first ≡ here) where
      -- there is room for it
      roomy : end + length (in_a_row here) ≤ length out
      roomy =
          let (later, whole) = linked_part inv.so_far k place rest passed is in
          let size = ap length (print-pieces (linked_text list words n text) ∙ ap in_a_row whole ∙ row_append (inv.gone ++ here) later
          ∙ ap (◌++ in_a_row later) (row_append inv.gone here)) in
          let bytes = length-append (in_a_row inv.gone ++ in_a_row here) (in_a_row later) in
          let both = length-append (in_a_row inv.gone) (in_a_row here) in
          omega (arith, inv.room, inv.end_is, long, size, bytes, both)

      on : (bytes : List ℕ) {places' : List (Option Span)} {out' : List ℕ} {end' : ℕ} → bytes ≡ in_a_row here → end' ≡ end + length bytes → out' ≡ put_at out end bytes
          → WordsPlaced list words places' out' end' → WrittenSoFar list words text n sizes out₀ put places' out' end' rest
      on bytes b f e placed =
          let row = row_append inv.gone here in
          record {
            gone = inv.gone ++ here;
            so_far = linked_on inv.so_far k place rest passed is;
            end_is = omega (arith, f, inv.end_is, ap length b, ap length row, length-append (in_a_row inv.gone) (in_a_row here));
            holds =
                e ∙ ap₂ (λ l m. put_at l m bytes) inv.holds inv.end_is ∙ put_on out₀ put (in_a_row inv.gone) put_so_far bytes
                ∙ ap (put_at out₀ put) (ap (in_a_row inv.gone ++◌) b ∙ sym row);
            known = inv.known;
            placed = placed;
            room = inv.room;
          }

    -- the piece itself
    module _ (h : found ≡ None) where
      stays : gives_way_to (stands_to list words n) passed.first ≡ passed.first ∷ []
      stays = piece_unlisted list words n passed.first (sym (told passed.first passed.is) ∙ h)

      bytes_are : piece_bytes text k ≡ in_a_row (passed.first ∷ [])
      unfolding in_a_row
      bytes_are = is_printed passed.is ∙ sym (append-nil (piece_print passed.first))

      size : length (piece_bytes text k) ≡ piece_length k
      size = length-piece text k (is_in_text passed.is)

      pub itself_fits : InText text k × (end + piece_length k ≤ length out)
      itself_fits = (is_in_text passed.is, omega (arith, roomy stays, ap length bytes_are, size))

      pub written_itself : {places' : List (Option Span)} {out' : List ℕ} {end' : ℕ} → places' ≡ places → end' ≡ end + piece_length k
          → out' ≡ put_at out end (piece_bytes text k) → WrittenSoFar list words text n sizes out₀ put places' out' end' rest
      written_itself {places'} {out'} {end'} p l e =
          let bytes = piece_bytes text k in
          let fits = put_long out end bytes (omega (arith, roomy stays, ap length bytes_are)) in
          let same : end + length bytes ≡ end' = omega (arith, size) in
          on stays bytes bytes_are (sym same) e
          (λ r s noted.
          let before = inv.placed r s (ap (λ z. get_or z r None) (sym p) ∙ noted) in
          rw (e, sym same) (stands_on out end end_within bytes s _ fits before))

    -- or a word, whose rank is smaller
    module _ {r : ℕ} (h : found ≡ Some r) where
      listed : (r < n) × (gives_way_to (stands_to list words n) passed.first ≡ pieces (linked_word list words r))
      listed = piece-listed list words n passed.first (sym (told passed.first passed.is) ∙ h)

      printed : print (linked_word list words r) ≡ in_a_row (pieces (linked_word list words r))
      printed = print-pieces (linked_word list words r)

      pub word_writable : WritableWord list words n r sizes places out end
      word_writable = record { below = listed.0; known = inv.known; placed = inv.placed; room = omega (arith, roomy listed.1, ap length printed) }

      pub written_word : {places' : List (Option Span)} {out' : List ℕ} {end' : ℕ} → end' ≡ end + length (print (linked_word list words r))
          → out' ≡ put_at out end (print (linked_word list words r)) → WordsPlaced list words places' out' end'
          → WrittenSoFar list words text n sizes out₀ put places' out' end' rest
      written_word f e placed = on listed.1 (print (linked_word list words r)) printed f e placed

-- .. and what is remembered has a place for each of the words
pub record WrittenSoFarLong (list : List ℕ) (words : List WordAt) (text : List ℕ) (n : ℕ) (sizes : List (Option Size)) (out₀ : List ℕ) (put : ℕ)
    (places : List (Option Span)) (out : List ℕ) (end at : ℕ) : Type 0 where
  pub written : WrittenSoFar list words text n sizes out₀ put places out end at
  pub sizes_long : n ≤ length sizes
  pub places_long : n ≤ length places

pub written_first_long : {list : List ℕ} {words : List WordAt} {n : ℕ} {text : List ℕ} {sizes : List (Option Size)} {places : List (Option Span)} {out : List ℕ} {put : ℕ}
    → WritableLong list words n text sizes places out put → WrittenSoFarLong list words text n sizes out put places out put 0
written_first_long w = record { written = written_first w.writable; sizes_long = w.sizes_long; places_long = w.places_long }

module _ {list : List ℕ} {words : List WordAt} {text : List ℕ} {n : ℕ} {sizes : List (Option Size)} {out₀ : List ℕ} {put : ℕ} {places : List (Option Span)}
    {out : List ℕ} {end at : ℕ} (inv : WrittenSoFarLong list words text n sizes out₀ put places out end at) {k : CodePiece} {place rest : ℕ}
    (passed : Passed text at k place rest inv.written.so_far.ahead.come) {found : Option ℕ}
    (told : (x : Piece ℕ) → Is text k x → found ≡ seek_piece list words n x) where
  on_long : {places' : List (Option Span)} {out' : List ℕ} {end' : ℕ} → WrittenSoFar list words text n sizes out₀ put places' out' end' rest
      → length places' ≡ length places → WrittenSoFarLong list words text n sizes out₀ put places' out' end' rest
  on_long written as_long = record { written = written; sizes_long = inv.sizes_long; places_long = omega (arith, as_long, inv.places_long) }

  pub written_itself_long : found ≡ None → {places' : List (Option Span)} {out' : List ℕ} {end' : ℕ} → places' ≡ places → end' ≡ end + piece_length k
      → out' ≡ put_at out end (piece_bytes text k) → WrittenSoFarLong list words text n sizes out₀ put places' out' end' rest
  written_itself_long h p l e = on_long (written_itself inv.written passed told h p l e) (ap length p)

  module _ {r : ℕ} (h : found ≡ Some r) where
    pub word_writable_long : WritableWordLong list words n r sizes places out end
    word_writable_long = record { writable = word_writable inv.written passed told h; sizes_long = inv.sizes_long; places_long = inv.places_long }

    pub written_word_long : {places' : List (Option Span)} {out' : List ℕ} {end' : ℕ} → end' ≡ end + length (print (linked_word list words r))
        → out' ≡ put_at out end (print (linked_word list words r)) → WordsPlaced list words places' out' end' → length places' ≡ length places
        → WrittenSoFarLong list words text n sizes out₀ put places' out' end' rest
    written_word_long f e placed as_long = on_long (written_word inv.written passed told h f e placed) as_long
