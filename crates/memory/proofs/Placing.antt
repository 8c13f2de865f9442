-- Building from the pieces of a plan, on plain values, for reading and for copying: what is built and what is still to come are the
-- plan's pieces, labels aside. So each piece finds a free cell, each close an open block, and what is built at the end is the plan.
use Prim.Native.Nat.{ℕ, ◌+◌, ◌≤◌, ◌<◌}
use mathlib.Core.Path.{◌≡◌, refl, ap, sym, ◌∙◌}
use mathlib.Core.List.{List, [], ◌∷◌, ◌++◌, append_assoc, append-nil}
use native.Mathlib.Omega.{arith}
use lib.ListN.{length, length-append}
use Rattle.plan.specs.Plan.{Plan, end, operator, token, block, ◌then◌, cells, bare}
use Rattle.plan.specs.Reading.{Around, outermost, inside}
use Rattle.plan.specs.Pieces.{Piece, OP, TOKEN, BEGIN, END, pieces, piece_labels, relabelled, bares, so_far, seen, Closes}
use Rattle.plan.proofs.Pieces.{cells-pieces, closes_pieces, length-relabelled, pieces_injective, pieces-relabel, relabelled_append, seen-pieces, so_far-close, so_far-then, piece_labels_append}
use Rattle.plan.proofs.Plans.{cells-relabel}
use Rattle.plan.proofs.Reached.{depth}
use Rattle.pieces.specs.Written.{Is, is_operator, is_token, is_open, is_close}
use Rattle.pieces.specs.declared.Piece.{Piece as CodePiece}
use Rattle.memory.specs.Model.{Built, FindsCell, Model, with_piece}
use Rattle.memory.proofs.Beside.{Kept, block_kept, item-kept, link-kept, token_kept}
use Rattle.memory.proofs.Building.{close_block, has_room, open_block, put_operator, put_token}
use Rattle.memory.proofs.Steps.{opened-lent}

-- these pieces are those of the plan p
abbrev All : (gone come : List (Piece ℕ)) → Plan ℕ → Type 0
All gone come p = bares gone ++ bares come ≡ pieces (bare p)

pub record Placed (text : List ℕ) (n root : ℕ) (others : List ℕ) (p : Plan ℕ) (s : Model) (come : List (Piece ℕ)) : Type 0 where
  pub out : Around
  pub here : Plan ℕ
  pub built : Built text n s root others out here
  pub shuts : Closes (depth out) come
  pub all : All (so_far out here) come p

-- one piece more is built, whatever its label
further : (gone come : List (Piece ℕ)) (p : Plan ℕ) {more : List (Piece ℕ)} (x y : Piece ℕ) → more ≡ gone ++ y ∷ [] → bares (y ∷ []) ≡ bares (x ∷ []) → All gone (x ∷ come) p → All more come p
further gone come p x y grown alike all =
    ap (λ ps. bares ps ++ bares come) grown ∙ ap (◌++ bares come) (relabelled_append _ gone (y ∷ [])) ∙ append_assoc (bares gone) (bares (y ∷ [])) (bares come)
    ∙ ap (λ q. bares gone ++ (q ++ bares come)) alike ∙ ap (bares gone ++◌) (sym (relabelled_append _ (x ∷ []) come)) ∙ all

counted : (gone come : List (Piece ℕ)) (p : Plan ℕ) → All gone come p → length (piece_labels gone) + length (piece_labels come) ≡ cells p
counted gone come p all =
    omega (
      arith,
      ap (λ ps. length (piece_labels ps)) all,
      ap length (piece_labels_append (bares gone) (bares come)),
      length-append (piece_labels (bares gone)) (piece_labels (bares come)),
      length-relabelled (λ l. tt {0}) gone,
      length-relabelled (λ l. tt {0}) come,
      cells-pieces (bare p),
      cells-relabel (λ l. tt {0}) p,
    )

-- one piece is put, and what is in use elsewhere stays as it was
pub record Put (text : List ℕ) (n root : ℕ) (others : List ℕ) (p : Plan ℕ) (s : Model) (k : CodePiece) (come : List (Piece ℕ)) : Type 0 where
  pub finds : FindsCell s.free s.opened n k
  pub placed : Placed text n root others p (with_piece s k) come
  pub kept : Kept n root others s.numbers (with_piece s k).numbers

module _ {text : List ℕ} {n root : ℕ} {others : List ℕ} (p : Plan ℕ) {s : Model} where
  -- a piece that begins an item finds a free cell
  room : (out : Around) (here : Plan ℕ) (come : List (Piece ℕ)) → Built text n s root others out here → All (so_far out here) come p
      → length others + cells p ≤ n → 0 < length (piece_labels come) → s.free < n
  room out here come b all fits begins =
      has_room b (omega (arith, counted (so_far out here) come p all, ap length (seen-pieces out here), length-append others (seen out here)))

  place-piece : {k : CodePiece} {x : Piece ℕ} (come : List (Piece ℕ)) → length others + cells p ≤ n → Is text k x → (out : Around) (here : Plan ℕ)
      → Built text n s root others out here → Closes (depth out) (x ∷ come) → All (so_far out here) (x ∷ come) p → Put text n root others p s k come
  unfolding so_far pieces piece_labels relabelled
  place-piece come fits (is_operator {l} {o}) out here b shuts all =
      let free = room out here (OP l o ∷ come) b all fits (omega arith) in
      let more = further (so_far out here) come p (OP l o) (OP s.free o) (so_far-then out here (operator s.free o end)) refl all in
      record { finds = free; placed = record { out = out; here = here then operator s.free o end; built = put_operator b free o; shuts = shuts; all = more }; kept = item-kept b free _ }
  place-piece come fits (is_token {l} {k} {t} there) out here b shuts all =
      let free = room out here (TOKEN l t ∷ come) b all fits (omega arith) in
      let more = further (so_far out here) come p (TOKEN l t) (TOKEN s.free t) (so_far-then out here (token s.free t end)) refl all in
      let built = put_token b free k.at.0 k.len t there in
      record { finds = free; placed = record { out = out; here = here then token s.free t end; built = built; shuts = shuts; all = more }; kept = token_kept b free _ _ }
  place-piece come fits (is_open {l}) out here b shuts all =
      let free = room out here (BEGIN l ∷ come) b all fits (omega arith) in
      let more = further (so_far out here) come p (BEGIN l) (BEGIN s.free) refl refl all in
      record { finds = free; placed = record { out = inside s.free here out; here = end; built = open_block b free; shuts = shuts; all = more }; kept = block_kept b free }
  place-piece come fits is_close outermost here b shuts all = absurd shuts
  place-piece come fits is_close (inside l before out) here b shuts all =
      let more = further (so_far (inside l before out) here) come p END END (so_far-close l before out here) refl all in
      record { finds = opened-lent b; placed = record { out = out; here = before then block l here end; built = close_block b; shuts = shuts; all = more }; kept = link-kept b s.numbers _ }

  pub place : {k : CodePiece} {x : Piece ℕ} {come : List (Piece ℕ)} → length others + cells p ≤ n → Is text k x → Placed text n root others p s (x ∷ come)
      → Put text n root others p s k come
  place {come = come} fits is g = place-piece come fits is g.out g.here g.built g.shuts g.all

  -- nothing is left to come
  ends : (out : Around) (here : Plan ℕ) → Built text n s root others out here → Closes {L = ℕ} (depth out) [] → All (so_far out here) [] p
      → (t : Plan ℕ) × (bare t ≡ bare p) × Built text n s root others outermost t
  unfolding so_far relabelled
  ends outermost here b shuts all =
      let same : pieces (bare here) ≡ pieces (bare p) = pieces-relabel (λ l. tt {0}) here ∙ sym (append-nil (bares (pieces here))) ∙ all in
      (here, pieces_injective (bare here) (bare p) same, b)
  ends (inside l before out) here b shuts all = absurd shuts

  pub place_end : Placed text n root others p s [] → (t : Plan ℕ) × (bare t ≡ bare p) × Built text n s root others outermost t
  place_end g = ends g.out g.here g.built g.shuts g.all

-- nothing is built yet
pub place-first : {text : List ℕ} {n root : ℕ} {others : List ℕ} (p : Plan ℕ) {s : Model} → Built text n s root others outermost end
    → Placed text n root others p s (pieces p)
unfolding so_far pieces relabelled
place-first p b = record { out = outermost; here = end; built = b; shuts = closes_pieces p; all = sym (pieces-relabel (λ l. tt {0}) p) }
