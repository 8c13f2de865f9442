-- Linking, seen in a plan's pieces: each token that stands for a plan gives way to that plan's pieces, and every other piece stays
-- where it is.
use Prim.Native.Nat.{ℕ}
use mathlib.Core.Path.{◌≡◌, refl, ap, ◌∙◌}
use Rattle.std.specs.Prelude.{Option, None, Some}
use mathlib.Core.List.{List, [], ◌∷◌, ◌++◌, append_assoc}
use Rattle.plan.specs.Plan.{Plan, end, operator, token, block}
use Rattle.plan.specs.Pieces.{Piece, OP, TOKEN, END, pieces}
use Rattle.plan.proofs.Pieces.{pieces_then}
use Rattle.words_meaning.specs.Linking.{in_place, link_plan}
use Rattle.words_meaning.specs.Places.{linked_pieces, put_for, gives_way_to}

module _ {L : Type 0} (stands : List ℕ → Option (Plan L)) where
  -- a part of a row is linked by itself
  linked_append : (xs ys : List (Piece L)) → linked_pieces stands (xs ++ ys) ≡ linked_pieces stands xs ++ linked_pieces stands ys
  unfolding linked_pieces
  linked_append [] ys = refl
  linked_append (x ∷ xs) ys = rw (linked_append xs ys, append_assoc)

  -- the pieces of what is put in a token's place, before more items
  pieces-in_place : (s : Option (Plan L)) (l : L) (t : List ℕ) (p : Plan L) → pieces (in_place s l t p) ≡ put_for s (TOKEN l t) ++ pieces p
  unfolding in_place put_for pieces
  pieces-in_place None l t p = refl
  pieces-in_place (Some q) l t p = pieces_then q p

  -- the pieces of a linked plan are its own pieces in order, each listed token's place taken by the pieces of what it stands for
  pub pieces-link : (p : Plan L) → pieces (link_plan stands p) ≡ linked_pieces stands (pieces p)
  unfolding link_plan pieces linked_pieces gives_way_to
  pieces-link end = refl
  pieces-link (operator l o p) = ap (OP l o ∷◌) (pieces-link p)
  pieces-link (token l t p) = pieces-in_place (stands t) l t (link_plan stands p) ∙ ap (put_for (stands t) (TOKEN l t) ++◌) (pieces-link p)
  pieces-link (block l b p) = rw (linked_append (pieces b) (END ∷ pieces p), pieces-link b, pieces-link p)
