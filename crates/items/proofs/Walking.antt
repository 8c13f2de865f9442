-- What every loop over a text's pieces needs of the walk, said once: what an invariant keeps of it, the piece that the walk gave, with the
-- pieces that come behind it, and that none come where it is over.
use Prim.Native.Nat.{ℕ}
use mathlib.Core.Path.{◌≡◌, ◌∙◌}
use mathlib.Core.List.{List, []}
use lib.ListN.{drop}
use Rattle.kinds.specs.Limits.{token_limit}
use Rattle.plan.specs.Pieces.{Piece as PlanPiece, Shows}
use Rattle.pieces.specs.declared.Piece.{Piece as CodePiece}
use Rattle.items.specs.Walk.{Passed, ShowsAhead}
use Rattle.items.specs.declared.Walk.{Walk}

-- behind a piece come the later ones
abbrev pub passed_ahead : {text : List ℕ} {at : ℕ} {k : CodePiece} {place rest : ℕ} {ps : List (PlanPiece ℕ)} → ShowsAhead text at
    → Passed text at k place rest ps → ShowsAhead text rest
passed_ahead ahead passed = record { short = ahead.short; come = passed.later; shows = passed.shows }

-- what a loop over the walk keeps of it: the walk w can go on, it goes over the text, and what the loop keeps itself
pub record OnWalk (text : List ℕ) (w : Walk) (Kept : Type 0) : Type 0 where
  pub can_next : ShowsAhead w.text.now w.at
  pub same : w.text.now ≡ text
  pub kept : Kept

pub on_walk : {text : List ℕ} (w : Walk) {Kept : Type 0} → w.text.now ≡ text → ShowsAhead text w.at → Kept → OnWalk text w Kept
on_walk w same ahead kept = record { can_next = rw same ahead; same = same; kept = kept }

-- where the loop begins
pub walk_begins : {text : List ℕ} {w over : Walk} → w ≡ over → (over.text.now ≡ text) × (over.at ≡ 0) → (w.text.now ≡ text) × (w.at ≡ 0)
walk_begins e over = rw e over

module _ {text : List ℕ} {w : Walk} {Kept : Type 0} (on : OnWalk text w Kept) where
  -- where the walk is over no pieces come, whatever pieces the text shows, and of those that are known to come
  module _ (over : (ps : List (PlanPiece ℕ)) → Shows token_limit w.at (drop w.at w.text.now) ps → ps ≡ []) where
    pub walk_none : (ps : List (PlanPiece ℕ)) → Shows token_limit w.at (drop w.at text) ps → ps ≡ []
    walk_none = rw on.same at over

    pub walk_over : (ahead : ShowsAhead text w.at) → ahead.come ≡ []
    walk_over ahead = walk_none ahead.come ahead.shows

  module _ {text' : List ℕ} {k : CodePiece} {place rest : ℕ}
      (gives : (text' ≡ w.text.now) × ((ps : List (PlanPiece ℕ)) → Shows token_limit w.at (drop w.at w.text.now) ps → Passed w.text.now w.at k place rest ps)) where
    -- the walk still goes over the text
    pub walk_same : text' ≡ text
    walk_same = gives.0 ∙ on.same

    -- the piece that the walk gave, of whatever pieces the text shows, and of those that are known to come
    pub walk_gave : (ps : List (PlanPiece ℕ)) → Shows token_limit w.at (drop w.at text) ps → Passed text w.at k place rest ps
    walk_gave = rw on.same at gives.1

    pub walk_piece : (ahead : ShowsAhead text w.at) → Passed text w.at k place rest ahead.come
    walk_piece ahead = walk_gave ahead.come ahead.shows
