-- The piece that the code finds at a port is the one that the model's numbers say, since the port's cell is lent.
use Prim.Native.Nat.{ℕ, ◌*◌, ◌+◌, ◌/◌, ◌≤◌}
use mathlib.Core.Path.{◌≡◌, sym, ◌∙◌, subst}
use native.Mathlib.Omega.{arith}
use lib.ListN.{length}
use Rattle.kinds.specs.Limits.{cell_numbers}
use Rattle.pieces.specs.declared.Piece.{Piece}
use Rattle.memory.specs.Model.{FindsCell, PieceReady, Stepped, model, with_piece}
use Rattle.memory.specs.Pieces.{piece_at}
use Rattle.memory.specs.declared.HeldPlan.{HeldPlan}
use Rattle.memory.proofs.Pieces.{piece-whole}
use Rattle.copier.specs.Copying.{LikeReady, like}

module _ {b : HeldPlan} {port : ℕ} (r : LikeReady b port) where
  pub like-lent : cell_numbers * (port / 2) + cell_numbers ≤ length b.numbers.now
  like-lent = let low = r.below in let room = b.lent.room in omega arith

  module _ {k : Piece} (e : k ≡ piece_at b.numbers.now port) where
    found : k ≡ piece_at (model b).numbers port
    found = e ∙ piece-whole b.kept.outer.0 b.numbers.now b.kept.first.0 port b.lent r.below

    pub like_ready : PieceReady b k
    like_ready = record { ready = r.ready; finds = subst (FindsCell b.kept.free.0 b.opened.0 b.kept.outer.0) (sym found) r.finds }

    pub like-stepped : {b' : HeldPlan} → Stepped b b' (with_piece (model b) k) → Stepped b b' (like (model b) port)
    unfolding like
    like-stepped {b'} p = subst (λ j. Stepped b b' (with_piece (model b) j)) found p
