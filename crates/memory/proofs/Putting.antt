-- A turn of the loop that writes the printed text of a plan, on plain lists: from the place `from` on the output has the printed text so
-- far, as the walk knows it.
use Prim.Native.Nat.{ℕ, ◌+◌, ◌≤◌}
use mathlib.Core.Path.{◌≡◌, ap, sym, ◌∙◌}
use mathlib.Core.Logic.{◌≢◌}
use mathlib.Core.List.{List, ◌++◌}
use native.Mathlib.Omega.{arith}
use native.Mathlib.Nat.{add-zero}
use lib.ListN.{length, take, drop}
use lib.Seq.{length-take-le, take-length, take_at, take-add}
use Rattle.plan.specs.Plan.{Plan, print}
use Rattle.kinds.specs.Written.{put_at}
use Rattle.pieces.specs.Written.{piece_bytes, piece_length}
use Rattle.pieces.specs.declared.Piece.{Piece}
use Rattle.kinds.proofs.Putting.{put_long, put_nothing}
use Rattle.kinds.proofs.Putting.{put_on as put_behind}
use Rattle.memory.specs.Held.{HeldIn}
use Rattle.memory.specs.Memory.{close, link, whole}
use Rattle.memory.specs.Pieces.{piece_at, PrintsWithin}
use Rattle.memory.specs.declared.HeldPlan.{HeldPlan}
use Rattle.memory.proofs.PrintWalk.{printed_ahead, held_prints, PrintWalk, walk_first, ended, size, to_come, walk_fits, walk_on}

-- at the head of the loop: the walk, with room for the whole printed text, and the output
pub record Putting (text m out₀ : List ℕ) (from : ℕ) (out : List ℕ) (n first port put : ℕ) : Type 0 where
  pub done : ℕ
  pub at : put ≡ from + done
  pub walk : PrintWalk from (length out₀) text m n first port done
  pub holds : out ≡ put_at out₀ from (take done (printed_ahead text m n first first))

pub put_first : (text out : List ℕ) (h : HeldPlan) (from : ℕ) → PrintsWithin from (length out) text h
    → Putting text h.numbers.now out from out h.kept.outer.0 h.kept.first.0 h.kept.first.0 from
put_first text out h from w =
    record { done = 0; at = sym (add-zero from); walk = walk_first from (length out) text h w; holds = sym (put_nothing out from) }

module _ (text m out₀ : List ℕ) (from : ℕ) (out : List ℕ) (n first port put : ℕ) (inv : Putting text m out₀ from out n first port put) where
  abbrev gone : List ℕ
  gone = take inv.done (printed_ahead text m n first first)

  so_long : length gone ≡ inv.done
  so_long = length-take-le inv.done (printed_ahead text m n first first) inv.walk.within

  so_far : from + length gone ≤ length out₀
  so_far = omega (arith, so_long, inv.walk.within, inv.walk.fits)

  pub as_long : length out ≡ length out₀
  as_long = ap length inv.holds ∙ put_long out₀ from gone so_far

  module _ (stop : ℕ) (mark : stop ≡ close n) (more : port ≢ stop) (piece : Piece) (is : piece ≡ piece_at m port) where
    pub put_fits : put + piece_length piece ≤ length out
    put_fits = omega (arith, inv.at, as_long, walk_fits from (length out₀) text m n first port inv.done inv.walk stop mark more piece is)

    module _ (len : ℕ) (el : len ≡ piece_length piece) (next : ℕ) (e : next ≡ link (whole n m first) port)
        (out' : List ℕ) (is_put : out' ≡ put_at out put (piece_bytes text piece)) where
      bytes_long : length (piece_bytes text piece) ≡ len
      bytes_long = size from (length out₀) text m n first port inv.done inv.walk stop mark more piece is ∙ sym el

      here : take len (drop inv.done (printed_ahead text m n first first)) ≡ piece_bytes text piece
      here =
          ap (take len) (to_come from (length out₀) text m n first port inv.done inv.walk stop mark more piece is)
          ∙ take_at (piece_bytes text piece) (printed_ahead text m n first (link (whole n m first) port)) len bytes_long

      pub put_on : Putting text m out₀ from out' n first next (put + len)
      put_on =
          let both : take (inv.done + len) (printed_ahead text m n first first) ≡ gone ++ piece_bytes text piece =
          take-add inv.done len (printed_ahead text m n first first) ∙ ap (gone ++◌) here in
          let there : put ≡ from + length gone = omega (arith, inv.at, so_long) in
          record {
            done = inv.done + len;
            at = omega (arith, inv.at);
            walk = walk_on from (length out₀) text m n first port inv.done inv.walk stop mark more piece is len el next e;
            holds = is_put ∙ rw (there, inv.holds, both) (put_behind out₀ from gone so_far (piece_bytes text piece));
          }

pub put_last : (text out₀ : List ℕ) (from : ℕ) (out : List ℕ) (h : HeldPlan) (port put : ℕ)
    → Putting text h.numbers.now out₀ from out h.kept.outer.0 h.kept.first.0 port put
    → (stop : ℕ) → stop ≡ close h.kept.outer.0 → port ≡ stop → (t : Plan ℕ) → HeldIn text h t → out ≡ put_at out₀ from (print t)
put_last text out₀ from out h port put inv stop mark e t held =
    inv.holds
    ∙ rw (ended from (length out₀) text h.numbers.now h.kept.outer.0 h.kept.first.0 port inv.done inv.walk (e ∙ mark), take-length, held_prints text h t held)
