-- The turns of the loop that builds a plan from an accepted text, with the memory and what is kept beside it.
use Prim.Native.Nat.{ℕ, ◌≤◌}
use mathlib.Core.Path.{◌≡◌, refl, ap, sym, ◌∙◌, subst}
use mathlib.Core.List.{List, []}
use native.Mathlib.Omega.{arith}
use lib.ListN.{length}
use Rattle.kinds.specs.Limits.{text_limit, token_limit}
use Rattle.kinds.specs.declared.Cell.{Cell}
use Rattle.plan.specs.Plan.{Plan, bare}
use Rattle.plan.specs.Pieces.{pieces}
use Rattle.plan.specs.Reading.{ACCEPTED, read}
use Rattle.plan.proofs.ReadBack.{read_accepted}
use Rattle.plan.proofs.Refusals.{accepted_injective}
use Rattle.pieces.specs.declared.Piece.{Piece as CodePiece}
use Rattle.items.specs.Walk.{ShowsAhead, Passed}
use Rattle.items.proofs.Walking.{passed_ahead}
use Rattle.memory.specs.Held.{HeldAlike, SameCells}
use Rattle.memory.specs.Model.{BuildEnded, Fresh, PieceReady, Buildable, Stepped, model, with_piece}
use Rattle.memory.specs.declared.HeldPlan.{HeldPlan}
use Rattle.memory.proofs.Beginning.{fresh_building}
use Rattle.memory.proofs.Building.{ended}
use Rattle.memory.proofs.Placing.{Placed, Put, place, place_end, place-first}
use Rattle.memory.proofs.Steps.{building_ready, same_at, same_on}

pub record Onward (text : List ℕ) (b₀ b : HeldPlan) (at : ℕ) : Type 0 where
  pub plan : Plan ℕ
  pub accepted : read token_limit b.kept.outer.0 text ≡ ACCEPTED plan
  pub ahead : ShowsAhead text at
  pub same : SameCells b₀ b
  pub placed : Placed text b.kept.outer.0 b.kept.outer.0 [] plan (model b) ahead.come

-- before the first piece
pub onward-start : (text : List ℕ) {b : HeldPlan} {p : Plan ℕ} → Fresh b → length text ≤ text_limit → read token_limit b.kept.outer.0 text ≡ ACCEPTED p
    → Onward text b b 0
onward-start text {p = p} f short accepted =
    record {
      plan = p;
      accepted = accepted;
      ahead = record { short = short; come = pieces p; shows = (read_accepted token_limit _ text accepted).shows };
      same = same_at;
      placed = place-first p (fresh_building f text);
    }

module _ {text : List ℕ} {b₀ b : HeldPlan} {at : ℕ} (o : Onward text b₀ b at) where
  pub ready : Buildable b
  ready = building_ready refl o.placed.built

  -- the piece that the walk gave
  module _ (k : CodePiece) (at' rest : ℕ) (passed : Passed text at k at' rest o.ahead.come) where
    put : Put text b.kept.outer.0 b.kept.outer.0 [] o.plan (model b) k passed.later
    put =
        place o.plan (let fits = (read_accepted token_limit b.kept.outer.0 text o.accepted).fits in omega arith) passed.is
        (subst (λ ps. Placed text b.kept.outer.0 b.kept.outer.0 [] o.plan (model b) ps) passed.parts o.placed)

    pub piece_ready : PieceReady b k
    piece_ready = record { ready = ready; finds = put.finds }

    pub onward_on : {b' : HeldPlan} → Stepped b b' (with_piece (model b) k) → Onward text b₀ b' rest
    onward_on {b'} p =
        record {
          plan = o.plan;
          accepted = rw p.same.outer o.accepted;
          ahead = passed_ahead o.ahead passed;
          same = same_on o.same p.same;
          placed = subst (λ c. Placed text c.0 c.0 [] o.plan (model b') passed.later) (sym p.same.outer)
              (subst (λ s. Placed text b.kept.outer.0 b.kept.outer.0 [] o.plan s passed.later) (sym p.steps) put.placed);
        }

  -- behind the last piece
  pub onward_end : {h : HeldPlan} → BuildEnded b h → o.ahead.come ≡ [] → (p : Plan ℕ) → read token_limit b.kept.outer.0 text ≡ ACCEPTED p
      → HeldAlike text h p
  onward_end f none p accepted =
      let held = place_end o.plan (subst (Placed text b.kept.outer.0 b.kept.outer.0 [] o.plan (model b)) none o.placed) in
      let same : o.plan ≡ p = accepted_injective (sym o.accepted ∙ accepted) in
      record { plan = held.0; alike = held.1 ∙ ap bare same; held = rw (f.ends, f.same.outer, f.free) (ended held.2) }
