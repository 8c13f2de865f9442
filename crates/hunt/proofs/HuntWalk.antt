-- The walk of `hunt` along the chain of the whole plan. The way counts one cell more than are lent, since it may begin at the
-- outermost start.
use Prim.Native.Nat.{ℕ, suc, ◌/◌, ◌≤◌, ◌<◌}
use mathlib.Core.Path.{◌≡◌, refl, ap, sym, ◌∙◌, subst}
use mathlib.Core.Logic.{◌≢◌}
use mathlib.Core.Bool.{Bool, true, false}
use mathlib.Core.List.{List, [], ◌∷◌, ◌++◌}
use native.Mathlib.Omega.{arith}
use lib.ListN.{length}
use Rattle.kinds.specs.Limits.{cell_limit}
use Rattle.plan.specs.Plan.{Plan}
use Rattle.kinds.proofs.Tests.{never}
use Rattle.rules.proofs.Frames.{found_ahead}
use Rattle.memory.specs.Held.{HeldIn, held_numbers}
use Rattle.memory.specs.Memory.{start, close, datum, link, block_kind, ports, Linked}
use Rattle.std.specs.Prelude.{Option, None, Some}
use Rattle.memory.specs.declared.HeldPlan.{HeldPlan}
use Rattle.memory.proofs.Lists.{linked_split}
use Rattle.blocks.proofs.Ways.{ahead, Way, WayAhead, turn}
use Rattle.hunt.specs.Hunting.{SequenceAt, Scannable, Scanned, Finds, Huntable, cell_of}
use Rattle.ready.specs.Ready.{block_opens}
use Rattle.ready.specs.declared.Spot.{Spot}
use Rattle.hunt.proofs.WaysThrough.{way_whole, way_at}
use Rattle.hunt.proofs.Frames.{left, chain_plug, inside_plug}
use Rattle.hunt.proofs.OnePlan.{one_held}
use Rattle.hunt.proofs.Whereabouts.{Whereabouts, onward, Opening, at_opening, passed, at_end, stand_opening, stand_passing, pass_opening}
use Rattle.ready.proofs.Tests.{outermost_datum}

pub record Walking (text : List ℕ) (h : HeldPlan) (stop port : ℕ) : Type 0 where
  pub plan : Plan ℕ
  pub held : HeldIn text h plan
  pub ends : stop ≡ close h.kept.outer.0
  pub way : Way (held_numbers h) (suc h.kept.outer.0) stop port (ahead (held_numbers h) (suc h.kept.outer.0) stop port)
  pub standing : Whereabouts (held_numbers h) h.kept.outer.0 plan port

module _ {text : List ℕ} {h : HeldPlan} {from : ℕ} (can : Huntable text h from) where
  abbrev n : ℕ
  n = h.kept.outer.0

  abbrev w : List ℕ
  w = held_numbers h

  inside : SequenceAt text n w (cell_of n can.awaits.frame) can.awaits.sequence
  inside = inside_plug can.awaits.frame can.awaits.sequence (subst (HeldIn text h) can.awaits.ahead.there can.held)

  pub outer_small : n ≤ cell_limit
  outer_small = h.lent.few

  pub from_small : from ≤ cell_limit
  from_small = omega (arith, can.awaits.cell, inside.low, h.lent.few)

  pub hunt_first : (stop port : ℕ) → stop ≡ close n → port ≡ start from → Walking text h stop port
  hunt_first stop port e s =
      let f = can.awaits.frame in
      let q = can.awaits.sequence in
      let parts : start n ∷ (ports can.plan ++ close n ∷ []) ≡ left n f ++ start (cell_of n f) ∷ onward n f q =
      ap (λ v. start n ∷ (ports v ++ close n ∷ [])) can.awaits.ahead.there ∙ chain_plug n f q in
      let from_there = (linked_split w (left n f) (start (cell_of n f)) (onward n f q) (subst (Linked w) parts can.held.chain)).1 in
      rw (e, s, can.awaits.cell) record {
        plan = can.plan;
        held = can.held;
        ends = refl;
        way = way_at (start n ∷ ports can.plan) (left n f) (start (cell_of n f)) (onward n f q) (way_whole can.held) parts (λ z. omega arith);
        standing = stand_opening can.held (outermost_datum n h.numbers.now h.kept.first.0 (start n) h.lent refl) record {
          frame = f;
          q = q;
          ahead = can.awaits.ahead;
          at = refl;
          chain = from_there;
        };
      }

module _ {text : List ℕ} {h : HeldPlan} {stop port : ℕ} (k : Walking text h stop port) (more : port ≢ stop) where
  here : WayAhead (held_numbers h) (suc h.kept.outer.0) stop port
  here = turn k.way more

  pub hunt_low : port ≤ start h.kept.outer.0
  hunt_low = omega (arith, here.low, k.ends)

  pub hunt_less : (next : ℕ) → next ≡ link (held_numbers h) port
      → length (ahead (held_numbers h) (suc h.kept.outer.0) stop next) < length (ahead (held_numbers h) (suc h.kept.outer.0) stop port)
  hunt_less next e = rw e (omega (arith, ap length here.on))

  outermost : datum (held_numbers h) (start h.kept.outer.0) ≡ block_kind
  outermost = outermost_datum h.kept.outer.0 h.numbers.now h.kept.first.0 (start h.kept.outer.0) h.lent refl

  next_walking : (next : ℕ) → next ≡ link (held_numbers h) port → Whereabouts (held_numbers h) h.kept.outer.0 k.plan (link (held_numbers h) port)
      → Walking text h stop next
  next_walking next e standing =
      rw e record { plan = k.plan; held = k.held; ends = k.ends; way = here.way; standing = standing }

  module _ (opened : Bool) (tells : opened ≡ block_opens (held_numbers h) port) where
    opening : opened ≡ true → Whereabouts (held_numbers h) h.kept.outer.0 k.plan port → Opening (held_numbers h) h.kept.outer.0 k.plan port
    opening does (at_opening o e other) = o
    opening does (passed p e other) = never cc
    opening does (at_end e last) = absurd (more (last ∙ sym k.ends))

    -- a port that opens no sequence is passed over
    pub hunt_on : opened ≡ false → (next : ℕ) → next ≡ link (held_numbers h) port → Walking text h stop next
    hunt_on shut next e = on k.standing
      where
        on : Whereabouts (held_numbers h) h.kept.outer.0 k.plan port → Walking text h stop next
        on (at_opening o does other) = never cc
        on (passed p e' other) = next_walking next e (stand_passing k.held outermost p)
        on (at_end e' last) = absurd (more (last ∙ sym k.ends))

    -- the cell s, whose inside opens there
    module _ (does : opened ≡ true) {s : ℕ} (at_cell : s ≡ port / 2) where
      o : Opening (held_numbers h) h.kept.outer.0 k.plan port
      o = opening does k.standing

      cell : cell_of h.kept.outer.0 o.frame ≡ s
      cell = let at = o.at in omega arith

      sequence : SequenceAt text h.kept.outer.0 (held_numbers h) s o.q
      sequence = rw cell at (inside_plug o.frame o.q (subst (HeldIn text h) o.ahead.there k.held))

      pub hunt_scannable : Scannable text h s
      hunt_scannable = record { sequence = o.q; there = sequence }

      module _ (r : Option Spot) (scanned : (q : Plan ℕ) → SequenceAt text h.kept.outer.0 (held_numbers h) s q → Scanned r s q) where
        pub hunt_found : (spot : Spot) → r ≡ Some spot → (t : Plan ℕ) → HeldIn text h t → Finds (Some spot) h.kept.outer.0 t
        hunt_found spot e t held =
            let found : Scanned (Some spot) s o.q = subst (λ a. Scanned a s o.q) e (scanned o.q sequence) in
            subst (Finds (Some spot) h.kept.outer.0) (one_held k.held held)
            (o.frame, o.q, found.0, o.ahead.there, rw cell found.1, found_ahead o.ahead found.2)

        pub hunt_past : r ≡ None → (next : ℕ) → next ≡ link (held_numbers h) port → Walking text h stop next
        hunt_past e next on =
            next_walking next on
            (stand_passing k.held outermost (pass_opening o (subst (λ a. Scanned a s o.q) e (scanned o.q sequence))))

-- at the end the whole plan is passed, so nothing is ready
pub hunt_none : {text : List ℕ} {h : HeldPlan} {stop port : ℕ} → Walking text h stop port → port ≡ stop → (t : Plan ℕ) → HeldIn text h t
    → Finds None h.kept.outer.0 t
hunt_none {text} {h} {stop} {port} k e t held =
    subst (Finds None h.kept.outer.0) (one_held k.held held) (none k.standing)
  where
    none : Whereabouts (held_numbers h) h.kept.outer.0 k.plan port → Finds None h.kept.outer.0 k.plan
    none (at_opening o does other) = absurd (other (e ∙ k.ends))
    none (passed p shut other) = absurd (other (e ∙ k.ends))
    none (at_end found last) = found
