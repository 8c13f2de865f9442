-- One turn, with the memory: what the hunt found says whether the run goes on, of every plan that the memory held.
use Prim.Native.Nat.{ℕ, ◌≤◌, ◌<◌}
use mathlib.Core.Path.{◌≡◌, refl, ap, sym, ◌∙◌, subst}
use mathlib.Core.Bool.{Bool, true, false, not}
use mathlib.Core.List.{List}
use native.Mathlib.Omega.{arith}
use borrow.Author.Tests.{lt-leb}
use Rattle.rules.specs.Frames.{Frame, plug, top}
use Rattle.plan.specs.Plan.{Plan, cells}
use Rattle.rules.specs.Rewriting.{next}
use Rattle.rules.specs.Running.{GOES_ON, ask}
use Rattle.rules.specs.declared.Ending.TheVariants.{Done, Quota, Full}
use Rattle.rules.proofs.Frames.{ahead_top}
use Rattle.rules.proofs.Runs.{ask_go}
use Rattle.memory.specs.Held.{HeldIn}
use Rattle.memory.specs.declared.HeldPlan.{HeldPlan}
use Rattle.hunt.specs.Hunting.{Finds, Huntable}
use Rattle.ready.specs.declared.Spot.{Spot}
use Rattle.rewrites.specs.Rules.{Rewritable, RewriteMade, Rewrites}
use Rattle.engine.specs.Running.{Countable, Runnable, Sized, Spotted, TurnMade}
use Rattle.std.specs.Prelude.{Option, None, Some}
use Rattle.std.specs.declared.ops.ControlFlow.TheVariants.{Continue, Break}

module _ {text : List ℕ} {h : HeldPlan} {size : ℕ} (k : Runnable text h size) where
  -- the hunt begins at the outermost sequence
  pub huntable : Huntable text h h.kept.outer.0
  huntable =
      record {
        plan = k.plan;
        held = k.sized.held;
        awaits = record { frame = top; sequence = k.plan; ahead = ahead_top k.plan; cell = refl };
      }

-- the test of `!more`
refused : (more : Bool) → not more ≡ true → more ≡ false
refused true e = sym e
refused false e = refl

allowed : (more : Bool) → not more ≡ false → more ≡ true
allowed true e = refl
allowed false e = sym e

-- what the hunt found
module _ {text : List ℕ} {h : HeldPlan} {size : ℕ} {r : Option Spot} (finds : (t : Plan ℕ) → HeldIn text h t → Finds r h.kept.outer.0 t) where
  pub turn-done : r ≡ None → (more : Bool) → TurnMade text h size more h (Break Done)
  unfolding ask
  turn-done e more t s = (refl, rw (subst (λ x. Finds x h.kept.outer.0 t) e (finds t s.held)))

  module _ {spot : Spot} (e : r ≡ Some spot) where
    found : (t : Plan ℕ) → Sized text h size t → Finds (Some spot) h.kept.outer.0 t
    found t s = subst (λ x. Finds x h.kept.outer.0 t) e (finds t s.held)

    spotted : (t : Plan ℕ) (s : Sized text h size t) → Spotted text h spot size (found t s).0 (found t s).1 (found t s).2
    spotted t s =
        let (f, q, q', is, stands, then_next) = found t s in
        record { held = subst (HeldIn text h) is s.held; stands = stands; sized = s.sized ∙ ap cells is }

    pub turn_countable : Runnable text h size → Countable text h spot size
    turn_countable k =
        let there = found k.plan k.sized in
        record { frame = there.0; before = there.1; after = there.2; spotted = spotted k.plan k.sized }

    -- the next plan's cells, as `size_after` counts them
    module _ (after : ℕ) (counts : (f : Frame ℕ) (q q' : Plan ℕ) → Spotted text h spot size f q q' → after ≡ cells (plug f q')) where
      is_next : (t : Plan ℕ) (s : Sized text h size t) → (next t ≡ Some (plug (found t s).0 (found t s).2)) × (after ≡ cells (plug (found t s).0 (found t s).2))
      is_next t s = ((found t s).5, counts (found t s).0 (found t s).1 (found t s).2 (spotted t s))

      pub turn_full : h.kept.outer.0 < after → (more : Bool) → TurnMade text h size more h (Break Full)
      unfolding ask
      turn_full over more t s =
          let (is, many) = is_next t s in
          (refl, rw (is, lt-leb (cells (plug (found t s).0 (found t s).2)) h.kept.outer.0 (omega arith)))

      module _ (fits : after ≤ h.kept.outer.0) where
        goes : (t : Plan ℕ) (s : Sized text h size t) → ask h.kept.outer.0 (next t) ≡ GOES_ON (plug (found t s).0 (found t s).2)
        goes t s = let (is, many) = is_next t s in (ask_go h.kept.outer.0 (next t) (plug (found t s).0 (found t s).2)).1 (is, omega arith)

        pub turn_quota : (more : Bool) → not more ≡ true → TurnMade text h size more h (Break Quota)
        turn_quota more no_more t s = (refl, refused more no_more, (plug (found t s).0 (found t s).2, goes t s))

        rewrites : (t : Plan ℕ) (s : Sized text h size t) → Rewrites text h spot (found t s).0 (found t s).1 (found t s).2
        rewrites t s =
            let p = spotted t s in
            record { held = p.held; stands = p.stands; room = let many = (is_next t s).1 in omega arith }

        pub turn_rewritable : Runnable text h size → Rewritable text h spot
        turn_rewritable k =
            let there = found k.plan k.sized in
            record { frame = there.0; before = there.1; after = there.2; rewrites = rewrites k.plan k.sized }

        pub turn_went : {h' : HeldPlan} (more : Bool) → not more ≡ false → RewriteMade text h spot h'
            → TurnMade text h size more h' (Continue after)
        turn_went more is_more made t s =
            (allowed more is_more, (plug (found t s).0 (found t s).2, goes t s, made (found t s).0 (found t s).1 (found t s).2 (rewrites t s), (is_next t s).1))
