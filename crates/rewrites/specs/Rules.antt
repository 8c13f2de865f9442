-- What each rewrite makes of the plan that the memory holds. The rewrite is made in one sequence, which stands in a frame. In that sequence
-- the items X stand before the blocks and the items p behind them.
use Rattle.std.specs.Prelude.{ℕ, ◌≤◌, ◌≡◌, List}
use Rattle.rules.specs.Frames.{Frame, plug}
use Rattle.plan.specs.Plan.{Plan, block, ◌then◌, cells}
use Rattle.memory.specs.Held.{HeldIn, HeldAlike}
use Rattle.memory.specs.declared.HeldPlan.{HeldPlan}
use Rattle.hunt.specs.Hunting.{Stands, cell_of, port_behind}
use Rattle.ready.specs.declared.Spot.{Spot}

-- the port that links to what stands behind X
abbrev pub at_end : (n : ℕ) → Frame ℕ → Plan ℕ → ℕ
at_end n f X = port_behind (cell_of n f) X

-- the memory holds a plan with two blocks behind the port `before`
pub record TwoBlocks (h : HeldPlan) (before older newer : ℕ) : Type 0 where
  pub text : List ℕ
  pub frame : Frame ℕ
  pub front : Plan ℕ
  pub first : Plan ℕ
  pub second : Plan ℕ
  pub behind : Plan ℕ
  pub at : before ≡ at_end h.kept.outer.0 frame front
  pub held : HeldIn text h (plug frame (front then block older first (block newer second behind)))

-- `[B][A]` becomes A, then `[B]`
abbrev pub RuleA : HeldPlan → HeldPlan → (before older newer : ℕ) → Type 0
RuleA h h' before older newer =
    (text : List ℕ) (f : Frame ℕ) (X B A p : Plan ℕ) → before ≡ at_end h.kept.outer.0 f X
    → HeldIn text h (plug f (X then block older B (block newer A p))) → HeldIn text h' (plug f (X then (A then block older B p)))

-- `[B][A]` becomes `[[B]A]`
abbrev pub RuleB : HeldPlan → HeldPlan → (before older newer : ℕ) → Type 0
RuleB h h' before older newer =
    (text : List ℕ) (f : Frame ℕ) (X B A p : Plan ℕ) → before ≡ at_end h.kept.outer.0 f X
    → HeldIn text h (plug f (X then block older B (block newer A p))) → HeldIn text h' (plug f (X then block newer (block older B A) p))

-- the memory holds a plan with a block, and there is room for that block once more
pub record OneBlock (text : List ℕ) (h : HeldPlan) (newer : ℕ) : Type 0 where
  pub frame : Frame ℕ
  pub front : Plan ℕ
  pub contents : Plan ℕ
  pub behind : Plan ℕ
  pub held : HeldIn text h (plug frame (front then block newer contents behind))
  pub room : cells (plug frame (front then block newer contents (block newer contents behind))) ≤ h.kept.outer.0

-- `[A]` becomes `[A][A]`
abbrev pub RuleC : (text : List ℕ) → HeldPlan → HeldPlan → (newer : ℕ) → Type 0
RuleC text h h' newer =
    (f : Frame ℕ) (X A p : Plan ℕ) → HeldIn text h (plug f (X then block newer A p))
    → cells (plug f (X then block newer A (block newer A p))) ≤ h.kept.outer.0 → HeldAlike text h' (plug f (X then block newer A (block newer A p)))

-- the memory holds a plan with a block behind the port `before`
pub record DropBlock (h : HeldPlan) (before newer : ℕ) : Type 0 where
  pub text : List ℕ
  pub frame : Frame ℕ
  pub front : Plan ℕ
  pub contents : Plan ℕ
  pub behind : Plan ℕ
  pub at : before ≡ at_end h.kept.outer.0 frame front
  pub held : HeldIn text h (plug frame (front then block newer contents behind))

-- `[A]` becomes nothing
abbrev pub RuleD : HeldPlan → HeldPlan → (before newer : ℕ) → Type 0
RuleD h h' before newer =
    (text : List ℕ) (f : Frame ℕ) (X A p : Plan ℕ) → before ≡ at_end h.kept.outer.0 f X
    → HeldIn text h (plug f (X then block newer A p)) → HeldIn text h' (plug f (X then p))

-- the memory holds the plan with q in the frame; the rewrite at the spot makes q' of q; and the plan with q' there finds room
pub record Rewrites (text : List ℕ) (h : HeldPlan) (spot : Spot) (f : Frame ℕ) (q q' : Plan ℕ) : Type 0 where
  pub held : HeldIn text h (plug f q)
  pub stands : Stands spot (cell_of h.kept.outer.0 f) q q'
  pub room : cells (plug f q') ≤ h.kept.outer.0

pub record Rewritable (text : List ℕ) (h : HeldPlan) (spot : Spot) : Type 0 where
  pub frame : Frame ℕ
  pub before : Plan ℕ
  pub after : Plan ℕ
  pub rewrites : Rewrites text h spot frame before after

-- the memory holds what the rewrite at the spot gives, wherever the spot stood
abbrev pub RewriteMade : (text : List ℕ) → HeldPlan → Spot → HeldPlan → Type 0
RewriteMade text h spot h' = (f : Frame ℕ) (q q' : Plan ℕ) → Rewrites text h spot f q q' → HeldAlike text h' (plug f q')
