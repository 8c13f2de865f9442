-- What one turn and a whole run make of the plan that the memory holds. They make of it what the definition makes, and ask in its order.
use Rattle.std.specs.Prelude.{ℕ, ◌≡◌, Bool, true, false, List}
use Rattle.std.specs.declared.ops.ControlFlow.{ControlFlow}
use Rattle.std.specs.declared.ops.ControlFlow.TheVariants.{Continue, Break}
use Rattle.rules.specs.declared.Ending.{Ending}
use Rattle.rules.specs.declared.Ending.TheVariants.{Done, Quota, Full}
use Rattle.rules.specs.Frames.{Frame, plug}
use Rattle.plan.specs.Plan.{Plan, bare, cells}
use Rattle.rules.specs.Rewriting.{next}
use Rattle.rules.specs.Running.{ENDS, GOES_ON, ask, RAN, run_plan}
use Rattle.memory.specs.Held.{HeldIn, HeldAlike}
use Rattle.memory.specs.declared.HeldPlan.{HeldPlan}
use Rattle.hunt.specs.Hunting.{Stands, cell_of}
use Rattle.ready.specs.declared.Spot.{Spot}
use Rattle.engine.specs.declared.Ended.{Ended}

-- the memory holds the plan with q in the frame; that plan has so many cells; and the rewrite at the spot makes q' of q
pub record Spotted (text : List ℕ) (h : HeldPlan) (spot : Spot) (size : ℕ) (f : Frame ℕ) (q q' : Plan ℕ) : Type 0 where
  pub held : HeldIn text h (plug f q)
  pub stands : Stands spot (cell_of h.kept.outer.0 f) q q'
  pub sized : size ≡ cells (plug f q)

pub record Countable (text : List ℕ) (h : HeldPlan) (spot : Spot) (size : ℕ) : Type 0 where
  pub frame : Frame ℕ
  pub before : Plan ℕ
  pub after : Plan ℕ
  pub spotted : Spotted text h spot size frame before after

-- the memory holds a plan that has so many cells
pub record Sized (text : List ℕ) (h : HeldPlan) (size : ℕ) (t : Plan ℕ) : Type 0 where
  pub held : HeldIn text h t
  pub sized : size ≡ cells t

pub record Runnable (text : List ℕ) (h : HeldPlan) (size : ℕ) : Type 0 where
  pub plan : Plan ℕ
  pub sized : Sized text h size plan

-- One turn: the run stops and the memory is as it was; or the memory holds the next plan. Whether there is a next plan and
-- whether it has room is asked first, and the quota after that.
abbrev pub Turned : (text : List ℕ) → HeldPlan → (more : Bool) → HeldPlan → ControlFlow Ending ℕ → (t : Plan ℕ) → Type 0
Turned text h more h' (Break Done) t = (h' ≡ h) × (ask h.kept.outer.0 (next t) ≡ ENDS Done)
Turned text h more h' (Break Full) t = (h' ≡ h) × (ask h.kept.outer.0 (next t) ≡ ENDS Full)
Turned text h more h' (Break Quota) t = (h' ≡ h) × (more ≡ false) × ((p : Plan ℕ) × (ask h.kept.outer.0 (next t) ≡ GOES_ON p))
Turned text h more h' (Continue size) t =
    (more ≡ true) × ((p : Plan ℕ) × (ask h.kept.outer.0 (next t) ≡ GOES_ON p) × HeldAlike text h' p × (size ≡ cells p))

-- one turn of whatever plan the memory held
abbrev pub TurnMade : (text : List ℕ) → HeldPlan → (size : ℕ) → (more : Bool) → HeldPlan → ControlFlow Ending ℕ → Type 0
TurnMade text h size more h' r = (t : Plan ℕ) → Sized text h size t → Turned text h more h' r t

-- a run: how the definition's run ends, its steps, and the plan that it leads to
pub record RanAs (text : List ℕ) (n quota : ℕ) (t : Plan ℕ) (h' : HeldPlan) (r : Ended) : Type 0 where
  pub plan : Plan ℕ
  pub runs : run_plan n quota (bare t) ≡ RAN r.ending r.steps (bare plan)
  pub sized : Sized text h' r.size plan

-- the run of whatever plan the memory held
abbrev pub RunMade : (text : List ℕ) → HeldPlan → (size quota : ℕ) → HeldPlan → Ended → Type 0
RunMade text h size quota h' r = (t : Plan ℕ) → Sized text h size t → RanAs text h.kept.outer.0 quota t h' r
