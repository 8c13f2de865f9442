-- What a hunt for a ready operator finds in a plan in the memory: where the operator stands, and which plan its rewrite gives. A scan
-- answers for one sequence (`Scanned`), a hunt for a plan (`Finds`). What they answer is what document 01's order chooses: `outer` of a
-- sequence, `next` of a plan. Last come the tests that the code makes at a port.
use Rattle.std.specs.Prelude.{ℕ, ◌≤◌, ◌≡◌, List, [], ◌∷◌, ◌++◌, Option, None, Some}
use Rattle.rules.specs.Frames.{Frame, top, within, plug, Ahead, Rule}
use Rattle.plan.specs.Plan.{Plan, labels}
use Rattle.plan.specs.declared.Operator.{Operator}
use Rattle.rules.specs.Rewriting.{leftmost, next}
use Rattle.memory.specs.Held.{HeldIn, held_numbers}
use Rattle.memory.specs.Memory.{start, close, ports, Linked, Says, Below, Distinct, last_of}
use Rattle.memory.specs.declared.HeldPlan.{HeldPlan}
use Rattle.ready.specs.declared.Spot.{Spot}

-- the cell that has the sequence inside it: cell number n for the outermost one
abbrev pub cell_of : (n : ℕ) → Frame ℕ → ℕ
cell_of n top = n
cell_of n (within before c out after) = c

-- the port that links to what stands behind the items X, which begin the sequence inside the cell s
abbrev pub port_behind : (s : ℕ) → (X : Plan ℕ) → ℕ
port_behind s X = last_of (start s) (ports X)

-- the rule of the operator o at the spot
abbrev pub RuleAt : Spot → Operator → (X p q q' : Plan ℕ) → Type 0
RuleAt spot o X p q q' = Rule o spot.older.0 spot.newer.0 spot.operator.0 X p q q'

-- the spot's rewrite makes q' of the sequence q inside the cell s; `before` is the port that links to the first of the operator's blocks
pub record Stands (spot : Spot) (s : ℕ) (q q' : Plan ℕ) : Type 0 where
  pub front : Plan ℕ
  pub behind : Plan ℕ
  pub before : spot.before.0 ≡ port_behind s front
  pub rule : RuleAt spot spot.which front behind q q'

-- w has the sequence q inside the cell s, from its start to its close
pub record SequenceAt (text : List ℕ) (n : ℕ) (w : List ℕ) (s : ℕ) (q : Plan ℕ) : Type 0 where
  pub chain : Linked w (start s ∷ (ports q ++ close s ∷ []))
  pub says : Says text w q
  pub distinct : Distinct (s ∷ labels q)
  pub below : Below n (labels q)
  pub low : s ≤ n

pub record Scannable (text : List ℕ) (h : HeldPlan) (s : ℕ) : Type 0 where
  pub sequence : Plan ℕ
  pub there : SequenceAt text h.kept.outer.0 (held_numbers h) s sequence

-- of one sequence: no operator of it is ready; or the leftmost ready one is at the spot
abbrev pub Scanned : Option Spot → (s : ℕ) → (q : Plan ℕ) → Type 0
Scanned None s q = leftmost q ≡ None
Scanned (Some spot) s q = (q' : Plan ℕ) × Stands spot s q q' × (leftmost q ≡ Some q')

-- of a plan: it is finished; or its next rewrite is the one at the spot, in one of its sequences
abbrev pub Finds : Option Spot → (n : ℕ) → (t : Plan ℕ) → Type 0
Finds None n t = next t ≡ None
Finds (Some spot) n t =
    (f : Frame ℕ) × (q : Plan ℕ) × (q' : Plan ℕ) × (t ≡ plug f q) × Stands spot (cell_of n f) q q' × (next t ≡ Some (plug f q'))

-- The sequence inside the cell `from` is the first that may have a ready operator: the plan's next rewrite is in
-- that sequence, or inside it, or behind it.
pub record Awaits (n : ℕ) (t : Plan ℕ) (from : ℕ) : Type 0 where
  pub frame : Frame ℕ
  pub sequence : Plan ℕ
  pub ahead : Ahead t frame sequence
  pub cell : from ≡ cell_of n frame

-- the memory holds a plan whose first sequence that may have a ready operator is inside the cell `from`
pub record Huntable (text : List ℕ) (h : HeldPlan) (from : ℕ) : Type 0 where
  pub plan : Plan ℕ
  pub held : HeldIn text h plan
  pub awaits : Awaits h.kept.outer.0 plan from
