-- What it means to copy a block. The plan that the block stands in tells its contents. They are built once more inside another cell, which
-- was free and which no port links to yet. Then the step of the builder that puts the like of a port.
use Rattle.std.specs.Prelude.{ℕ, ◌+◌, ◌≤◌, ◌<◌, ◌≡◌, List, [], ◌∷◌, ◌++◌}
use Rattle.plan.specs.Plan.{Plan, bare, cells, labels}
use Rattle.memory.specs.Held.{BlockIn, HeldIn, held_numbers}
use Rattle.memory.specs.Memory.{start, close, datum, block_kind, ports, Linked, Says, Shared}
use Rattle.memory.specs.Model.{FindsCell, Model, Buildable, model, with_piece}
use Rattle.memory.specs.Pieces.{piece_at}
use Rattle.memory.specs.declared.HeldPlan.{HeldPlan}

-- the memory holds the plan t; a block at the cell c with the contents b stands in t; and there is room for a copy of that block
pub record Copies (text : List ℕ) (h : HeldPlan) (c : ℕ) (t b : Plan ℕ) : Type 0 where
  pub held : HeldIn text h t
  pub found : BlockIn c b t
  pub room : cells t + (1 + cells b) ≤ h.kept.outer.0

pub record Copyable (text : List ℕ) (h : HeldPlan) (c : ℕ) : Type 0 where
  pub plan : Plan ℕ
  pub contents : Plan ℕ
  pub copies : Copies text h c plan contents

-- the plan t as before, and beside it a block at the cell `copy` with contents that are b, except for their cells
pub record CopyHeld (text : List ℕ) (n : ℕ) (w : List ℕ) (free copy : ℕ) (t b : Plan ℕ) : Type 0 where
  pub contents : Plan ℕ
  pub alike : bare contents ≡ bare b
  pub chain : Linked w (start n ∷ (ports t ++ close n ∷ []))
  pub says : Says text w t
  pub kind : datum w (start copy) ≡ block_kind
  pub copy_chain : Linked w (start copy ∷ (ports contents ++ close copy ∷ []))
  pub copy_says : Says text w contents
  pub shared : Shared n w free (labels t ++ copy ∷ labels contents)

-- the memory holds the plan t, and beside it such a copy
abbrev pub CopyMade : (text : List ℕ) → HeldPlan → (copy : ℕ) → (t b : Plan ℕ) → Type 0
CopyMade text h copy t b = CopyHeld text h.kept.outer.0 (held_numbers h) h.kept.free.0 copy t b

-- the step that puts the like of a port: the piece that the port shows
unfoldable pub like : Model → (port : ℕ) → Model
like s port = with_piece s (piece_at s.numbers port)

-- a port of a lent cell, whose like can be put
pub record LikeReady (b : HeldPlan) (port : ℕ) : Type 0 where
  pub ready : Buildable b
  pub below : port < start b.kept.outer.0
  pub finds : FindsCell b.kept.free.0 b.opened.0 b.kept.outer.0 (piece_at (model b).numbers port)
