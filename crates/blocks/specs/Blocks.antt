-- A block of a plan in the memory, and the cells that it has. They are counted before a copy and freed after a drop. A block that is
-- counted stands in a plan (`HasBlock`). A block that is freed has left its plan: it is only linked in itself (`Alone`).
use Rattle.std.specs.Prelude.{ℕ, ◌+◌, ◌*◌, ◌≡◌, List, [], ◌∷◌, ◌++◌, set}
use Rattle.plan.specs.Plan.{Plan, labels}
use Rattle.memory.specs.Held.{BlockIn, HeldIn, held_numbers}
use Rattle.memory.specs.Memory.{start, close, ports, Linked, Below, Distinct}
use Rattle.memory.specs.declared.HeldPlan.{HeldPlan}

-- the memory holds a plan with a block at the cell c
pub record HasBlock (text : List ℕ) (h : HeldPlan) (c : ℕ) : Type 0 where
  pub plan : Plan ℕ
  pub contents : Plan ℕ
  pub held : HeldIn text h plan
  pub inside : BlockIn c contents plan

-- the block at the cell c with the contents b is linked in itself, from its start to its close, whatever leads to it
pub record Alone (n : ℕ) (w : List ℕ) (c : ℕ) (b : Plan ℕ) : Type 0 where
  pub chain : Linked w (start c ∷ (ports b ++ close c ∷ []))
  pub distinct : Distinct (c ∷ labels b)
  pub below : Below n (c ∷ labels b)

-- the memory has such a block
pub record Leaves (h : HeldPlan) (c : ℕ) : Type 0 where
  pub contents : Plan ℕ
  pub alone : Alone h.kept.outer.0 (held_numbers h) c contents

-- the cells of the list go to the front of the free ones, one after the other
unfoldable pub freed : List ℕ → (free : ℕ) → List ℕ → List ℕ
freed w free [] = w
freed w free (c ∷ cs) = freed (set w (2 * start c + 1) free) c cs

unfoldable pub first_free : (free : ℕ) → List ℕ → ℕ
first_free free [] = free
first_free free (c ∷ cs) = first_free c cs

-- the cells of the list are free in the memory
pub record CellsFreed (h : HeldPlan) (cs : List ℕ) (h' : HeldPlan) : Type 0 where
  -- the start of each keeps the cell that was the first free one before it, and no other number changed
  pub numbers : held_numbers h' ≡ freed (held_numbers h) h.kept.free.0 cs
  -- the last of them is the first free one
  pub frees : h'.kept.free.0 ≡ first_free h.kept.free.0 cs

-- the cells of the block at c are free: its own, then those of its contents in their order
abbrev pub BlockFreed : HeldPlan → (c : ℕ) → HeldPlan → Type 0
BlockFreed h c h' = (b : Plan ℕ) → Alone h.kept.outer.0 (held_numbers h) c b → CellsFreed h (c ∷ labels b) h'
