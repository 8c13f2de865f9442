-- A plan that is whole in the numbers lent, with what is kept beside them: the cell that is not lent, the first port, the first free cell.
-- And where a block stands in such a plan.
use Rattle.std.specs.Prelude.{ℕ, ◌≡◌, ◌⊎◌, List}
use Rattle.plan.specs.Plan.{Plan, end, operator, token, block, bare}
use Rattle.memory.specs.Lent.{Aside}
use Rattle.memory.specs.Memory.{Holds, whole}
use Rattle.memory.specs.declared.HeldPlan.{HeldPlan}

-- the numbers lent, with the link that is kept beside them
abbrev pub held_numbers : HeldPlan → List ℕ
held_numbers h = whole h.kept.outer.0 h.numbers.now h.kept.first.0

-- the cells are the same, and so is what is lent for them; past them the numbers are as they were
pub record SameCells (h h' : HeldPlan) : Type 0 where
  pub outer : h'.kept.outer ≡ h.kept.outer
  pub lent : h'.numbers.ghost_name ≡ h.numbers.ghost_name
  pub aside : Aside h.kept.outer.0 h.numbers.now h'.numbers.now

-- the memory holds the plan t
abbrev pub HeldIn : (text : List ℕ) → HeldPlan → Plan ℕ → Type 0
HeldIn text h t = Holds text h.kept.outer.0 (held_numbers h) h.kept.free.0 t

-- the memory holds the plan, except for its cells
pub record HeldAlike (text : List ℕ) (h : HeldPlan) (p : Plan ℕ) : Type 0 where
  pub plan : Plan ℕ
  pub alike : bare plan ≡ bare p
  pub held : HeldIn text h plan

-- somewhere in the plan t, at any depth, the block at the cell c has the contents b
abbrev pub BlockIn : (c : ℕ) → (b t : Plan ℕ) → Type 0
BlockIn c b end = ⊥
BlockIn c b (operator d o p) = BlockIn c b p
BlockIn c b (token d t p) = BlockIn c b p
BlockIn c b (block d x p) = ((c ≡ d) × (b ≡ x)) ⊎ (BlockIn c b x ⊎ BlockIn c b p)
