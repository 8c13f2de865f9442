-- Which operators of a sequence are ready, by their number in it: document 01, "An operator is ready when ..". Items are counted from 0.
-- The order's `outer` finds a ready operator by its blocks. Here the items just before each operator tell whether it is ready. So "the
-- leftmost of those" can be said in the document's own words.
use Rattle.std.specs.Prelude.{ℕ, zero, suc, ◌+◌, ◌<◌, ◌≤◌, ◌≡◌}
use Rattle.rules.specs.Frames.{Rule}
use Rattle.plan.specs.declared.Operator.{Operator}
use Rattle.plan.specs.declared.Operator.TheVariants.{A as op_a, B as op_b, C as op_c, D as op_d}
use Rattle.plan.specs.Plan.{Plan, end, operator, token, block}

-- the blocks that an operator takes: two for a and b, one for c and d
abbrev pub takes : Operator → ℕ
takes op_a = 2
takes op_b = 2
takes op_c = 1
takes op_d = 1

-- item number i is a ready operator, where so many blocks come right before the first item
abbrev pub ReadyBehind : {L : Type 0} → (blocks : ℕ) → Plan L → (i : ℕ) → Type 0
ReadyBehind blocks end i = ⊥
ReadyBehind blocks (operator l o p) zero = takes o ≤ blocks
ReadyBehind blocks (operator l o p) (suc i) = ReadyBehind 0 p i
ReadyBehind blocks (token l t p) zero = ⊥
ReadyBehind blocks (token l t p) (suc i) = ReadyBehind 0 p i
ReadyBehind blocks (block l b p) zero = ⊥
ReadyBehind blocks (block l b p) (suc i) = ReadyBehind (suc blocks) p i

abbrev pub ReadyAt : {L : Type 0} → Plan L → (i : ℕ) → Type 0
ReadyAt p i = ReadyBehind 0 p i

-- how many items a sequence has
unfoldable pub items : {L : Type 0} → Plan L → ℕ
items end = 0
items (operator l o p) = suc (items p)
items (token l t p) = suc (items p)
items (block l b p) = suc (items p)

-- q is p with the operator that is item number i rewritten by its rule, and nothing else changed
pub record RewrittenAt {L : Type 0} (p : Plan L) (i : ℕ) (q : Plan L) : Type 0 where
  pub which : Operator
  pub label_B : L
  pub label_A : L
  pub label : L
  pub before : Plan L
  pub behind : Plan L
  pub rule : Rule which label_B label_A label before behind p q
  pub number : i ≡ items before + takes which

-- .. and that operator is the leftmost ready one of the sequence
pub record LeftmostRewritten {L : Type 0} (p q : Plan L) : Type 0 where
  pub number : ℕ
  pub ready : ReadyAt p number
  pub leftmost : (j : ℕ) → j < number → ReadyAt p j → ⊥
  pub rewritten : RewrittenAt p number q
