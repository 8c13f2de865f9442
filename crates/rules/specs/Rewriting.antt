-- The four rewrites and their order: document 01, "The four rewrites and their order".
use Rattle.std.specs.Prelude.{Bool, List, ℕ}
use Rattle.std.specs.Prelude.{Option, None, Some}
use Rattle.plan.specs.Options.{◌else◌, is_none, under}
use Rattle.plan.specs.declared.Operator.{Operator}
use Rattle.plan.specs.declared.Operator.TheVariants.{A as op_a, B as op_b, C as op_c, D as op_d}
use Rattle.plan.specs.Plan.{Plan, end, operator, token, block, ◌then◌}

-- `p ⟶ q`: q is p with one ready operator, anywhere in p, rewritten. A copy keeps its labels; after b the outer block
-- has A's label and the inner B's.
infix 20 ◌⟶◌
pub data ◌⟶◌ {L : Type 0} : Plan L → Plan L → Type 0 where
  rule_a : {l m n : L} {B A p : Plan L} → block l B (block m A (operator n op_a p)) ⟶ (A then block l B p)
  rule_b : {l m n : L} {B A p : Plan L} → block l B (block m A (operator n op_b p)) ⟶ block m (block l B A) p
  rule_c : {l n : L} {A p : Plan L} → block l A (operator n op_c p) ⟶ block l A (block l A p)
  rule_d : {l n : L} {A p : Plan L} → block l A (operator n op_d p) ⟶ p
  past_operator : {l : L} {o : Operator} {p q : Plan L} → p ⟶ q → operator l o p ⟶ operator l o q
  past_token : {l : L} {t : List ℕ} {p q : Plan L} → p ⟶ q → token l t p ⟶ token l t q
  past_block : {l : L} {A p q : Plan L} → p ⟶ q → block l A p ⟶ block l A q
  in_block : {l : L} {A B p : Plan L} → A ⟶ B → block l A p ⟶ block l B p

-- the rewrite of the operator that comes right after the blocks [B] and [A]
unfoldable pub after_two : {L : Type 0} → L → Plan L → L → Plan L → Plan L → Option (Plan L)
after_two l B m A end = None
after_two l B m A (operator n op_a p) = Some (A then block l B p)
after_two l B m A (operator n op_b p) = Some (block m (block l B A) p)
after_two l B m A (operator n op_c p) = None
after_two l B m A (operator n op_d p) = None
after_two l B m A (token n t p) = None
after_two l B m A (block n C p) = None

-- the rewrite of a ready operator whose first block is [A], with p after it
unfoldable pub first_block : {L : Type 0} → L → Plan L → Plan L → Option (Plan L)
first_block l A end = None
first_block l A (operator n op_a p) = None
first_block l A (operator n op_b p) = None
first_block l A (operator n op_c p) = Some (block l A (block l A p))
first_block l A (operator n op_d p) = Some p
first_block l A (token n t p) = None
first_block l A (block m B p) = after_two l A m B p

-- The leftmost ready operator of the sequence itself, rewritten. One whose first block is the first item stands left of
-- every other that is ready.
unfoldable pub leftmost : {L : Type 0} → Plan L → Option (Plan L)
leftmost end = None
leftmost (operator l o p) = under (operator l o) (leftmost p)
leftmost (token l t p) = under (token l t) (leftmost p)
leftmost (block l A p) = first_block l A p else under (block l A) (leftmost p)

-- the same rule used inside the first block that has a ready operator at any depth
unfoldable pub inner : {L : Type 0} → Plan L → Option (Plan L)
inner end = None
inner (operator l o p) = under (operator l o) (inner p)
inner (token l t p) = under (token l t) (inner p)
inner (block l A p) = under (λ B. block l B p) (leftmost A else inner A) else under (block l A) (inner p)

-- the next rewrite
unfoldable pub next : {L : Type 0} → Plan L → Option (Plan L)
next p = leftmost p else inner p

-- "A plan with no ready operator at any depth is finished."
unfoldable pub finished : {L : Type 0} → Plan L → Bool
finished p = is_none (next p)
