-- A block of a plan that the memory holds is linked in itself. Its ports come in a row among the plan's ports, and these are linked.
use Prim.Native.Nat.{ℕ}
use mathlib.Core.Path.{◌≡◌, ap, ◌∙◌, subst}
use mathlib.Core.List.{List, [], ◌∷◌, ◌++◌, append_assoc}
use Rattle.plan.specs.Plan.{Plan, labels}
use Rattle.memory.specs.Held.{BlockIn}
use Rattle.memory.specs.Memory.{start, close, ports, Linked, Below, Distinct, Holds}
use Rattle.memory.proofs.Lists.{below_split, distinct_split, linked_split}
use Rattle.memory.proofs.BlockInPlan.{block_labels, block_ports}
use Rattle.blocks.specs.Blocks.{Alone}

pub block_alone : {text : List ℕ} {n : ℕ} {w : List ℕ} {free c : ℕ} {b t : Plan ℕ} → Holds text n w free t → BlockIn c b t → Alone n w c b
block_alone {text} {n} {w} {free} {c} {b} {t} h i =
    let p = block_ports c b t i in
    let l = block_labels c b t i in
    let whole_chain : start n ∷ (ports t ++ close n ∷ []) ≡ (start n ∷ p.0) ++ start c ∷ (ports b ++ close c ∷ (p.1 ++ close n ∷ [])) =
    ap (λ l. start n ∷ (l ++ close n ∷ [])) p.2 ∙ simp append_assoc in
    let onward = (linked_split w (start n ∷ p.0) (start c) (ports b ++ close c ∷ (p.1 ++ close n ∷ [])) (subst (Linked w) whole_chain h.chain)).1 in
    let low = (below_split n l.0 (c ∷ (labels b ++ l.1)) (subst (Below n) l.2 (below_split n (labels t) h.shared.spare h.shared.below).0)).1 in
    let each = (distinct_split l.0 (c ∷ (labels b ++ l.1)) (subst Distinct l.2 (distinct_split (labels t) h.shared.spare h.shared.distinct).0)).1 in
    record {
      chain = (linked_split w (start c ∷ ports b) (close c) (p.1 ++ close n ∷ []) onward).0;
      distinct = (distinct_split (c ∷ labels b) l.1 each).0;
      below = (below_split n (c ∷ labels b) l.1 low).0;
    }
