-- How many cells a rewrite makes more or fewer, by the operator: document 01's table, inside any plan. And a plan that is
-- held has no more cells than are lent.
use Prim.Native.Nat.{ℕ, ◌+◌, ◌*◌, ◌≤◌}
use mathlib.Core.Path.{◌≡◌, refl, ap, sym, ◌∙◌, subst}
use mathlib.Core.Logic.{inl}
use mathlib.Core.List.{List}
use native.Mathlib.Omega.{arith}
use lib.ListN.{length-append}
use Rattle.kinds.specs.Limits.{cell_limit}
use Rattle.rules.specs.Frames.{Frame, lead, plug}
use Rattle.plan.specs.Plan.{Plan, end, operator, block, ◌then◌, cells, labels}
use Rattle.plan.specs.declared.Operator.{Operator}
use Rattle.plan.specs.declared.Operator.TheVariants.{A as op_a, B as op_b, C as op_c, D as op_d}
use Rattle.rules.proofs.Frames.{cells-plug}
use Rattle.plan.proofs.Plans.{cells-then, length-labels, then_assoc}
use Rattle.rules.proofs.Rewrites.{cells_a, cells-b, cells_c, cells_d}
use Rattle.memory.specs.Held.{BlockIn, HeldIn}
use Rattle.memory.specs.declared.HeldPlan.{HeldPlan}
use Rattle.blocks.specs.Blocks.{HasBlock}
use Rattle.hunt.specs.Hunting.{RuleAt}
use Rattle.ready.specs.declared.Spot.{Spot}
use Rattle.hunt.proofs.Window.{stands_rule}
use Rattle.rewrites.proofs.Gaps.{gap_block}
use Rattle.engine.specs.Running.{Countable, Spotted}

held_cells : (text : List ℕ) (h : HeldPlan) (t : Plan ℕ) → HeldIn text h t → cells t ≤ h.kept.outer.0
held_cells text h t k = omega (arith, length-labels t, length-append (labels t) k.shared.spare, k.shared.all)

module _ {text : List ℕ} {h : HeldPlan} {spot : Spot} {size : ℕ} {f : Frame ℕ} {q q' : Plan ℕ} (k : Spotted text h spot size f q q') where
  abbrev X : Plan ℕ
  X = k.stands.front

  abbrev p : Plan ℕ
  p = k.stands.behind

  change : (x y : Plan ℕ) → q ≡ X then x → q' ≡ X then y → cells (plug f q') + cells x ≡ size + cells y
  change x y is gives =
      omega (arith, k.sized, cells-plug f q q', ap cells is, cells-then X x, ap cells gives, cells-then X y)

  pub size_a : spot.which ≡ op_a → size ≡ cells (plug f q') + 2
  unfolding ◌then◌
  size_a is =
      let r = stands_rule k.stands is in
      omega (arith, change _ _ r.is r.gives, cells_a spot.older.0 spot.newer.0 spot.operator.0 r.older r.newer p)

  pub size-b : spot.which ≡ op_b → size ≡ cells (plug f q') + 1
  unfolding ◌then◌
  size-b is =
      let r = stands_rule k.stands is in
      omega (arith, change _ _ r.is r.gives, cells-b spot.older.0 spot.newer.0 spot.operator.0 r.older r.newer p)

  -- the block right before the operator, and the count of its cells, as `block_cells` makes it
  inside : {o : Operator} (r : RuleAt spot o X p q q') → BlockIn spot.newer.0 r.newer (plug f q)
  inside r =
      subst (λ z. BlockIn spot.newer.0 r.newer (plug f z)) (then_assoc X _ _ ∙ sym r.is)
      (gap_block spot.newer.0 r.newer f _ _ (inl (refl, refl)))

  module _ (count : ℕ) (counts : (t b : Plan ℕ) → HeldIn text h t → BlockIn spot.newer.0 b t → count ≡ cells b) where
    exact : {o : Operator} (r : RuleAt spot o X p q q') → count ≡ cells r.newer
    exact r = counts (plug f q) r.newer k.held (inside r)

    pub size_c : spot.which ≡ op_c → size + count ≡ cells (plug f q')
    unfolding ◌then◌
    size_c is =
        let r = stands_rule k.stands is in
        omega (arith, exact r, change _ _ r.is r.gives, cells_c spot.newer.0 spot.operator.0 r.newer p)

    pub size_d : spot.which ≡ op_d → size ≡ cells (plug f q') + count + 2
    unfolding ◌then◌
    size_d is =
        let r = stands_rule k.stands is in
        omega (arith, exact r, change _ _ r.is r.gives, cells_d spot.newer.0 spot.operator.0 r.newer p)

    count_less : count ≤ size
    unfolding cells
    count_less =
        let r = k.stands.rule in
        let b = block spot.newer.0 r.newer (operator spot.operator.0 spot.which p) in
        let before = lead spot.which spot.older.0 r.older in
        omega (arith, exact r, k.sized, cells-plug f q end, ap cells r.is, cells-then X (before then b), cells-then before b)

-- what `size_after` asks for
module _ {text : List ℕ} {h : HeldPlan} {spot : Spot} {size : ℕ} (k : Countable text h spot size) where
  pub two_fewer : spot.which ≡ op_a → 2 ≤ size
  two_fewer is = omega (arith, size_a k.spotted is)

  pub one_fewer : spot.which ≡ op_b → 1 ≤ size
  one_fewer is = omega (arith, size-b k.spotted is)

  pub has_block : HasBlock text h spot.newer.0
  has_block =
      let r = k.spotted.stands.rule in
      record { plan = plug k.frame k.before; contents = r.newer; held = k.spotted.held; inside = inside k.spotted r }

  module _ (count : ℕ) (counts : (t b : Plan ℕ) → HeldIn text h t → BlockIn spot.newer.0 b t → count ≡ cells b) where
    pub count_fewer : spot.which ≡ op_d → count + 2 ≤ size
    count_fewer is = omega (arith, size_d k.spotted count counts is)

    pub count_more : size + count ≤ 2 * cell_limit
    count_more =
        let few = held_cells text h (plug k.frame k.before) k.spotted.held in
        omega (arith, count_less k.spotted count counts, k.spotted.sized, few, h.lent.few)
