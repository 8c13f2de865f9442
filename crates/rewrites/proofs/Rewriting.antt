-- A rewrite, once its operator is out of the plan. For each operator: what its rule finds in the memory, and that
-- what the rule makes of this is the rewrite.
use Prim.Native.Nat.{ℕ, ◌≤◌, ◌<◌}
use mathlib.Core.Path.{◌≡◌, ap, sym, ◌∙◌, subst}
use mathlib.Core.List.{List, ◌∷◌}
use native.Mathlib.Omega.{arith}
use Rattle.rules.specs.Frames.{Frame, lead, plug}
use Rattle.plan.specs.Plan.{Plan, end, operator, block, ◌then◌, bare, cells, labels}
use Rattle.plan.specs.declared.Operator.{Operator}
use Rattle.plan.specs.declared.Operator.TheVariants.{A as op_a, B as op_b, C as op_c, D as op_d}
use Rattle.plan.proofs.Plans.{then_assoc}
use Rattle.memory.specs.Held.{HeldIn, HeldAlike, held_numbers}
use Rattle.memory.specs.Memory.{Below, Holds}
use Rattle.memory.specs.declared.HeldPlan.{HeldPlan}
use Rattle.memory.proofs.Lists.{below_split}
use Rattle.hunt.specs.Hunting.{RuleAt}
use Rattle.ready.specs.declared.Spot.{Spot}
use Rattle.hunt.proofs.Window.{stands_rule}
use Rattle.rewrites.specs.Rules.{DropBlock, OneBlock, Rewrites, RuleA, RuleB, RuleC, RuleD, TwoBlocks, at_end}
use Rattle.splices.specs.Splices.{OperatorOut}
use Rattle.splices.proofs.Chained.{held_after, same-cells}
use Rattle.rewrites.proofs.Gaps.{gap}
use Rattle.rewrites.proofs.Moving.{held_said, said_below}
use Rattle.rewrites.proofs.Ruling.{block_then, operator_out}
use Rattle.rewrites.proofs.Turns.{block_there}

-- the operator and the block before it are of lent cells
module _ (text : List ℕ) (n : ℕ) (w : List ℕ) (free : ℕ) (f : Frame ℕ) (Y : Plan ℕ) (m : ℕ) (A : Plan ℕ) (k : ℕ) (o : Operator) (p : Plan ℕ)
    (h : Holds text n w free (plug f (Y then block m A (operator k o p)))) where
  newer_low : m < n
  newer_low = (block_there text n w free f Y m A (operator k o p) h).below.0

  operator_low : k < n
  unfolding ◌then◌ labels
  operator_low =
      let g = gap n f (Y then block m A end) p in
      let there = subst (λ q. Holds text n w free (plug f q)) (sym (block_then Y m A (operator k o p))) h in
      let all = subst (λ l. Below n l) (g.used (operator k o end)) (said_below (held_said there)).0 in
      (below_split n g.labels_before (k ∷ g.labels_behind) all).1.0

module _ {text : List ℕ} {h : HeldPlan} {spot : Spot} {f : Frame ℕ} {q q' : Plan ℕ} (r : Rewrites text h spot f q q') where
  abbrev X : Plan ℕ
  X = r.stands.front

  abbrev p : Plan ℕ
  p = r.stands.behind

  -- the items before the block right before the operator
  before : {o : Operator} → RuleAt spot o X p q q' → Plan ℕ
  before {o} k = X then lead o spot.older.0 k.older

  here : {o : Operator} (k : RuleAt spot o X p q q') → HeldIn text h (plug f (before k then block spot.newer.0 k.newer (operator spot.operator.0 o p)))
  unfolding before
  here k = subst (λ x. HeldIn text h (plug f x)) (k.is ∙ sym (then_assoc X _ _)) r.held

  pub newer_lent : spot.newer.0 < h.kept.outer.0
  newer_lent =
      let k = r.stands.rule in
      newer_low text h.kept.outer.0 (held_numbers h) h.kept.free.0 f (before k) spot.newer.0 k.newer spot.operator.0 spot.which p (here k)

  pub operator_lent : spot.operator.0 < h.kept.outer.0
  operator_lent =
      let k = r.stands.rule in
      operator_low text h.kept.outer.0 (held_numbers h) h.kept.free.0 f (before k) spot.newer.0 k.newer spot.operator.0 spot.which p (here k)

  -- once the operator is out, what its rule asks for is there, and what the rule makes of it is the rewrite
  module _ {h₁ : HeldPlan} (s : OperatorOut h h₁ spot.newer.0 spot.operator.0) where
    out : {o : Operator} (k : RuleAt spot o X p q q') → HeldIn text h₁ (plug f (X then (lead o spot.older.0 k.older then block spot.newer.0 k.newer p)))
    unfolding before
    out {o} k =
        subst (λ x. HeldIn text h₁ (plug f x)) (then_assoc X _ _)
        (held_after s (operator_out h.kept.outer.0 f (before k) spot.newer.0 k.newer spot.operator.0 o p (here k)))

    still : spot.before.0 ≡ at_end h₁.kept.outer.0 f X
    still = r.stands.before ∙ ap (λ n. at_end n f X) (sym (same-cells s))

    room : {x : Plan ℕ} → q' ≡ x → cells (plug f x) ≤ h₁.kept.outer.0
    room gives = subst (λ x. cells (plug f x) ≤ h₁.kept.outer.0) gives (let fits = r.room in let e = same-cells s in omega arith)

    finds_two : (B A : Plan ℕ) → HeldIn text h₁ (plug f (X then block spot.older.0 B (block spot.newer.0 A p)))
        → TwoBlocks h₁ spot.before.0 spot.older.0 spot.newer.0
    finds_two B A held =
        record { text = text; frame = f; front = X; first = B; second = A; behind = p; at = still; held = held }

    pub finds_a : spot.which ≡ op_a → TwoBlocks h₁ spot.before.0 spot.older.0 spot.newer.0
    unfolding ◌then◌
    finds_a is = let k = stands_rule r.stands is in finds_two k.older k.newer (out k)

    pub finds_b : spot.which ≡ op_b → TwoBlocks h₁ spot.before.0 spot.older.0 spot.newer.0
    unfolding ◌then◌
    finds_b is = let k = stands_rule r.stands is in finds_two k.older k.newer (out k)

    pub finds_c : spot.which ≡ op_c → OneBlock text h₁ spot.newer.0
    unfolding ◌then◌
    finds_c is =
        let k = stands_rule r.stands is in
        record { frame = f; front = X; contents = k.newer; behind = p; held = out k; room = room k.gives }

    pub finds_d : spot.which ≡ op_d → DropBlock h₁ spot.before.0 spot.newer.0
    unfolding ◌then◌
    finds_d is =
        let k = stands_rule r.stands is in
        record { text = text; frame = f; front = X; contents = k.newer; behind = p; at = still; held = out k }

    module _ {h' : HeldPlan} where
      exactly : {x : Plan ℕ} → q' ≡ x → HeldIn text h' (plug f x) → HeldAlike text h' (plug f q')
      exactly {x} e held = record { plan = plug f x; alike = ap (λ y. bare (plug f y)) (sym e); held = held }

      pub makes_a : spot.which ≡ op_a → RuleA h₁ h' spot.before.0 spot.older.0 spot.newer.0 → HeldAlike text h' (plug f q')
      unfolding ◌then◌
      makes_a is made = let k = stands_rule r.stands is in exactly k.gives (made text f X k.older k.newer p still (out k))

      pub makes_b : spot.which ≡ op_b → RuleB h₁ h' spot.before.0 spot.older.0 spot.newer.0 → HeldAlike text h' (plug f q')
      unfolding ◌then◌
      makes_b is made = let k = stands_rule r.stands is in exactly k.gives (made text f X k.older k.newer p still (out k))

      pub makes_c : spot.which ≡ op_c → RuleC text h₁ h' spot.newer.0 → HeldAlike text h' (plug f q')
      unfolding ◌then◌
      makes_c is made =
          let k = stands_rule r.stands is in
          subst (λ x. HeldAlike text h' (plug f x)) (sym k.gives) (made f X k.newer p (out k) (room k.gives))

      pub makes_d : spot.which ≡ op_d → RuleD h₁ h' spot.before.0 spot.newer.0 → HeldAlike text h' (plug f q')
      unfolding ◌then◌
      makes_d is made = let k = stands_rule r.stands is in exactly k.gives (made text f X k.newer p still (out k))
