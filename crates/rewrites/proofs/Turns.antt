-- The rules with the memory and what is kept beside it: what each function asks for is there, and what its splices leave is
-- what the rule says, of every plan that the memory held.
use Prim.Native.Nat.{ℕ, ◌+◌, ◌≤◌, ◌<◌}
use mathlib.Core.Path.{◌≡◌, ap, ap₂, sym, ◌∙◌, subst, subst₂}
use mathlib.Core.List.{List, ◌∷◌, ◌++◌}
use native.Mathlib.Omega.{arith}
use Rattle.kinds.specs.Limits.{cell_limit}
use Rattle.rules.specs.Frames.{Frame, within, plug}
use Rattle.plan.specs.Plan.{Plan, end, block, ◌then◌, cells, labels}
use Rattle.rules.proofs.Frames.{cells-plug}
use Rattle.plan.proofs.Plans.{cells-then, then_end}
use Rattle.memory.specs.Held.{HeldIn, SameCells, held_numbers}
use Rattle.memory.specs.Memory.{start, close, ports, Holds, last_of}
use Rattle.memory.specs.declared.HeldPlan.{HeldPlan}
use Rattle.memory.proofs.Lists.{below_split}
use Rattle.memory.proofs.Steps.{cells_same}
use Rattle.blocks.specs.Blocks.{Alone, BlockFreed, Leaves, first_free, freed}
use Rattle.blocks.proofs.LinkedBlock.{block_alone}
use Rattle.copier.specs.Copying.{Copies, Copyable, CopyMade}
use Rattle.rewrites.specs.Rules.{DropBlock, OneBlock, RuleA, RuleB, RuleC, RuleD, TwoBlocks, at_end}
use Rattle.splices.specs.Splices.{BlockOpened, Spliced, cut, moved, put_in, unwrapped}
use Rattle.splices.proofs.Chained.{held_after, same-cells, splice_on}
use Rattle.rewrites.proofs.Moving.{end_low, held_said}
use Rattle.rewrites.proofs.Ruling.{applied, block_then, doubled, dropped, enclosed, out_alone, there}

-- a block of a plan that is held is linked in itself
pub block_there : (text : List ℕ) (n : ℕ) (w : List ℕ) (free : ℕ) (f : Frame ℕ) (X : Plan ℕ) (m : ℕ) (A p : Plan ℕ) → Holds text n w free (plug f (X then block m A p)) → Alone n w m A
block_there text n w free f X m A p h = block_alone h (there n f X m A p)

-- two blocks

newer_there : (text : List ℕ) (n : ℕ) (w : List ℕ) (free : ℕ) (f : Frame ℕ) (X : Plan ℕ) (l : ℕ) (B : Plan ℕ) (m : ℕ) (A p : Plan ℕ)
    → Holds text n w free (plug f (X then block l B (block m A p))) → Alone n w m A
newer_there text n w free f X l B m A p h =
    block_there text n w free f (X then block l B end) m A p (subst (λ q. Holds text n w free (plug f q)) (sym (block_then X l B (block m A p))) h)

module _ {h : HeldPlan} {before older newer : ℕ} (k : TwoBlocks h before older newer) where
  second_alone : Alone h.kept.outer.0 (held_numbers h) newer k.second
  second_alone = newer_there _ _ _ _ k.frame k.front older k.first newer k.second k.behind k.held

  pub two_leaves : Leaves h newer
  two_leaves = record { contents = k.second; alone = second_alone }

  pub two_before : before ≤ start h.kept.outer.0
  two_before = rw k.at (end_low _ _ _ _ k.frame k.front _ _ (held_said k.held))

  pub two-older : older < h.kept.outer.0
  two-older = (block_there _ _ _ _ k.frame k.front older k.first (block newer k.second k.behind) k.held).below.0

  pub two_newer : newer < h.kept.outer.0
  two_newer = second_alone.below.0

  pub two-small : older ≤ cell_limit
  two-small = omega (arith, two-older, h.lent.few)

  pub newer_small : newer ≤ cell_limit
  newer_small = omega (arith, two_newer, h.lent.few)

  -- the last port inside the newer block
  pub two-last : (last : ℕ) → ((b : Plan ℕ) → Alone h.kept.outer.0 (held_numbers h) newer b → last ≡ last_of (start newer) (ports b)) → last ≤ start h.kept.outer.0
  unfolding plug
  two-last last ends =
      let inside = within (k.front then block older k.first end) newer k.frame k.behind in
      let there_too : HeldIn k.text h (plug inside (k.second then end)) =
      subst (λ q. HeldIn k.text h (plug k.frame q)) (sym (block_then k.front older k.first _))
      (subst (λ q. HeldIn k.text h (plug k.frame (k.front then block older k.first (block newer q k.behind)))) (sym (then_end k.second)) k.held) in
      rw (ends k.second second_alone) (end_low _ _ _ _ inside k.second end _ (held_said there_too))

module _ {h : HeldPlan} {h' : HeldPlan} (before older newer : ℕ) where
  pub rule_b-holds : (port : ℕ) → port ≡ start newer → Spliced h h' (moved (held_numbers h) before older port) h.kept.free.0 → RuleB h h' before older newer
  rule_b-holds port e s text f X B A p at held =
      held_after s (subst₂ (λ x y. Holds text h.kept.outer.0 (moved (held_numbers h) x older y) h.kept.free.0 (plug f (X then block newer (block older B A) p)))
      (sym at) (sym e) (enclosed h.kept.outer.0 f X older B newer A p held))

  pub rule_a_holds : {h₁ : HeldPlan} (last tail : ℕ)
      → ((b : Plan ℕ) → Alone h.kept.outer.0 (held_numbers h) newer b → last ≡ last_of (start newer) (ports b)) → tail ≡ close older
      → Spliced h h₁ (moved (held_numbers h) before older last) h.kept.free.0
      → BlockOpened h₁ h' before newer tail → RuleA h h' before older newer
  rule_a_holds {h₁} last tail ends e s u text f X B A p at held =
      let both = splice_on s (λ w f. unwrapped w f before newer tail) (λ f. newer) u in
      let w = held_numbers h in
      let n = h.kept.outer.0 in
      let is_last = ends A (newer_there text n w h.kept.free.0 f X older B newer A p held) in
      held_after both
      (rw (at, is_last, e) (applied n f X older B newer A p held))

-- one block

module _ {text : List ℕ} {h : HeldPlan} {newer : ℕ} (k : OneBlock text h newer) where
  -- the copy finds room, since the operator's cell is free already
  copy_room : (f : Frame ℕ) (X A p : Plan ℕ) → cells (plug f (X then block newer A (block newer A p))) ≤ h.kept.outer.0
      → cells (plug f (X then block newer A p)) + (1 + cells A) ≤ h.kept.outer.0
  unfolding cells
  copy_room f X A p room =
      let q = X then block newer A p in
      let q' = X then block newer A (block newer A p) in
      omega (arith, cells-plug f q q', cells-then X (block newer A p), cells-then X (block newer A (block newer A p)))

  copies : (f : Frame ℕ) (X A p : Plan ℕ) → HeldIn text h (plug f (X then block newer A p)) → cells (plug f (X then block newer A (block newer A p))) ≤ h.kept.outer.0
      → Copies text h newer (plug f (X then block newer A p)) A
  copies f X A p held room = record { held = held; found = there h.kept.outer.0 f X newer A p; room = copy_room f X A p room }

  pub one_copyable : Copyable text h newer
  one_copyable =
      record {
        plan = plug k.frame (k.front then block newer k.contents k.behind);
        contents = k.contents;
        copies = copies k.frame k.front k.contents k.behind k.held k.room;
      }

  pub one_low : newer < h.kept.outer.0
  one_low = (block_there _ _ _ _ k.frame k.front newer k.contents k.behind k.held).below.0

  pub one-small : newer ≤ cell_limit
  one-small = omega (arith, one_low, h.lent.few)

  -- the copy as it was made
  module _ (h₁ : HeldPlan) (copy : ℕ) (made : (t b : Plan ℕ) → Copies text h newer t b → CopyMade text h₁ copy t b) where
    pub copy_low : copy < h₁.kept.outer.0
    copy_low =
        let n = h₁.kept.outer.0 in
        let t = labels (plug k.frame (k.front then block newer k.contents k.behind)) in
        let c = made _ _ (copies k.frame k.front k.contents k.behind k.held k.room) in
        let s = c.shared in
        (below_split n t (copy ∷ labels c.contents) (below_split n (t ++ copy ∷ labels c.contents) s.spare s.below).0).1.0

    pub copy_small : copy ≤ cell_limit
    copy_small = omega (arith, copy_low, h₁.lent.few)

    pub copied_after : SameCells h h₁ → (port : ℕ) → port ≡ close newer → port ≤ start h₁.kept.outer.0
    copied_after same port e = omega (arith, one_low, cells_same same)

    pub rule_c_holds : {h' : HeldPlan} (after head tail : ℕ) → after ≡ close newer → head ≡ start copy → tail ≡ close copy
        → Spliced h₁ h' (put_in (held_numbers h₁) after head tail) h₁.kept.free.0 → RuleC text h h' newer
    rule_c_holds after head tail a b c s f X A p held room =
        let two = doubled h₁.kept.outer.0 f X newer A p (made _ _ (copies f X A p held room)) in
        record { plan = two.plan; alike = two.alike; held = held_after s (rw (a, b, c) two.held) }

module _ {h : HeldPlan} {before newer : ℕ} (k : DropBlock h before newer) where
  pub drop_before : before ≤ start h.kept.outer.0
  drop_before = rw k.at (end_low _ _ _ _ k.frame k.front _ _ (held_said k.held))

  pub drop_low : newer < h.kept.outer.0
  drop_low = (block_there _ _ _ _ k.frame k.front newer k.contents k.behind k.held).below.0

  pub drop-small : newer ≤ cell_limit
  drop-small = omega (arith, drop_low, h.lent.few)

-- the block once it is out of the plan
module _ {h : HeldPlan} (before newer tail : ℕ) {h₁ : HeldPlan} (e : tail ≡ close newer)
    (s : Spliced h h₁ (cut (held_numbers h) before tail) h.kept.free.0) where
  out-there : (text : List ℕ) (f : Frame ℕ) (X A p : Plan ℕ) → before ≡ at_end h.kept.outer.0 f X → HeldIn text h (plug f (X then block newer A p))
      → Alone h₁.kept.outer.0 (held_numbers h₁) newer A
  out-there text f X A p at held =
      subst (λ v. Alone h₁.kept.outer.0 v newer A) (sym s.numbers)
      (rw (same-cells s, e, at) (out_alone h.kept.outer.0 f X newer A p held))

  pub drop_leaves : DropBlock h before newer → Leaves h₁ newer
  drop_leaves k = record { contents = k.contents; alone = out-there k.text k.frame k.front k.contents k.behind k.at k.held }

  pub rule_d_holds : {h' : HeldPlan} → BlockFreed h₁ newer h' → SameCells h₁ h' → RuleD h h' before newer
  rule_d_holds {h'} frees same text f X A p at held =
      let done = frees A (out-there text f X A p at held) in
      let cs = newer ∷ labels A in
      let w = held_numbers h in
      let is_cut : held_numbers h₁ ≡ cut w (at_end h.kept.outer.0 f X) (close newer) = s.numbers ∙ ap₂ (cut w) at e in
      subst₂ (λ v x. Holds text h'.kept.outer.0 v x (plug f (X then p)))
      (sym (done.numbers ∙ ap₂ (λ v y. freed v y cs) is_cut s.free)) (sym (done.frees ∙ ap (λ y. first_free y cs) s.free))
      (rw (cells_same same, same-cells s) (dropped h.kept.outer.0 f X newer A p held))
