-- A block of a plan: its ports and its labels stand in a row among the plan's, its contents are said with the plan, and its cell is
-- one of the plan's. Whoever walks over a block or copies one has its place in the plan from here.
use Prim.Native.Nat.{ℕ}
use mathlib.Core.Path.{◌≡◌, refl, sym, ◌∙◌, subst}
use mathlib.Core.Logic.{inl, inr}
use mathlib.Core.List.{List, [], ◌∷◌, ◌++◌, append_assoc}
use Rattle.plan.specs.Plan.{Plan, end, operator, token, block, labels}
use Rattle.memory.specs.Held.{BlockIn}
use Rattle.memory.specs.Memory.{start, close, ports, Says, Absent}
use Rattle.memory.proofs.Lists.{absent_split}

-- us stands in a row somewhere in the list
record Stretch (us l : List ℕ) : Type 0 where
  before : List ℕ
  behind : List ℕ
  parts : l ≡ before ++ (us ++ behind)

run_behind : {us l : List ℕ} (zs : List ℕ) → Stretch us l → Stretch us (zs ++ l)
run_behind zs r = record { before = zs ++ r.before; behind = r.behind; parts = rw (r.parts, append_assoc) }

run_before : {us l : List ℕ} (zs : List ℕ) → Stretch us l → Stretch us (l ++ zs)
run_before zs r = record { before = r.before; behind = r.behind ++ zs; parts = rw r.parts (simp append_assoc) }

block_run : (c : ℕ) (b t : Plan ℕ) → BlockIn c b t → Stretch (start c ∷ (ports b ++ close c ∷ [])) (ports t) × Stretch (c ∷ labels b) (labels t)
unfolding ports labels
block_run c b end h = absurd h
block_run c b (operator d o p) h =
    let r = block_run c b p h in
    (run_behind (start d ∷ []) r.0, run_behind (d ∷ []) r.1)
block_run c b (token d t p) h =
    let r = block_run c b p h in
    (run_behind (start d ∷ []) r.0, run_behind (d ∷ []) r.1)
block_run c b (block d x p) (inl e) =
    rw (e.0, e.1) (
      record { before = []; behind = ports p; parts = simp append_assoc },
      record { before = []; behind = labels p; parts = refl },
    )
block_run c b (block d x p) (inr (inl h)) =
    let r = block_run c b x h in
    (run_behind (start d ∷ []) (run_before (close d ∷ ports p) r.0), run_behind (d ∷ []) (run_before (labels p) r.1))
block_run c b (block d x p) (inr (inr h)) =
    let r = block_run c b p h in
    (run_behind (start d ∷ ports x) (run_behind (close d ∷ []) r.0), run_behind (d ∷ labels x) r.1)

pub block_ports : (c : ℕ) (b t : Plan ℕ) → BlockIn c b t
    → (xs : List ℕ) × (ys : List ℕ) × (ports t ≡ xs ++ start c ∷ (ports b ++ close c ∷ ys))
block_ports c b t h =
    let r = (block_run c b t h).0 in
    (r.before, r.behind, r.parts ∙ simp append_assoc)

pub block_labels : (c : ℕ) (b t : Plan ℕ) → BlockIn c b t
    → (us : List ℕ) × (vs : List ℕ) × (labels t ≡ us ++ c ∷ (labels b ++ vs))
block_labels c b t h =
    let r = (block_run c b t h).1 in
    (r.before, r.behind, r.parts)

-- the contents are said with the plan
pub block_said : (text w : List ℕ) (c : ℕ) (b t : Plan ℕ) → BlockIn c b t → Says text w t → Says text w b
block_said text w c b end h k = absurd h
block_said text w c b (operator d o p) h k = block_said text w c b p h k.1
block_said text w c b (token d u p) h k = block_said text w c b p h k.2
block_said text w c b (block d q p) (inl h) k = subst (Says text w) (sym h.1) k.1
block_said text w c b (block d q p) (inr (inl h)) k = block_said text w c b q h k.1
block_said text w c b (block d q p) (inr (inr h)) k = block_said text w c b p h k.2

-- the block's cell is one of the plan's
pub block_used : (c : ℕ) (b t : Plan ℕ) → BlockIn c b t → ¬ Absent c (labels t)
block_used c b t found h =
    let (us, vs, splits) = block_labels c b t found in
    (absent_split c us (c ∷ (labels b ++ vs)) (subst (Absent c) splits h)).1.0 refl
