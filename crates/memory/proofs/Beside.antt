-- What the builder's steps leave as it is: every number of cell number n and of the cells in use elsewhere, except the link of the root's
-- start. So a plan in those cells is said and linked as before, whatever is built beside it.
use Prim.Native.Nat.{ℕ, ◌+◌, ◌*◌, ◌/◌, ◌<◌}
use mathlib.Core.Path.{◌≡◌, refl, sym, ◌∙◌, subst, subst₂}
use mathlib.Core.Logic.{◌≢◌}
use mathlib.Core.List.{List, [], ◌∷◌, ◌++◌}
use native.Mathlib.Omega.{arith}
use lib.ListN.{get_or, set}
use lib.Seq.{get_or-set_other}
use Rattle.kinds.specs.Limits.{cell_numbers}
use Rattle.plan.specs.Plan.{Plan, end, operator, token, block, labels}
use Rattle.plan.specs.Reading.{Around}
use Rattle.plan.specs.Pieces.{seen}
use Rattle.pieces.specs.Written.{TokenAt}
use Rattle.memory.specs.Memory.{start, close, link, token_kind, block_kind, Linked, Says, Absent, Building}
use Rattle.memory.proofs.Building.{all_distinct, free_apart, tail_built}
use Rattle.memory.proofs.Lists.{absent_split, not_before}

abbrev pub Kept : (n root : ℕ) → (others w v : List ℕ) → Type 0
Kept n root others w v = (i : ℕ) → ¬ Absent (i / cell_numbers) (n ∷ others) → i ≢ 2 * start root + 1 → get_or v i 0 ≡ get_or w i 0

module _ {text : List ℕ} {n : ℕ} {w : List ℕ} {root : ℕ} {others : List ℕ} {tail opened free : ℕ} {out : Around} {here : Plan ℕ}
    (b : Building text n w root others tail opened free out here) where
  not-tail : (i : ℕ) → ¬ Absent (i / cell_numbers) (n ∷ others) → i ≢ 2 * start root + 1 → i ≢ 2 * tail + 1
  not-tail i m o e =
      let built = tail_built b (λ z. o (omega arith)) in
      let behind : ¬ Absent (tail / 2) (seen out here ++ b.shared.spare) = λ h. built (absent_split (tail / 2) (seen out here) b.shared.spare h).0 in
      m (subst (λ c. Absent c (n ∷ others)) (omega arith)
      (not_before (tail / 2) (n ∷ others) (seen out here ++ b.shared.spare) (all_distinct b) behind))

  -- the tail linked on, as where a block is closed or the sequence ends
  pub link-kept : (v : List ℕ) (a : ℕ) → Kept n root others v (set v (2 * tail + 1) a)
  link-kept v a i m o = get_or-set_other v (2 * tail + 1) i a 0 (not-tail i m o)

  module _ (h : free < n) where
    free_kept : (v : List ℕ) (j a : ℕ) → j / cell_numbers ≡ free → Kept n root others v (set v j a)
    free_kept v j a cell i m o =
        get_or-set_other v j i a 0 (λ e. m (subst (λ c. Absent c (n ∷ others)) (omega arith) (free_apart b h).0))

    pub item-kept : (kind : ℕ) → Kept n root others w (set (set w (2 * start free) kind) (2 * tail + 1) (start free))
    item-kept kind i m o =
        link-kept (set w (2 * start free) kind) (start free) i m o ∙ free_kept w (2 * start free) kind (omega arith) i m o

    pub token_kept : (at len : ℕ)
        → Kept n root others w
        (set (set (set (set w (2 * start free) token_kind) (2 * close free) at) (2 * close free + 1) len) (2 * tail + 1) (start free))
    token_kept at len i m o =
        let w₁ = set w (2 * start free) token_kind in
        let w₂ = set w₁ (2 * close free) at in
        link-kept (set w₂ (2 * close free + 1) len) (start free) i m o ∙ free_kept w₂ (2 * close free + 1) len (omega arith) i m o
        ∙ free_kept w₁ (2 * close free) at (omega arith) i m o ∙ free_kept w (2 * start free) token_kind (omega arith) i m o

    pub block_kept : Kept n root others w (set (set (set w (2 * start free) block_kind) (2 * close free + 1) opened) (2 * tail + 1) (start free))
    block_kept i m o =
        let w₁ = set w (2 * start free) block_kind in
        link-kept (set w₁ (2 * close free + 1) opened) (start free) i m o ∙ free_kept w₁ (2 * close free + 1) opened (omega arith) i m o
        ∙ free_kept w (2 * start free) block_kind (omega arith) i m o

-- two memories that have the same numbers in the cells of a plan say it alike

abbrev pub Agree : (cs w v : List ℕ) → Type 0
Agree cs w v = (i : ℕ) → ¬ Absent (i / cell_numbers) cs → get_or v i 0 ≡ get_or w i 0

-- the four numbers of a cell
numbers_agree : (c : ℕ) (cs w v : List ℕ) → Agree (c ∷ cs) w v → (i : ℕ) → i / cell_numbers ≡ c → get_or v i 0 ≡ get_or w i 0
numbers_agree c cs w v h i e = h i (λ k. k.0 e)

fewer : (c : ℕ) (cs w v : List ℕ) → Agree (c ∷ cs) w v → Agree cs w v
fewer c cs w v h i m = h i (λ k. m k.1)

pub says_agree : (text w v : List ℕ) (t : Plan ℕ) → Agree (labels t) w v → Says text w t → Says text v t
unfolding labels
says_agree text w v end h k = tt
says_agree text w v (operator c o p) h k =
    (numbers_agree c (labels p) w v h (2 * start c) (omega arith) ∙ k.0, says_agree text w v p (fewer c (labels p) w v h) k.1)
says_agree text w v (token c t p) h k = (
  numbers_agree c (labels p) w v h (2 * start c) (omega arith) ∙ k.0,
  subst₂ (λ at len. TokenAt text at len t) (sym (numbers_agree c (labels p) w v h (2 * close c) (omega arith)))
      (sym (numbers_agree c (labels p) w v h (2 * close c + 1) (omega arith))) k.1,
  says_agree text w v p (fewer c (labels p) w v h) k.2,
)
says_agree text w v (block c b p) h k =
    let r = fewer c (labels b ++ labels p) w v h in (
      numbers_agree c (labels b ++ labels p) w v h (2 * start c) (omega arith) ∙ k.0,
      says_agree text w v b (λ i m. r i (λ z. m (absent_split (i / cell_numbers) (labels b) (labels p) z).0)) k.1,
      says_agree text w v p (λ i m. r i (λ z. m (absent_split (i / cell_numbers) (labels b) (labels p) z).1)) k.2,
    )

-- where the links of all ports but the last are the same, so is the chain
pub linked_agree : (w v xs : List ℕ) (y : ℕ) → ((x : ℕ) → ¬ Absent x xs → link v x ≡ link w x) → Linked w (xs ++ y ∷ []) → Linked v (xs ++ y ∷ [])
linked_agree w v [] y h k = tt
linked_agree w v (x ∷ []) y h k = (h x (λ z. z.0 refl) ∙ k.0, tt)
linked_agree w v (x ∷ z ∷ xs) y h k =
    (h x (λ r. r.0 refl) ∙ k.0, linked_agree w v (z ∷ xs) y (λ u m. h u (λ r. m r.1)) k.1)
