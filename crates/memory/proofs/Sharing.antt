-- Laws of `Shared`, the cells in use and the free ones: whether a cell is free, that the first free cell comes into use, and that a store
-- that is no link of a free cell leaves the free cells as they are.
use Prim.Native.Nat.{ℕ, ◌+◌, ◌*◌, ◌/◌, ◌<◌}
use mathlib.Core.Path.{◌≡◌, refl, ap, sym, ◌∙◌, subst}
use mathlib.Core.List.{List, [], ◌∷◌, ◌++◌, append_assoc}
use native.Mathlib.Omega.{arith}
use lib.ListN.{length, set, length-append, length-set}
use Rattle.kinds.specs.Limits.{cell_numbers}
use Rattle.memory.specs.Memory.{start, link, Free, Below, Absent, Distinct, Shared}
use Rattle.memory.proofs.Lists.{below_split, below_absent, distinct_split, not_before, not_behind, free_beside}

-- whether a cell is free

room_if : (n : ℕ) (w : List ℕ) (free : ℕ) (used cs : List ℕ) → Free w free cs n → Below n (used ++ cs) → length (used ++ cs) ≡ n
    → (length used < n → free < n) × (length used ≡ n → free ≡ n)
room_if n w free used [] f b l =
    let none = length-append used [] in
    (λ h. absurd (omega arith), λ h. f)
room_if n w free used (c ∷ cs) f b l =
    let more = length-append used (c ∷ cs) in
    let low = (below_split n used (c ∷ cs) b).1.0 in
    (λ h. omega arith, λ h. absurd (omega arith))

module _ {n : ℕ} {w : List ℕ} {free : ℕ} {used : List ℕ} (s : Shared n w free used) where
  pub room_free : length used < n → free < n
  room_free = (room_if n w free used s.spare s.frees s.below s.all).0

  pub none_free : length used ≡ n → free ≡ n
  none_free = (room_if n w free used s.spare s.frees s.below s.all).1

  -- cell number n is neither in use nor free
  pub shared_distinct : Distinct (n ∷ (used ++ s.spare))
  shared_distinct = (below_absent n n (used ++ s.spare) (omega arith) s.below, s.distinct)

  -- a store that is no link of a free cell, as any in a cell in use or in cell number n
  pub shared_beside : (i a : ℕ) → ((c : ℕ) → i ≡ 2 * start c + 1 → Absent c s.spare) → Shared n (set w i a) free used
  shared_beside i a h =
      record {
        spare = s.spare;
        frees = free_beside w free s.spare n i a h s.frees;
        below = s.below;
        distinct = s.distinct;
        all = s.all;
        room = length-set w i a ∙ s.room;
      }

  pub shared_used : (i a : ℕ) → ¬ Absent (i / cell_numbers) (n ∷ used) → Shared n (set w i a) free used
  shared_used i a m =
      shared_beside i a (λ c e. subst (λ z. Absent z s.spare) (omega arith) (not_behind (i / cell_numbers) (n ∷ used) s.spare shared_distinct m))

-- the first free cell comes into use

take-first : (n : ℕ) (w : List ℕ) (free : ℕ) (used cs : List ℕ) → Free w free cs n → Below n (used ++ cs) → Distinct (used ++ cs)
    → length (used ++ cs) ≡ n → length w ≡ cell_numbers * n + 2 → free < n → Shared n w (link w (start free)) (used ++ free ∷ [])
take-first n w free used [] f b d l r h = absurd (omega arith)
take-first n w free used (c ∷ cs) f b d l r h =
    let moved : used ++ c ∷ cs ≡ (used ++ free ∷ []) ++ cs = ap (λ z. used ++ z ∷ cs) (sym f.0) ∙ sym (append_assoc used (free ∷ []) cs) in
    record {
      spare = cs;
      frees = subst (λ z. Free w (link w (start z)) cs n) (sym f.0) f.1;
      below = subst (Below n) moved b;
      distinct = subst Distinct moved d;
      all = ap length (sym moved) ∙ l;
      room = r;
    }

module _ {n : ℕ} {w : List ℕ} {free : ℕ} {used : List ℕ} (s : Shared n w free used) (h : free < n) where
  pub shared_take : Shared n w (link w (start free)) (used ++ free ∷ [])
  shared_take = take-first n w free used s.spare s.frees s.below s.distinct s.all s.room h

  pub free_absent : Absent free used
  free_absent =
      not_before free used (free ∷ []) (distinct_split (used ++ free ∷ []) shared_take.spare shared_take.distinct).0 (λ k. k.0 refl)
