-- A cell that leaves the plan goes to the front of the free cells. The order of the cells in use does not matter. Both follow from one law:
-- where two neighbouring rows of cells change places, these are still all n cells, each once.
use Prim.Native.Nat.{ℕ, ◌+◌, ◌*◌}
use mathlib.Core.Path.{◌≡◌, refl, sym, ◌∙◌, subst}
use mathlib.Core.List.{List, [], ◌∷◌, ◌++◌, append_assoc}
use native.Mathlib.Omega.{arith}
use lib.ListN.{length, set, length-append, length-set}
use lib.Seq.{get_or-set_same}
use Rattle.memory.specs.Memory.{start, Below, Absent, Distinct, Shared}
use Rattle.memory.proofs.Lists.{absent_join, absent_split, below_join, below_split, distinct_join, distinct_split, not_before, not_behind, free_beside}

-- two neighbouring rows change places

pub absent_swap : (c : ℕ) (ys zs us : List ℕ) → Absent c (ys ++ (zs ++ us)) → Absent c (zs ++ (ys ++ us))
absent_swap c ys zs us h =
    let r = absent_split c ys (zs ++ us) h in
    let s = absent_split c zs us r.1 in
    absent_join c zs (ys ++ us) s.0 (absent_join c ys us r.0 s.1)

pub below_swap : (n : ℕ) (ys zs us : List ℕ) → Below n (ys ++ (zs ++ us)) → Below n (zs ++ (ys ++ us))
below_swap n ys zs us h =
    let r = below_split n ys (zs ++ us) h in
    let s = below_split n zs us r.1 in
    below_join n zs (ys ++ us) s.0 (below_join n ys us r.0 s.1)

pub distinct_swap : (ys zs us : List ℕ) → Distinct (ys ++ (zs ++ us)) → Distinct (zs ++ (ys ++ us))
distinct_swap ys zs us d =
    let r = distinct_split ys (zs ++ us) d in
    let s = distinct_split zs us r.1 in
    distinct_join zs (ys ++ us) s.0
    (distinct_join ys us r.0 s.1 (λ c m. (absent_split c zs us (not_behind c ys (zs ++ us) d m)).1))
    (λ c m. absent_join c ys us (not_before c ys (zs ++ us) d (λ h. m (absent_split c zs us h).0)) (not_behind c zs us r.1 m))

-- all n cells, each once
abbrev pub EachOnce : ℕ → List ℕ → Type 0
EachOnce n cs = Below n cs × Distinct cs × (length cs ≡ n)

pub each_once_swap : (n : ℕ) (xs ys zs us : List ℕ) → EachOnce n (xs ++ (ys ++ (zs ++ us))) → EachOnce n (xs ++ (zs ++ (ys ++ us)))
each_once_swap n xs ys zs us h =
    let b = below_split n xs (ys ++ (zs ++ us)) h.0 in
    let d = distinct_split xs (ys ++ (zs ++ us)) h.1 in
    let l : length (xs ++ (ys ++ (zs ++ us))) ≡ n = h.2 in (
      below_join n xs (zs ++ (ys ++ us)) b.0 (below_swap n ys zs us b.1),
      distinct_join xs (zs ++ (ys ++ us)) d.0 (distinct_swap ys zs us d.1)
          (λ c m. absent_swap c ys zs us (not_behind c xs (ys ++ (zs ++ us)) h.1 m)),
      simp length-append (let k = simp length-append at l in omega arith),
    )

-- the order of the cells in use

module _ {n : ℕ} {w : List ℕ} {free : ℕ} where
  pub shared_swap : (xs ys zs us : List ℕ) → Shared n w free (xs ++ (ys ++ (zs ++ us))) → Shared n w free (xs ++ (zs ++ (ys ++ us)))
  shared_swap xs ys zs us s =
      let before : (xs ++ (ys ++ (zs ++ us))) ++ s.spare ≡ xs ++ (ys ++ (zs ++ (us ++ s.spare))) = simp append_assoc in
      let after : (xs ++ (zs ++ (ys ++ us))) ++ s.spare ≡ xs ++ (zs ++ (ys ++ (us ++ s.spare))) = simp append_assoc in
      let moved = subst (EachOnce n) (sym after) (each_once_swap n xs ys zs (us ++ s.spare) (subst (EachOnce n) before (s.below, s.distinct, s.all))) in
      record { spare = s.spare; frees = s.frees; below = moved.0; distinct = moved.1; all = moved.2; room = s.room }

  -- a cell leaves the plan
  pub shared_free : (xs : List ℕ) (c : ℕ) (ys : List ℕ) → Shared n w free (xs ++ c ∷ ys) → Shared n (set w (2 * start c + 1) free) c (xs ++ ys)
  shared_free xs c ys s =
      let before : (xs ++ c ∷ ys) ++ s.spare ≡ xs ++ c ∷ (ys ++ s.spare) = append_assoc xs (c ∷ ys) s.spare in
      let after : (xs ++ ys) ++ c ∷ s.spare ≡ xs ++ (ys ++ c ∷ s.spare) = append_assoc xs ys (c ∷ s.spare) in
      let moved = subst (EachOnce n) (sym after) (each_once_swap n xs (c ∷ []) ys s.spare (subst (EachOnce n) before (s.below, s.distinct, s.all))) in
      let used : ¬ Absent c (xs ++ c ∷ ys) = λ h. (absent_split c xs (c ∷ ys) h).1.0 refl in
      let apart = not_behind c (xs ++ c ∷ ys) s.spare s.distinct used in
      let low = (below_split n (xs ++ ys) (c ∷ s.spare) moved.0).1.0 in
      let room = s.room in
      record {
        spare = c ∷ s.spare;
        frees = (
          refl,
          rw (get_or-set_same w (2 * start c + 1) free 0 (omega arith))
              (free_beside w free s.spare n (2 * start c + 1) free (λ d e. subst (λ z. Absent z s.spare) (omega arith) apart) s.frees),
        );
        below = moved.0;
        distinct = moved.1;
        all = moved.2;
        room = length-set w (2 * start c + 1) free ∙ room;
      }
