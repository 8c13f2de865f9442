-- What freeing cells leaves as it is. The other cells in use stay in use. A plan that has none of the freed cells keeps its chain and its
-- items, so it is held afterwards. `¬ Absent c cs` says that c is in cs.
use Prim.Native.Nat.{ℕ, ◌+◌, ◌*◌}
use mathlib.Core.Path.{◌≡◌, refl, ◌∙◌, subst}
use mathlib.Core.List.{List, [], ◌∷◌, ◌++◌, append-nil}
use native.Mathlib.Omega.{arith}
use lib.ListN.{length, set, length-set}
use Rattle.plan.specs.Plan.{Plan, labels}
use Rattle.memory.specs.Memory.{start, close, ports, Linked, Says, Absent, Shared, Holds}
use Rattle.memory.proofs.Lists.{absent_join, linked_beside, not_before, distinct_split}
use Rattle.memory.proofs.Ports.{start_absent, says-beside}
use Rattle.memory.proofs.Freeing.{shared_free}
use Rattle.memory.proofs.Sharing.{shared_distinct}
use Rattle.blocks.specs.Blocks.{freed, first_free}

pub length-freed : (w : List ℕ) (free : ℕ) (cs : List ℕ) → length (freed w free cs) ≡ length w
unfolding freed
length-freed w free [] = refl
length-freed w free (c ∷ cs) = length-freed (set w (2 * start c + 1) free) c cs ∙ length-set w (2 * start c + 1) free

pub freed_shared : {n : ℕ} {w : List ℕ} {free : ℕ} (used cs : List ℕ) → Shared n w free (used ++ cs)
    → Shared n (freed w free cs) (first_free free cs) used
unfolding freed first_free
freed_shared used [] s = rw append-nil at s
freed_shared {n = n} {w = w} {free = free} used (c ∷ cs) s =
    freed_shared {n = n} {w = set w (2 * start c + 1) free} {free = c} used cs (shared_free used c cs s)

pub freed_linked : (w : List ℕ) (free : ℕ) (cs xs : List ℕ) → ((c : ℕ) → ¬ Absent c cs → Absent (start c) xs)
    → Linked w xs → Linked (freed w free cs) xs
unfolding freed
freed_linked w free [] xs h k = k
freed_linked w free (c ∷ cs) xs h k =
    freed_linked (set w (2 * start c + 1) free) c cs xs (λ d m. h d (λ a. m a.1))
    (linked_beside w xs (2 * start c + 1) free (λ p e. subst (λ z. Absent z xs) (omega arith) (h c (λ a. a.0 refl))) k)

pub freed-says : (text w : List ℕ) (free : ℕ) (cs : List ℕ) (t : Plan ℕ) → ((c : ℕ) → ¬ Absent c cs → Absent c (labels t))
    → Says text w t → Says text (freed w free cs) t
unfolding freed
freed-says text w free [] t h k = k
freed-says text w free (c ∷ cs) t h k =
    freed-says text (set w (2 * start c + 1) free) c cs t (λ d m. h d (λ a. m a.1))
    (says-beside text w t (2 * start c + 1) free (subst (λ z. Absent z (labels t)) (omega arith) (h c (λ a. a.0 refl))) k)

-- a plan that is linked without the cells is held once they are free
pub freed-holds : {text : List ℕ} {n : ℕ} {w : List ℕ} {free : ℕ} {t : Plan ℕ} (cs : List ℕ) → Linked w (start n ∷ (ports t ++ close n ∷ []))
    → Says text w t → Shared n w free (labels t ++ cs) → Holds text n (freed w free cs) (first_free free cs) t
freed-holds {text} {n} {w} {free} {t} cs chain says shared =
    let each = (distinct_split (n ∷ (labels t ++ cs)) shared.spare (shared_distinct shared)).0 in
    let apart : (c : ℕ) → ¬ Absent c cs → Absent c (n ∷ labels t) = λ c m. not_before c (n ∷ labels t) cs each m in
    record {
      chain =
          freed_linked w free cs (start n ∷ (ports t ++ close n ∷ []))
          (λ c m. let a = apart c m in (omega arith, absent_join (start c) (ports t) (close n ∷ []) (start_absent c t a.1) (omega arith, tt))) chain;
      says = freed-says text w free cs t (λ c m. (apart c m).1) says;
      shared = freed_shared (labels t) cs shared;
    }
