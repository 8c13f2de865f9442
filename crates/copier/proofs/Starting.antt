-- Where the walk begins: the first free cell is a block, and the ports ahead are those of the contents, which stand in the
-- chain of the plan between the block's two ports.
use Prim.Native.Nat.{ℕ, ◌+◌, ◌*◌, ◌≤◌, ◌<◌}
use mathlib.Core.Path.{◌≡◌, refl, subst}
use mathlib.Core.List.{List, [], ◌∷◌, ◌++◌, append_assoc}
use native.Mathlib.Omega.{arith}
use lib.ListN.{length, set}
use lib.Seq.{get_or-set_same}
use Rattle.plan.specs.Plan.{Plan, cells, labels}
use Rattle.plan.proofs.Plans.{length-labels}
use Rattle.plan.specs.Pieces.{pieces, seen}
use Rattle.memory.specs.Held.{BlockIn}
use Rattle.memory.specs.Memory.{start, close, link, block_kind, ports, Linked, Absent, Distinct, Holds, Shared}
use Rattle.memory.specs.Model.{Model}
use Rattle.memory.proofs.Along.{leads_linked}
use Rattle.memory.proofs.Building.{begin_in}
use Rattle.memory.proofs.Lists.{absent_split, distinct_split, linked_beside, linked_split, not_before}
use Rattle.memory.proofs.Ports.{ports_absent, ports_distinct, says-beside}
use Rattle.memory.proofs.Placing.{place-first}
use Rattle.memory.proofs.Printing.{chain_shows, length-ports}
use Rattle.memory.proofs.Sharing.{free_absent, room_free, shared_beside, shared_take}
use Rattle.memory.proofs.BlockInPlan.{block_ports, block_said}
use Rattle.copier.proofs.Road.{Road}
use Rattle.copier.proofs.CopySoFar.{CopySoFar, Started, beside}

-- the road through the contents

first_road : (w : List ℕ) (n c : ℕ) (t b : Plan ℕ) → BlockIn c b t → Linked w (start n ∷ (ports t ++ close n ∷ [])) → Distinct (labels t)
    → cells b ≤ n → Road w n (close c) t (link w (start c)) (ports b)
first_road w n c t b found linked distinct low =
    let (xs, ys, splits) = block_ports c b t found in
    let regrouped : start n ∷ (ports t ++ close n ∷ []) ≡ (start n ∷ xs) ++ start c ∷ (ports b ++ close c ∷ (ys ++ close n ∷ [])) =
    rw splits (simp append_assoc) in
    let chain = (linked_split w (start n ∷ xs) (start c) (ports b ++ close c ∷ (ys ++ close n ∷ [])) (subst (Linked w) regrouped linked)).1 in
    let apart = (distinct_split xs (start c ∷ (ports b ++ close c ∷ ys)) (subst Distinct splits (ports_distinct t distinct))).1.1 in
    record {
      leads = leads_linked w (close c) (start c) (ports b) (ys ++ close n ∷ []) chain;
      ours = λ x m h.
          m (absent_split x (ports b) (close c ∷ ys)
          (absent_split x xs (start c ∷ (ports b ++ close c ∷ ys)) (subst (Absent x) splits (ports_absent x t h))).1.1).0;
      ends = not_before (close c) (ports b) (close c ∷ ys) apart (λ k. k.0 refl);
      few = omega (arith, length-ports b);
    }

pub copy_first : (text : List ℕ) (n c root : ℕ) (t b : Plan ℕ) (s : Model) → Started text n s.numbers root t → BlockIn c b t
    → Shared n s.numbers s.free (beside t root) → s.tail ≡ start root → s.opened ≡ root → length (beside t root) + cells b ≤ n
    → CopySoFar text n s.numbers root (close c) t b s (link s.numbers (start c))
unfolding seen labels
copy_first text n c root t b s started found shared tail opened room =
    let distinct = (distinct_split (labels t) (root ∷ []) (distinct_split (beside t root) shared.spare shared.distinct).0).0 in
    record {
      ahead = ports b;
      come = pieces b;
      placed = place-first b (rw (tail, opened) (begin_in (λ h. (absent_split root (labels t) (root ∷ []) h).1.0 refl) shared));
      kept = λ i a e. refl;
      road = first_road s.numbers n c t b found started.linked distinct (omega arith);
      shown = chain_shows text s.numbers b (block_said text s.numbers c b t found started.says);
      room = room;
    }

-- the first free cell made a block
module _ {text : List ℕ} {n : ℕ} {w : List ℕ} {free : ℕ} {t : Plan ℕ} (held : Holds text n w free t) (room : cells t < n) where
  pub has_free : free < n
  has_free = room_free held.shared (omega (arith, length-labels t))

  pub started : Started text n (set w (2 * start free) block_kind) free t
  started =
      let long = held.shared.room in
      let h = has_free in
      record {
        linked = linked_beside w (start n ∷ (ports t ++ close n ∷ [])) (2 * start free) block_kind (λ p e. absurd (omega arith)) held.chain;
        says =
            says-beside text w t (2 * start free) block_kind
            (subst (λ c. Absent c (labels t)) (omega arith) (free_absent held.shared has_free)) held.says;
        kind = get_or-set_same w (2 * start free) block_kind 0 (omega arith);
      }

  pub shared_started : Shared n (set w (2 * start free) block_kind) (link w (start free)) (beside t free)
  shared_started = shared_beside (shared_take held.shared has_free) (2 * start free) block_kind (λ c e. absurd (omega arith))
