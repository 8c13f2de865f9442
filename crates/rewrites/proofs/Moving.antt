-- What the splices make of a plan that is held. There are four moves. A block is taken out, and stands beside the plan. A block beside the
-- plan is put in anywhere. A block is opened. An operator leaves. A store at a link of the chain leaves what every cell says as it was. So
-- the items go by the old plan until all links are stored.
use Prim.Native.Nat.{ℕ, ◌+◌, ◌*◌, ◌/◌, ◌≤◌, ◌<◌}
use mathlib.Core.Path.{◌≡◌, refl, ap, sym, ◌∙◌, subst}
use mathlib.Core.List.{List, [], ◌∷◌, ◌++◌, append_assoc, append-nil}
use native.Mathlib.Omega.{arith}
use lib.ListN.{length, set}
use Rattle.rules.specs.Frames.{Frame, within, plug}
use Rattle.plan.specs.Plan.{Plan, end, operator, block, ◌then◌, labels}
use Rattle.plan.specs.declared.Operator.{Operator}
use Rattle.rules.proofs.Frames.{labels-plug, lefts, rights}
use Rattle.plan.proofs.Plans.{labels-then, then_end}
use Rattle.memory.specs.Memory.{start, close, link, ports, Linked, Says, Below, Absent, Distinct, Shared, Holds, last_of}
use Rattle.memory.proofs.Freeing.{distinct_swap, shared_free, shared_swap}
use Rattle.memory.proofs.Lists.{absent_split, below_split, distinct_split, linked_beside}
use Rattle.memory.proofs.Ports.{Loose, close_loose, last_loose, says-link, start_loose}
use Rattle.memory.proofs.Sharing.{shared_distinct, shared_used}
use Rattle.memory.proofs.Ports.{below_ports}
use Rattle.hunt.specs.Hunting.{cell_of}
use Rattle.hunt.proofs.Frames.{cell_low, says_around, says_split}
use Rattle.rewrites.specs.Rules.{at_end}
use Rattle.splices.specs.Splices.{cut, put_in, released, unwrapped}
use Rattle.rewrites.proofs.Gaps.{chain_absent, chain_distinct, chain_of, Gap, gap, gap_replaced, gap_says}
use Rattle.splices.proofs.Splicing.{cut_linked, cut_run, first_split, last_split, left_distinct, put_in_linked}

-- the cells of the plan t say it, and `more` cells are in use beside it
pub record Said (text : List ℕ) (n : ℕ) (w : List ℕ) (free : ℕ) (t : Plan ℕ) (more : List ℕ) : Type 0 where
  pub says : Says text w t
  pub shared : Shared n w free (labels t ++ more)

-- the plan t is held, and beside it stands a block that no port links to
pub record HoldsBeside (text : List ℕ) (n : ℕ) (w : List ℕ) (free : ℕ) (t : Plan ℕ) (c : ℕ) (b : Plan ℕ) : Type 0 where
  pub chain : Linked w (chain_of n t)
  pub said : Said text n w free t (c ∷ labels b)
  pub run : Linked w (start c ∷ (ports b ++ close c ∷ []))
  pub says : Says text w (block c b end)

pub held_said : {text : List ℕ} {n : ℕ} {w : List ℕ} {free : ℕ} {t : Plan ℕ} → Holds text n w free t → Said text n w free t []
held_said {n = n} {w = w} {free = free} {t = t} h =
    record { says = h.says; shared = subst (Shared n w free) (sym (append-nil (labels t))) h.shared }

module _ {text : List ℕ} {n : ℕ} {w : List ℕ} {free : ℕ} {t : Plan ℕ} {more : List ℕ} (h : Said text n w free t more) where
  -- a store at the link of a port in use that says nothing of its cell
  pub said_store : (x a : ℕ) → Loose w x → ¬ Absent (x / 2) (n ∷ (labels t ++ more)) → Said text n (set w (2 * x + 1) a) free t more
  said_store x a loose used =
      record {
        says = says-link text w t x a loose h.says;
        shared = shared_used h.shared (2 * x + 1) a (λ k. used (subst (λ c. Absent c (n ∷ (labels t ++ more))) (omega arith) k));
      }

  pub said_distinct : Distinct (n ∷ labels t)
  said_distinct =
      (distinct_split (n ∷ labels t) more (distinct_split (n ∷ (labels t ++ more)) h.shared.spare (shared_distinct h.shared)).0).0

  pub said_below : Below n (labels t) × Below n more
  said_below = below_split n (labels t) more (below_split n (labels t ++ more) h.shared.spare h.shared.below).0

-- the port that links to what stands behind X

last_low : (n x : ℕ) (xs : List ℕ) → x ≤ n → Below n xs → last_of x xs ≤ n
last_low n x [] h k = h
last_low n x (y ∷ ys) h k = last_low n y ys (let low = k.0 in omega arith) k.1

module _ (text : List ℕ) (n : ℕ) (w : List ℕ) (free : ℕ) (f : Frame ℕ) (X q : Plan ℕ) (more : List ℕ)
    (h : Said text n w free (plug f (X then q)) more) where
  pub end_loose : Loose w (at_end n f X)
  end_loose =
      last_loose text w (start (cell_of n f)) X (start_loose w (cell_of n f))
      (says_split text w X q (says_around text w f (X then q) h.says).1).0

  pub end_low : at_end n f X ≤ start n
  end_low =
      let all = subst (Below n) (labels-plug f (X then q)) (said_below h).0 in
      let low = below_split n (lefts f) (labels (X then q) ++ rights f) all in
      let own = (below_split n (labels (X then q)) (rights f) low.1).0 in
      let cell = cell_low n f (X then q) (said_below h).0 in
      last_low (start n) (start (cell_of n f)) (ports X) (omega arith)
      (below_ports n X (below_split n (labels X) (labels q) (subst (Below n) (labels-then X q) own)).0)

  pub end_room : 2 * at_end n f X + 1 < length w
  end_room = omega (arith, end_low, h.shared.room)

  pub end_used : ¬ Absent (at_end n f X / 2) (n ∷ (labels (plug f (X then q)) ++ more))
  unfolding ◌then◌
  end_used k =
      let g = gap n f X q in
      let t = plug f (X then q) in
      let absent = chain_absent n (at_end n f X) t (k.0, (absent_split (at_end n f X / 2) (labels t) more k.1).0) in
      (absent_split (at_end n f X) g.before (at_end n f X ∷ (ports end ++ g.next ∷ g.rest)) (subst (Absent (at_end n f X)) (g.chain end) absent)).1.0 refl

  pub end_store : (a : ℕ) → Said text n (set w (2 * at_end n f X + 1) a) free (plug f (X then q)) more
  end_store a = said_store h (at_end n f X) a end_loose end_used

-- the four moves

module _ (n : ℕ) (f : Frame ℕ) (X p : Plan ℕ) where
  abbrev place : Gap n f X p
  place = gap n f X p

  abbrev at : ℕ
  at = at_end n f X

  -- the chain of the plan that has z at the place
  chain_here : (v : List ℕ) (z : Plan ℕ) → Linked v (chain_of n (plug f (X then (z then p)))) → Linked v (place.before ++ at ∷ (ports z ++ place.next ∷ place.rest))
  chain_here v z = subst (Linked v) (place.chain z)

  chain_whole : (v : List ℕ) (z : Plan ℕ) → Linked v (place.before ++ at ∷ (ports z ++ place.next ∷ place.rest)) → Linked v (chain_of n (plug f (X then (z then p))))
  chain_whole v z = subst (Linked v) (sym (place.chain z))

  distinct_here : (z : Plan ℕ) → Distinct (n ∷ labels (plug f (X then (z then p)))) → Distinct (place.before ++ at ∷ (ports z ++ place.next ∷ place.rest))
  distinct_here z d = subst Distinct (place.chain z) (chain_distinct n (plug f (X then (z then p))) d)

  module _ (c : ℕ) (b : Plan ℕ) where
    -- a block at the place: its ports from its start up to its close
    block_list : place.before ++ at ∷ (ports (block c b end) ++ place.next ∷ place.rest)
        ≡ place.before ++ at ∷ ((start c ∷ ports b) ++ close c ∷ place.next ∷ place.rest)
    unfolding ports
    block_list = simp append_assoc

    block_used : labels (plug f (X then block c b p)) ≡ place.labels_before ++ ((c ∷ labels b) ++ place.labels_behind)
    unfolding ◌then◌ labels
    block_used = place.used (block c b end) ∙ ap (λ l. place.labels_before ++ ((c ∷ l) ++ place.labels_behind)) (append-nil (labels b))

    plain_used : labels (plug f (X then p)) ≡ place.labels_before ++ place.labels_behind
    unfolding ◌then◌ labels
    plain_used = place.used end

    -- the cells in use are the same, whether the block stands in the plan or beside it
    pub shared_out : (free : ℕ) (v : List ℕ) → Shared n v free (labels (plug f (X then block c b p)) ++ []) → Shared n v free (labels (plug f (X then p)) ++ c ∷ labels b)
    shared_out free v s =
        let us = place.labels_before in
        let vs = place.labels_behind in
        let from : labels (plug f (X then block c b p)) ++ [] ≡ us ++ ((c ∷ labels b) ++ (vs ++ [])) = rw block_used (simp append_assoc) in
        let to : us ++ (vs ++ ((c ∷ labels b) ++ [])) ≡ labels (plug f (X then p)) ++ c ∷ labels b = sym (rw (plain_used, append-nil) (simp append_assoc)) in
        subst (Shared n v free) to (shared_swap us (c ∷ labels b) vs [] (subst (Shared n v free) from s))

    pub shared_in : (free : ℕ) (v : List ℕ) → Shared n v free (labels (plug f (X then p)) ++ c ∷ labels b) → Shared n v free (labels (plug f (X then block c b p)))
    shared_in free v s =
        let us = place.labels_before in
        let vs = place.labels_behind in
        let from : labels (plug f (X then p)) ++ c ∷ labels b ≡ us ++ (vs ++ ((c ∷ labels b) ++ [])) = rw (plain_used, append-nil) (simp append_assoc) in
        let to : us ++ ((c ∷ labels b) ++ (vs ++ [])) ≡ labels (plug f (X then block c b p)) = sym (rw (block_used, append-nil)) in
        subst (Shared n v free) to (shared_swap us vs (c ∷ labels b) [] (subst (Shared n v free) from s))

    pub take_out : {text w : List ℕ} {free : ℕ} → Holds text n w free (plug f (X then block c b p)) → HoldsBeside text n (cut w at (close c)) free (plug f (X then p)) c b
    unfolding cut ◌then◌ ports
    take_out {text} {w} {free} h =
        let v = cut w at (close c) in
        let said = held_said h in
        let stored = end_store text n w free f X (block c b p) [] said (link w (close c)) in
        let d = subst Distinct block_list (distinct_here (block c b end) (said_distinct said)) in
        let l = subst (Linked w) block_list (chain_here w (block c b end) h.chain) in
        let room = end_room text n w free f X (block c b p) [] said in
        record {
          chain = chain_whole v end (cut_linked w place.before at (start c ∷ ports b) (close c) place.next place.rest d room l);
          said = record { says = gap_replaced text v f X p (block c b end) stored.says end tt; shared = shared_out free v stored.shared };
          run = cut_run w place.before at (start c ∷ ports b) (close c) place.next place.rest d room l;
          says = gap_says text v f X p (block c b end) stored.says;
        }

    pub put_back : {text w : List ℕ} {free : ℕ} → HoldsBeside text n w free (plug f (X then p)) c b → Holds text n (put_in w at (start c) (close c)) free (plug f (X then block c b p))
    unfolding put_in ◌then◌ ports
    put_back {text} {w} {free} h =
        let w₁ = set w (2 * close c + 1) (link w at) in
        let v = put_in w at (start c) (close c) in
        let t = plug f (X then p) in
        let loose = close_loose w c h.says.0 in
        let used : ¬ Absent (close c / 2) (n ∷ (labels t ++ c ∷ labels b)) =
        λ k. (absent_split (close c / 2) (labels t) (c ∷ labels b) k.1).1.0 (omega arith) in
        let stored = said_store h.said (close c) (link w at) loose used in
        let again = end_store text n w₁ free f X p (c ∷ labels b) stored (start c) in
        let behind = says-link text w (block c b end) (close c) (link w at) loose h.says in
        let item = says-link text w₁ (block c b end) at (start c) (end_loose text n w₁ free f X p (c ∷ labels b) stored) behind in
        let shared = shared_in free v again.shared in
        let once = (distinct_split (n ∷ labels (plug f (X then block c b p))) shared.spare (shared_distinct shared)).0 in
        let d = subst Distinct block_list (distinct_here (block c b end) once) in
        let low = (said_below h.said).1.0 in
        let long = h.said.shared.room in
        record {
          chain =
              chain_whole v (block c b end) (subst (Linked v) (sym block_list)
              (put_in_linked w place.before at (start c) (ports b) (close c) place.next place.rest d
              (end_room text n w free f X p (c ∷ labels b) h.said) (omega arith) (chain_here w end h.chain) h.run));
          says = gap_replaced text v f X p end again.says (block c b end) item;
          shared = shared;
        }

  -- A cell at the place leaves the plan: the port before it links to what stands behind its start. z is what stood there, and
  -- y what is left of it.
  skip_start : {text w : List ℕ} {free : ℕ} (c : ℕ) (z y : Plan ℕ) → Said text n w free (plug f (X then (z then p))) []
      → labels z ≡ c ∷ labels y → ((v : List ℕ) → Says text v z → Says text v y)
      → Distinct (place.before ++ at ∷ start c ∷ (ports y ++ place.next ∷ place.rest))
      → Linked w (place.before ++ at ∷ start c ∷ (ports y ++ place.next ∷ place.rest))
      → Holds text n (released (cut w at (start c)) free c) c (plug f (X then (y then p)))
  unfolding cut released
  skip_start {text} {w} {free} c z y said own smaller d l =
      let w₁ = cut w at (start c) in
      let v = set w₁ (2 * start c + 1) free in
      let us = place.labels_before in
      let vs = place.labels_behind in
      let t = plug f (X then (z then p)) in
      let used : labels t ≡ us ++ c ∷ (labels y ++ vs) = place.used z ∙ ap (λ l. us ++ (l ++ vs)) own in
      let stored = end_store text n w free f X (z then p) [] said (link w (start c)) in
      let shared = shared_free us c (labels y ++ vs) (subst (Shared n w₁ free) (append-nil (labels t) ∙ used) stored.shared) in
      let gone : Absent c ((n ∷ us) ++ (labels y ++ vs)) =
      (distinct_swap (n ∷ us) (c ∷ []) (labels y ++ vs) (subst (λ l. Distinct (n ∷ l)) used (said_distinct said))).0 in
      let apart : Absent (start c) (chain_of n (plug f (X then (y then p)))) =
      chain_absent n (start c) (plug f (X then (y then p)))
      (subst (λ x. Absent x (n ∷ labels (plug f (X then (y then p))))) (omega arith) (subst (λ l. Absent c (n ∷ l)) (sym (place.used y)) gone)) in
      let r = first_split (ports y) place.next place.rest in
      let parts : place.before ++ at ∷ start c ∷ (ports y ++ place.next ∷ place.rest) ≡ place.before ++ at ∷ start c ∷ r.first ∷ r.rest =
      ap (λ l. place.before ++ at ∷ start c ∷ l) r.parts in
      let linked = cut_linked w place.before at [] (start c) r.first r.rest (subst Distinct parts d) (end_room text n w free f X (z then p) [] said) (subst (Linked w) parts l) in
      let chain = chain_whole w₁ y (subst (Linked w₁) (ap (λ l. place.before ++ at ∷ l) (sym r.parts)) linked) in
      let says = says-link text w₁ t (start c) free (start_loose w₁ c) stored.says in
      record {
        chain =
            linked_beside w₁ (chain_of n (plug f (X then (y then p)))) (2 * start c + 1) free
            (λ q e. subst (λ x. Absent x (chain_of n (plug f (X then (y then p))))) (omega arith) apart) chain;
        says = gap_replaced text v f X p z says y (smaller v (gap_says text v f X p z says));
        shared = subst (Shared n v c) (sym (place.used y)) shared;
      }

  pub remove : {text w : List ℕ} {free : ℕ} (k : ℕ) (o : Operator) → Holds text n w free (plug f (X then operator k o p))
      → Holds text n (released (cut w at (start k)) free k) k (plug f (X then p))
  unfolding ◌then◌ ports labels
  remove {text} {w} {free} k o h =
      let said = held_said h in
      skip_start k (operator k o end) end said refl (λ v s. tt) (distinct_here (operator k o end) (said_distinct said)) (chain_here w (operator k o end) h.chain)

  -- a block is opened: its contents stand in its place
  module _ (c : ℕ) (b : Plan ℕ) where
    abbrev last : ℕ
    last = last_of (start c) (ports b)

    pub open_up : {text w : List ℕ} {free : ℕ} → Holds text n w free (plug f (X then block c b p))
        → Holds text n (unwrapped w free at c last) c (plug f (X then (b then p)))
    unfolding cut unwrapped ◌then◌ ports labels plug
    open_up {text} {w} {free} h =
        let said = held_said h in
        let inside : Said text n w free (plug (within X c f p) (b then end)) [] = subst (λ x. Said text n w free (plug (within X c f p) x) []) (sym (then_end b)) said in
        let stored = end_store text n w free (within X c f p) b end [] inside (link w (close c)) in
        let l = last_split (start c) (ports b) in
        let grouped : (ys : List ℕ) → place.before ++ at ∷ ((start c ∷ ports b) ++ ys) ≡ (place.before ++ at ∷ l.before) ++ last ∷ ys =
        λ ys. ap (λ xs. place.before ++ at ∷ (xs ++ ys)) l.parts ∙ simp append_assoc in
        let behind = close c ∷ place.next ∷ place.rest in
        let d = subst Distinct (block_list c b ∙ grouped behind) (distinct_here (block c b end) (said_distinct said)) in
        let linked = subst (Linked w) (block_list c b ∙ grouped behind) (chain_here w (block c b end) h.chain) in
        let room = end_room text n w free (within X c f p) b end [] inside in
        let xs = place.before ++ at ∷ l.before in
        skip_start c (block c b end) b (subst (λ x. Said text n (cut w last (close c)) free (plug (within X c f p) x) []) (then_end b) stored)
        (ap (c ∷◌) (append-nil (labels b))) (λ v s. s.1)
        (subst Distinct (sym (grouped (place.next ∷ place.rest))) (left_distinct w xs last [] (close c) place.next place.rest d room linked))
        (subst (Linked (cut w last (close c))) (sym (grouped (place.next ∷ place.rest))) (cut_linked w xs last [] (close c) place.next place.rest d room linked))
