-- A place in a plan: it is in one sequence in a frame, behind the items X and before the items p. Whatever stands there, the chain, the
-- labels and the items of the plan are those around the place and those of what stands there.
use Prim.Native.Nat.{ℕ, ◌/◌}
use mathlib.Core.Path.{◌≡◌, ap, sym, ◌∙◌, subst}
use mathlib.Core.Logic.{inl, inr}
use mathlib.Core.List.{List, [], ◌∷◌, ◌++◌, append_assoc}
use native.Mathlib.Omega.{arith}
use Rattle.rules.specs.Frames.{Frame, top, within, plug}
use Rattle.plan.specs.Plan.{Plan, end, operator, token, block, ◌then◌, labels}
use Rattle.rules.proofs.Frames.{labels-plug, lefts, rights}
use Rattle.plan.proofs.Plans.{labels-then}
use Rattle.memory.specs.Memory.{start, close, ports, Absent, Distinct, Says}
use Rattle.memory.proofs.Lists.{absent_join, distinct_join}
use Rattle.memory.proofs.Ports.{close_absent, ports_absent, ports_distinct, ports-then, says_then, start_absent}
use Rattle.memory.specs.Held.{BlockIn}
use Rattle.hunt.specs.Hunting.{cell_of}
use Rattle.hunt.proofs.Frames.{chain_plug, left, right, says_around, says-plug, says_split}
use Rattle.rewrites.specs.Rules.{at_end}
use Rattle.splices.proofs.Splicing.{first_split, last_split}

-- the ports of a whole plan, from the outermost start to the end mark
abbrev pub chain_of : (n : ℕ) → Plan ℕ → List ℕ
chain_of n t = start n ∷ (ports t ++ close n ∷ [])

pub record Gap (n : ℕ) (f : Frame ℕ) (X p : Plan ℕ) : Type 0 where
  pub before : List ℕ
  pub next : ℕ
  pub rest : List ℕ
  pub chain : (z : Plan ℕ) → chain_of n (plug f (X then (z then p))) ≡ before ++ at_end n f X ∷ (ports z ++ next ∷ rest)
  pub labels_before : List ℕ
  pub labels_behind : List ℕ
  pub used : (z : Plan ℕ) → labels (plug f (X then (z then p))) ≡ labels_before ++ (labels z ++ labels_behind)

pub gap : (n : ℕ) (f : Frame ℕ) (X p : Plan ℕ) → Gap n f X p
gap n f X p =
    let s = cell_of n f in
    let l = last_split (start s) (ports X) in
    let r = first_split (ports p) (close s) (right n f) in
    record {
      before = left n f ++ l.before;
      next = r.first;
      rest = r.rest;
      chain = λ z.
          let all : ports (X then (z then p)) ++ close s ∷ right n f ≡ ports X ++ (ports z ++ r.first ∷ r.rest) =
          ap (◌++ close s ∷ right n f) (ports-then X (z then p) ∙ ap (ports X ++◌) (ports-then z p))
          ∙ append_assoc (ports X) (ports z ++ ports p) (close s ∷ right n f)
          ∙ ap (ports X ++◌) (append_assoc (ports z) (ports p) (close s ∷ right n f) ∙ ap (ports z ++◌) r.parts) in
          chain_plug n f (X then (z then p)) ∙ ap (λ l. left n f ++ start s ∷ l) all
          ∙ ap (λ l. left n f ++ (l ++ (ports z ++ r.first ∷ r.rest))) l.parts ∙ simp append_assoc;
      labels_before = lefts f ++ labels X;
      labels_behind = labels p ++ rights f;
      used = λ z. labels-plug f (X then (z then p)) ∙ rw (labels-then X (z then p), labels-then z p) (simp append_assoc);
    }

-- another item there, which is said too
module _ (text w : List ℕ) (f : Frame ℕ) (X p z : Plan ℕ) (h : Says text w (plug f (X then (z then p)))) where
  pub gap_says : Says text w z
  gap_says = (says_split text w z p (says_split text w X (z then p) (says_around text w f (X then (z then p)) h).1).1).0

  pub gap_replaced : (y : Plan ℕ) → Says text w y → Says text w (plug f (X then (y then p)))
  gap_replaced y k =
      let r = says_around text w f (X then (z then p)) h in
      let s = says_split text w X (z then p) r.1 in
      let u = says_split text w z p s.1 in
      says-plug text w f (X then (y then p)) r.0 (says_then text w X (y then p) s.0 (says_then text w y p k u.1))

-- a port of the chain is one of a cell in use or of the outermost one, and none comes twice

pub chain_absent : (n x : ℕ) (t : Plan ℕ) → Absent (x / 2) (n ∷ labels t) → Absent x (chain_of n t)
chain_absent n x t h =
    (omega arith, absent_join x (ports t) (close n ∷ []) (ports_absent x t h.1) (omega arith, tt))

pub chain_distinct : (n : ℕ) (t : Plan ℕ) → Distinct (n ∷ labels t) → Distinct (chain_of n t)
chain_distinct n t d = (
  absent_join (start n) (ports t) (close n ∷ []) (start_absent n t d.0) (omega arith, tt),
  distinct_join (ports t) (close n ∷ []) (ports_distinct t d.1) (tt, tt)
      (λ x m. (λ e. m (subst (λ z. Absent z (ports t)) (sym e) (close_absent n t d.0)), tt)),
)

-- a block there is one of the plan

then_block : (c : ℕ) (b p q : Plan ℕ) → BlockIn c b q → BlockIn c b (p then q)
unfolding ◌then◌
then_block c b end q h = h
then_block c b (operator d o p) q h = then_block c b p q h
then_block c b (token d t p) q h = then_block c b p q h
then_block c b (block d x p) q h = inr (inr (then_block c b p q h))

plug_block : (c : ℕ) (b : Plan ℕ) (f : Frame ℕ) (q : Plan ℕ) → BlockIn c b q → BlockIn c b (plug f q)
unfolding plug
plug_block c b top q h = h
plug_block c b (within before d out after) q h =
    plug_block c b out (before then block d q after) (then_block c b before (block d q after) (inr (inl h)))

pub gap_block : (c : ℕ) (b : Plan ℕ) (f : Frame ℕ) (X p : Plan ℕ) → BlockIn c b p → BlockIn c b (plug f (X then p))
gap_block c b f X p h = plug_block c b f (X then p) (then_block c b X p h)
