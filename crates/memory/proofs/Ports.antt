-- Laws of the ports of a plan and of what its cells say: over `_then_`, a port belongs to a labelled cell, no port comes twice
-- where no label does, and what a store leaves as it is. Two kinds of stores: one in a cell that the plan does not have, and
-- one at the link of a port, where that port is a start or a block's close.
use Prim.Native.Nat.{ℕ, ◌+◌, ◌*◌, ◌/◌, ◌<◌}
use mathlib.Core.Path.{◌≡◌, refl, ap, sym, ◌∙◌, subst, subst₂}
use mathlib.Core.Logic.{◌≢◌}
use mathlib.Core.List.{List, ◌∷◌, ◌++◌, append_assoc}
use native.Mathlib.Omega.{arith}
use lib.ListN.{set}
use lib.Seq.{get_or-set_other}
use Rattle.kinds.specs.Limits.{cell_numbers}
use Rattle.plan.specs.Plan.{Plan, end, operator, token, block, ◌then◌, labels}
use Rattle.pieces.specs.Numbered.{operator_number}
use Rattle.plan.specs.declared.Operator.{Operator}
use Rattle.plan.specs.declared.Operator.TheVariants.{A as op_a, B as op_b, C as op_c, D as op_d}
use Rattle.plan.specs.Reading.{Around, outermost, inside}
use Rattle.plan.specs.Pieces.{seen}
use Rattle.pieces.specs.Written.{TokenAt}
use Rattle.memory.specs.Memory.{start, close, datum, block_kind, ports, Says, Absent, Distinct, KeepsOuter, ports_so_far, SaysSoFar, last_of, Below}
use Rattle.memory.proofs.Lists.{absent_join, absent_split, distinct_join, distinct_split, not_behind, last_append, below_join, below_split}

-- one sequence, then another

pub ports-then : (p q : Plan ℕ) → ports (p then q) ≡ ports p ++ ports q
unfolding ◌then◌ ports
ports-then end q = refl
ports-then (operator c o p) q = ap (start c ∷◌) (ports-then p q)
ports-then (token c t p) q = ap (start c ∷◌) (ports-then p q)
ports-then (block c b p) q = rw (ports-then p q, append_assoc)

pub so_far-then : (out : Around) (here q : Plan ℕ) → ports_so_far out (here then q) ≡ ports_so_far out here ++ ports q
unfolding ports_so_far
so_far-then outermost here q = ports-then here q
so_far-then (inside c before out) here q = rw (ports-then here q, append_assoc)

pub says_then : (text w : List ℕ) (p q : Plan ℕ) → Says text w p → Says text w q → Says text w (p then q)
unfolding ◌then◌
says_then text w end q h k = k
says_then text w (operator c o p) q h k = (h.0, says_then text w p q h.1 k)
says_then text w (token c t p) q h k = (h.0, h.1, says_then text w p q h.2 k)
says_then text w (block c b p) q h k = (h.0, h.1, says_then text w p q h.2 k)

pub so_far-says-then : (text w : List ℕ) (out : Around) (here q : Plan ℕ) → SaysSoFar text w out here → Says text w q → SaysSoFar text w out (here then q)
so_far-says-then text w outermost here q h k = says_then text w here q h k
so_far-says-then text w (inside c before out) here q h k = (h.0, h.1, says_then text w here q h.2 k)

-- the port x is one of cell x / 2

pub ports_absent : (x : ℕ) (t : Plan ℕ) → Absent (x / 2) (labels t) → Absent x (ports t)
unfolding ports labels
ports_absent x end h = tt
ports_absent x (operator c o p) h = (omega arith, ports_absent x p h.1)
ports_absent x (token c t p) h = (omega arith, ports_absent x p h.1)
ports_absent x (block c b p) h =
    let r = absent_split (x / 2) (labels b) (labels p) h.1 in
    (omega arith, absent_join x (ports b) (close c ∷ ports p) (ports_absent x b r.0) (omega arith, ports_absent x p r.1))

pub so_far_absent : (x : ℕ) (out : Around) (here : Plan ℕ) → Absent (x / 2) (seen out here) → Absent x (ports_so_far out here)
unfolding ports_so_far seen
so_far_absent x outermost here h = ports_absent x here h
so_far_absent x (inside c before out) here h =
    let r = absent_split (x / 2) (seen out before) (c ∷ labels here) h in
    absent_join x (ports_so_far out before) (start c ∷ ports here) (so_far_absent x out before r.0) (omega arith, ports_absent x here r.1.1)

pub start_absent : (c : ℕ) (t : Plan ℕ) → Absent c (labels t) → Absent (start c) (ports t)
start_absent c t h = ports_absent (start c) t (subst (λ z. Absent z (labels t)) (omega arith) h)

pub close_absent : (c : ℕ) (t : Plan ℕ) → Absent c (labels t) → Absent (close c) (ports t)
close_absent c t h = ports_absent (close c) t (subst (λ z. Absent z (labels t)) (omega arith) h)

pub ports_distinct : (t : Plan ℕ) → Distinct (labels t) → Distinct (ports t)
unfolding ports labels
ports_distinct end d = tt
ports_distinct (operator c o p) d = (start_absent c p d.0, ports_distinct p d.1)
ports_distinct (token c t p) d = (start_absent c p d.0, ports_distinct p d.1)
ports_distinct (block c b p) d =
    let r = distinct_split (labels b) (labels p) d.1 in
    let k = absent_split c (labels b) (labels p) d.0 in (
      absent_join (start c) (ports b) (close c ∷ ports p) (start_absent c b k.0) (omega arith, start_absent c p k.1),
      distinct_join (ports b) (close c ∷ ports p) (ports_distinct b r.0) (close_absent c p k.1, ports_distinct p r.1)
          (λ x m. (
            λ e. m (subst (λ z. Absent z (ports b)) (sym e) (close_absent c b k.0)),
            ports_absent x p (not_behind (x / 2) (labels b) (labels p) d.1 (λ h. m (ports_absent x b h))),
          )),
    )

pub so_far_distinct : (out : Around) (here : Plan ℕ) → Distinct (seen out here) → Distinct (ports_so_far out here)
unfolding ports_so_far seen
so_far_distinct outermost here d = ports_distinct here d
so_far_distinct (inside c before out) here d =
    let r = distinct_split (seen out before) (c ∷ labels here) d in
    distinct_join (ports_so_far out before) (start c ∷ ports here) (so_far_distinct out before r.0)
    (start_absent c here r.1.0, ports_distinct here r.1.1)
    (λ x m. let k = not_behind (x / 2) (seen out before) (c ∷ labels here) d (λ h. m (so_far_absent x out before h)) in
    (omega arith, ports_absent x here k.1))

-- a store in another cell

pub says-beside : (text w : List ℕ) (t : Plan ℕ) (i a : ℕ) → Absent (i / cell_numbers) (labels t) → Says text w t → Says text (set w i a) t
unfolding labels
says-beside text w end i a h k = tt
says-beside text w (operator c o p) i a h k =
    (get_or-set_other w i (2 * start c) a 0 (omega arith) ∙ k.0, says-beside text w p i a h.1 k.1)
says-beside text w (token c t p) i a h k = (
  get_or-set_other w i (2 * start c) a 0 (omega arith) ∙ k.0,
  subst₂ (λ at len. TokenAt text at len t) (sym (get_or-set_other w i (2 * close c) a 0 (omega arith)))
      (sym (get_or-set_other w i (2 * close c + 1) a 0 (omega arith))) k.1,
  says-beside text w p i a h.1 k.2,
)
says-beside text w (block c b p) i a h k =
    let r = absent_split (i / cell_numbers) (labels b) (labels p) h.1 in
    (get_or-set_other w i (2 * start c) a 0 (omega arith) ∙ k.0, says-beside text w b i a r.0 k.1, says-beside text w p i a r.1 k.2)

pub so_far-says-beside : (text w : List ℕ) (out : Around) (here : Plan ℕ) (i a : ℕ) → Absent (i / cell_numbers) (seen out here)
    → SaysSoFar text w out here → SaysSoFar text (set w i a) out here
unfolding seen
so_far-says-beside text w outermost here i a h k = says-beside text w here i a h k
so_far-says-beside text w (inside c before out) here i a h k =
    let r = absent_split (i / cell_numbers) (seen out before) (c ∷ labels here) h in (
      so_far-says-beside text w out before i a r.0 k.0,
      get_or-set_other w i (2 * start c) a 0 (omega arith) ∙ k.1,
      says-beside text w here i a r.1.1 k.2,
    )

pub keeps_beside : (n : ℕ) (w : List ℕ) (out : Around) (here : Plan ℕ) (i a : ℕ) → Absent (i / cell_numbers) (seen out here)
    → KeepsOuter n w out → KeepsOuter n (set w i a) out
unfolding seen
keeps_beside n w outermost here i a h k = tt
keeps_beside n w (inside c before out) here i a h k =
    let r = absent_split (i / cell_numbers) (seen out before) (c ∷ labels here) h in
    (get_or-set_other w i (2 * close c + 1) a 0 (omega arith) ∙ k.0, keeps_beside n w out before i a r.0 k.1)

-- A store at a link: a port is loose if its link says nothing of its own cell, so if it is a start or a block's close. A
-- token's close is not, for its link is the token's length.

abbrev pub Loose : List ℕ → ℕ → Type 0
Loose w p = (c : ℕ) → p ≡ close c → datum w (start c) ≡ block_kind

pub start_loose : (w : List ℕ) (c : ℕ) → Loose w (start c)
start_loose w c d e = absurd (omega arith)

pub close_loose : (w : List ℕ) (c : ℕ) → datum w (start c) ≡ block_kind → Loose w (close c)
close_loose w c h d e = subst (λ z. datum w (start z) ≡ block_kind) (omega arith) h

pub last_loose : (text w : List ℕ) (x : ℕ) (t : Plan ℕ) → Loose w x → Says text w t → Loose w (last_of x (ports t))
unfolding ports
last_loose text w x end l h = l
last_loose text w x (operator c o p) l h = last_loose text w (start c) p (start_loose w c) h.1
last_loose text w x (token c t p) l h = last_loose text w (start c) p (start_loose w c) h.2
last_loose text w x (block c b p) l h =
    rw (last_append (start c) (close c) (ports b) (ports p)) (last_loose text w (close c) p (close_loose w c h.0) h.2)

pub says-link : (text w : List ℕ) (t : Plan ℕ) (p a : ℕ) → Loose w p → Says text w t → Says text (set w (2 * p + 1) a) t
says-link text w end p a l k = tt
says-link text w (operator c o q) p a l k =
    (get_or-set_other w (2 * p + 1) (2 * start c) a 0 (omega arith) ∙ k.0, says-link text w q p a l k.1)
says-link text w (token c t q) p a l k =
    let other : close c ≢ p = λ e. (let b = l c (sym e) in omega arith) in (
      get_or-set_other w (2 * p + 1) (2 * start c) a 0 (omega arith) ∙ k.0,
      subst₂ (λ at len. TokenAt text at len t) (sym (get_or-set_other w (2 * p + 1) (2 * close c) a 0 (omega arith)))
          (sym (get_or-set_other w (2 * p + 1) (2 * close c + 1) a 0 (omega arith))) k.1,
      says-link text w q p a l k.2,
    )
says-link text w (block c b q) p a l k =
    (get_or-set_other w (2 * p + 1) (2 * start c) a 0 (omega arith) ∙ k.0, says-link text w b p a l k.1, says-link text w q p a l k.2)

pub so_far-says-link : (text w : List ℕ) (out : Around) (here : Plan ℕ) (p a : ℕ) → Loose w p
    → SaysSoFar text w out here → SaysSoFar text (set w (2 * p + 1) a) out here
so_far-says-link text w outermost here p a l k = says-link text w here p a l k
so_far-says-link text w (inside c before out) here p a l k = (
  so_far-says-link text w out before p a l k.0,
  get_or-set_other w (2 * p + 1) (2 * start c) a 0 (omega arith) ∙ k.1,
  says-link text w here p a l k.2,
)

-- the close of an open block is not yet in the chain: its link is the cell around it
pub keeps_link : (n : ℕ) (w : List ℕ) (out : Around) (here : Plan ℕ) (p a : ℕ) → ((c : ℕ) → p ≡ close c → Absent c (seen out here))
    → KeepsOuter n w out → KeepsOuter n (set w (2 * p + 1) a) out
unfolding seen
keeps_link n w outermost here p a h k = tt
keeps_link n w (inside c before out) here p a h k =
    let other : close c ≢ p = λ e. (absent_split c (seen out before) (c ∷ labels here) (h c (sym e))).1.0 refl in (
      get_or-set_other w (2 * p + 1) (2 * close c + 1) a 0 (omega arith) ∙ k.0,
      keeps_link n w out before p a (λ d e. (absent_split d (seen out before) (c ∷ labels here) (h d e)).0) k.1,
    )

-- an operator's kind is neither a token's nor a block's
pub kind_low : (o : Operator) → operator_number o < 4
kind_low op_a = omega arith
kind_low op_b = omega arith
kind_low op_c = omega arith
kind_low op_d = omega arith

pub below_ports : (n : ℕ) (t : Plan ℕ) → Below n (labels t) → Below (start n) (ports t)
unfolding ports labels
below_ports n end h = tt
below_ports n (operator c o p) h = (omega arith, below_ports n p h.1)
below_ports n (token c t p) h = (omega arith, below_ports n p h.1)
below_ports n (block c b p) h =
    let r = below_split n (labels b) (labels p) h.1 in
    (omega arith, below_join (start n) (ports b) (close c ∷ ports p) (below_ports n b r.0) (omega arith, below_ports n p r.1))
