-- The order's choice in a sequence is the leftmost ready operator, counted by number: `leftmost` rewrites that one and nothing else,
-- and finds none exactly when no item is a ready operator. An item that is passed moves every number by one; a block may be passed
-- where it is no part of a rewrite, since then the operators behind it are as ready without it.
use Prim.Native.Nat.{ℕ, zero, suc, ◌+◌, ◌<◌, ◌≤◌}
use mathlib.Core.Path.{◌≡◌, refl, ap, sym, subst, ◌∙◌}
use mathlib.Core.Logic.{◌↔◌}
use Rattle.std.specs.Prelude.{Option, None, Some}
use native.Mathlib.Omega.{arith}
use Rattle.rules.specs.Frames.{lead, rule_makes}
use Rattle.rules.specs.Leftmost.{takes, ReadyBehind, ReadyAt, items, RewrittenAt, LeftmostRewritten}
use Rattle.plan.specs.Options.{◌else◌, under}
use Rattle.plan.specs.declared.Operator.{Operator}
use Rattle.plan.specs.declared.Operator.TheVariants.{A as op_a, B as op_b, C as op_c, D as op_d}
use Rattle.plan.specs.Plan.{Plan, end, operator, token, block, ◌then◌}
use Rattle.rules.specs.Rewriting.{after_two, first_block, leftmost}
use Rattle.plan.proofs.Options.{Each, some_is_not_none}
use Rattle.plan.proofs.Plans.{then_assoc}

takes-at_most : (o : Operator) → takes o ≤ 2
takes-at_most op_a = omega arith
takes-at_most op_b = omega arith
takes-at_most op_c = omega arith
takes-at_most op_d = omega arith

takes_one : (o : Operator) → 1 ≤ takes o
takes_one op_a = omega arith
takes_one op_b = omega arith
takes_one op_c = omega arith
takes_one op_d = omega arith

module _ {L : Type 0} where
  items-then : (p q : Plan L) → items (p then q) ≡ items p + items q
  unfolding items ◌then◌
  items-then end q = omega arith
  items-then (operator l o p) q = omega (arith, items-then p q)
  items-then (token l t p) q = omega (arith, items-then p q)
  items-then (block l b p) q = omega (arith, items-then p q)

  -- more blocks before an operator do no harm, and more than two no good
  more_blocks : {k m : ℕ} (p : Plan L) (i : ℕ) → k ≤ m → ReadyBehind k p i → ReadyBehind m p i
  more_blocks end i h r = r
  more_blocks (operator l o p) zero h r = omega arith
  more_blocks (operator l o p) (suc i) h r = r
  more_blocks (token l t p) zero h r = r
  more_blocks (token l t p) (suc i) h r = r
  more_blocks (block l b p) zero h r = r
  more_blocks (block l b p) (suc i) h r = more_blocks p i (omega arith) r

  two_blocks : (k : ℕ) (p : Plan L) (i : ℕ) → ReadyBehind k p i → ReadyBehind 2 p i
  two_blocks k end i r = r
  two_blocks k (operator l o p) zero r = takes-at_most o
  two_blocks k (operator l o p) (suc i) r = r
  two_blocks k (token l t p) zero r = r
  two_blocks k (token l t p) (suc i) r = r
  two_blocks k (block l b p) zero r = r
  two_blocks k (block l b p) (suc i) r = more_blocks p i (omega arith) (two_blocks (suc k) p i r)

  -- a block that is no part of a rewrite makes nothing ready
  behind_two : (l : L) (B : Plan L) (m : L) (A p : Plan L) (i : ℕ) → after_two l B m A p ≡ None → ReadyBehind 2 p i → ReadyBehind 1 p i
  unfolding after_two
  behind_two l B m A end i e r = r
  behind_two l B m A (operator n op_a p) zero e r = absurd (some_is_not_none e)
  behind_two l B m A (operator n op_b p) zero e r = absurd (some_is_not_none e)
  behind_two l B m A (operator n op_c p) zero e r = omega arith
  behind_two l B m A (operator n op_d p) zero e r = omega arith
  behind_two l B m A (operator n o p) (suc i) e r = r
  behind_two l B m A (token n t p) zero e r = r
  behind_two l B m A (token n t p) (suc i) e r = r
  behind_two l B m A (block n C p) zero e r = r
  behind_two l B m A (block n C p) (suc i) e r = two_blocks 3 p i r

  behind_one : (l : L) (A p : Plan L) (i : ℕ) → first_block l A p ≡ None → ReadyBehind 1 p i → ReadyAt p i
  unfolding first_block
  behind_one l A end i e r = r
  behind_one l A (operator n op_a p) zero e r = omega arith
  behind_one l A (operator n op_b p) zero e r = omega arith
  behind_one l A (operator n op_c p) zero e r = absurd (some_is_not_none e)
  behind_one l A (operator n op_d p) zero e r = absurd (some_is_not_none e)
  behind_one l A (operator n o p) (suc i) e r = r
  behind_one l A (token n t p) zero e r = r
  behind_one l A (token n t p) (suc i) e r = r
  behind_one l A (block m B p) zero e r = r
  behind_one l A (block m B p) (suc i) e r = behind_two l A m B p i e r

  -- what the order finds in a sequence: no ready operator, or the leftmost
  abbrev Chosen : Plan L → Option (Plan L) → Type 0
  Chosen p None = (i : ℕ) → ReadyAt p i → ⊥
  Chosen p (Some q) = LeftmostRewritten p q

  -- the item x comes before p, and is neither ready nor part of a rewrite: what is ready in p is so one number later
  record Passed (x p : Plan L) : Type 0 where
    pub one : items x ≡ 1
    pub first : ReadyAt (x then p) 0 → ⊥
    pub back : (i : ℕ) → ReadyAt (x then p) (suc i) → ReadyAt p i
    pub on : (i : ℕ) → ReadyAt p i → ReadyAt (x then p) (suc i)

  later : (x : Plan L) {p : Plan L} {i : ℕ} {q : Plan L} → items x ≡ 1 → RewrittenAt p i q → RewrittenAt (x then p) (suc i) (x then q)
  later x {p} {i} {q} one h =
      record {
        which = h.which;
        label_B = h.label_B;
        label_A = h.label_A;
        label = h.label;
        before = x then h.before;
        behind = h.behind;
        rule =
            record {
              older = h.rule.older;
              newer = h.rule.newer;
              is = ap (x then◌) h.rule.is ∙ sym (then_assoc x h.before _);
              gives = ap (x then◌) h.rule.gives ∙ sym (then_assoc x h.before _);
            };
        number = omega (arith, items-then x h.before, h.number);
      }

  passed : {x p : Plan L} → Passed x p → (y : Option (Plan L)) → Chosen p y → Chosen (x then p) (under (x then◌) y)
  unfolding under
  passed {x} {p} h None c = nothing
    where
      nothing : (i : ℕ) → ReadyAt (x then p) i → ⊥
      nothing zero r = h.first r
      nothing (suc i) r = c i (h.back i r)
  passed {x} {p} h (Some q) c =
      record {
        number = suc c.number;
        ready = h.on c.number c.ready;
        leftmost = nothing;
        rewritten = later x h.one c.rewritten;
      }
    where
      nothing : (j : ℕ) → j < suc c.number → ReadyAt (x then p) j → ⊥
      nothing zero g r = h.first r
      nothing (suc j) g r = c.leftmost j (omega arith) (h.back j r)

  -- the operator right behind the blocks that it takes, with nothing before them
  at_once : (o : Operator) (l : L) (B : Plan L) (m : L) (A : Plan L) (n : L) (p : Plan L)
      → RewrittenAt (lead o l B then block m A (operator n o p)) (takes o) (rule_makes o l B m A p)
  unfolding items ◌then◌
  at_once o l B m A n p =
      record {
        which = o;
        label_B = l;
        label_A = m;
        label = n;
        before = end;
        behind = p;
        rule = record { older = B; newer = A; is = refl; gives = refl };
        number = omega arith;
      }

  before_two : (l : L) (B : Plan L) (m : L) (A p : Plan L) (j : ℕ) → j < 2 → ReadyAt (block l B (block m A p)) j → ⊥
  before_two l B m A p zero g r = r
  before_two l B m A p (suc zero) g r = r
  before_two l B m A p (suc (suc j)) g r = omega arith

  before_one : (l : L) (A p : Plan L) (j : ℕ) → j < 1 → ReadyAt (block l A p) j → ⊥
  before_one l A p zero g r = r
  before_one l A p (suc j) g r = omega arith

  after_two_chosen : (l : L) (B : Plan L) (m : L) (A p : Plan L) → Each (LeftmostRewritten (block l B (block m A p))) (after_two l B m A p)
  unfolding after_two ◌then◌
  after_two_chosen l B m A end = tt
  after_two_chosen l B m A (operator n op_a p) =
      record { number = 2; ready = omega arith; leftmost = before_two l B m A (operator n op_a p); rewritten = at_once op_a l B m A n p }
  after_two_chosen l B m A (operator n op_b p) =
      record { number = 2; ready = omega arith; leftmost = before_two l B m A (operator n op_b p); rewritten = at_once op_b l B m A n p }
  after_two_chosen l B m A (operator n op_c p) = tt
  after_two_chosen l B m A (operator n op_d p) = tt
  after_two_chosen l B m A (token n t p) = tt
  after_two_chosen l B m A (block n C p) = tt

  first_block_chosen : (l : L) (A p : Plan L) → Each (LeftmostRewritten (block l A p)) (first_block l A p)
  unfolding first_block ◌then◌
  first_block_chosen l A end = tt
  first_block_chosen l A (operator n op_a p) = tt
  first_block_chosen l A (operator n op_b p) = tt
  first_block_chosen l A (operator n op_c p) =
      record { number = 1; ready = omega arith; leftmost = before_one l A (operator n op_c p); rewritten = at_once op_c l end l A n p }
  first_block_chosen l A (operator n op_d p) =
      record { number = 1; ready = omega arith; leftmost = before_one l A (operator n op_d p); rewritten = at_once op_d l end l A n p }
  first_block_chosen l A (token n t p) = tt
  first_block_chosen l A (block m B p) = after_two_chosen l A m B p

  else_chosen : (p : Plan L) (y z : Option (Plan L)) → Each (LeftmostRewritten p) y → (y ≡ None → Chosen p z) → Chosen p (y else z)
  unfolding ◌else◌
  else_chosen p None z h c = c refl
  else_chosen p (Some q) z h c = h

  chosen : (p : Plan L) → Chosen p (leftmost p)
  unfolding leftmost ◌then◌ items
  chosen end = λ i r. r
  chosen (operator l o p) =
      let item : Passed (operator l o end) p =
      record { one = refl; first = λ r. omega (arith, takes_one o); back = λ i r. r; on = λ i r. r } in
      passed item (leftmost p) (chosen p)
  chosen (token l t p) =
      let item : Passed (token l t end) p = record { one = refl; first = λ r. r; back = λ i r. r; on = λ i r. r } in
      passed item (leftmost p) (chosen p)
  chosen (block l A p) =
      let after = chosen p in
      let item : first_block l A p ≡ None → Passed (block l A end) p =
      λ e. record { one = refl; first = λ r. r; back = λ i. behind_one l A p i e; on = λ i. more_blocks p i (omega arith) } in
      else_chosen (block l A p) (first_block l A p) _ (first_block_chosen l A p) (λ e. passed (item e) (leftmost p) after)

  -- "the leftmost of those is rewritten"
  pub leftmost_rewritten : (p : Plan L) {q : Plan L} → leftmost p ≡ Some q → LeftmostRewritten p q
  leftmost_rewritten p e = subst (Chosen p) e (chosen p)

  -- and none is exactly where no operator of the sequence is ready
  pub leftmost_none_iff : (p : Plan L) → (leftmost p ≡ None) ↔ ((i : ℕ) → ReadyAt p i → ⊥)
  leftmost_none_iff p = (λ e. subst (Chosen p) e (chosen p), go (leftmost p) (chosen p))
    where
      go : (y : Option (Plan L)) → Chosen p y → ((i : ℕ) → ReadyAt p i → ⊥) → y ≡ None
      go None c stuck = refl
      go (Some q) c stuck = absurd (stuck c.number c.ready)
