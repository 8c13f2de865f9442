-- What a scan of a sequence from left to right knows of the items that it has passed: which of the last two are blocks, and that no
-- operator before them is ready. With at most two blocks and the next item at hand, the rule itself computes whether that item is a ready
-- operator. And no scan looks into a block: what the blocks hold decides nothing.
use Prim.Native.Nat.{ℕ}
use mathlib.Core.Path.{◌≡◌, refl, ap, sym, ◌∙◌}
use mathlib.Core.List.{List}
use mathlib.Core.Logic.{◌↔◌}
use Rattle.std.specs.Prelude.{Option, None, Some}
use Rattle.rules.specs.Frames.{Rule, hollow, lead, rule_makes}
use Rattle.plan.specs.Options.{◌else◌, under}
use Rattle.plan.specs.declared.Operator.{Operator}
use Rattle.plan.specs.declared.Operator.TheVariants.{A as op_a, B as op_b, C as op_c, D as op_d}
use Rattle.plan.specs.Plan.{Plan, end, operator, token, block, ◌then◌}
use Rattle.rules.specs.Rewriting.{after_two, first_block, leftmost}
use Rattle.plan.proofs.Options.{under-else, under-under}
use Rattle.plan.proofs.Plans.{then_assoc}
use Rattle.kinds.proofs.Tests.{never}

-- q has the items z behind a front part, and its leftmost ready operator is one of z's
pub record Front {L : Type 0} (q z : Plan L) : Type 0 where
  pub front : Plan L
  pub parts : q ≡ front then z
  pub found : leftmost q ≡ under (front then◌) (leftmost z)

-- the items before y: the last one is no block; or it is, and the one before it is none; or both are
pub data Window {L : Type 0} (q y : Plan L) : Type 0 where
  no_block : Front q y → Window q y
  one_block : (m : L) (A : Plan L) → Front q (block m A y) → Window q y
  two_blocks : (l : L) (B : Plan L) (m : L) (A : Plan L) → Front q (block l B (block m A y)) → Window q y

-- behind the items X the operator o is ready, and it is the leftmost one of q
pub record Ready {L : Type 0} (o : Operator) (l m n : L) (X p q : Plan L) : Type 0 where
  pub result : Plan L
  pub rule : Rule o l m n X p q result
  pub found_leftmost : leftmost q ≡ Some result

module _ {L : Type 0} where
  unfoldable pub begin : (q : Plan L) → Front q q
  unfolding ◌then◌ under
  begin q = record { front = end; parts = refl; found = same (leftmost q) }
    where
      same : (x : Option (Plan L)) → x ≡ under (end then◌) x
      same None = refl
      same (Some v) = refl

  -- an operator is ready right behind the blocks that its rule takes
  leftmost_made : (o : Operator) (l : L) (B : Plan L) (m : L) (A : Plan L) (n : L) (p : Plan L)
      → leftmost (lead o l B then block m A (operator n o p)) ≡ Some (rule_makes o l B m A p)
  unfolding ◌then◌ leftmost first_block after_two ◌else◌
  leftmost_made op_a l B m A n p = refl
  leftmost_made op_b l B m A n p = refl
  leftmost_made op_c l B m A n p = refl
  leftmost_made op_d l B m A n p = refl

  module _ {q : Plan L} where
    -- an item i that is no part of a ready operator's rewrite is passed
    unfoldable pub past : {z : Plan L} → Front q z → (i z' : Plan L) → z ≡ i then z' → leftmost z ≡ under (i then◌) (leftmost z') → Front q z'
    past h i z' e found =
        record {
          front = h.front then i;
          parts = h.parts ∙ ap (h.front then◌) e ∙ sym (then_assoc h.front i z');
          found = h.found ∙ ap (under (h.front then◌)) found ∙ under-under (i then◌) (h.front then◌) (leftmost z') ∙ simp then_assoc;
        }

    unfoldable pub past_operator : {l : L} {o : Operator} {p : Plan L} → Front q (operator l o p) → Front q p
    unfolding ◌then◌ leftmost
    past_operator {l} {o} {p} h = past h (operator l o end) p refl refl

    unfoldable pub past_token : {l : L} {t : List ℕ} {p : Plan L} → Front q (token l t p) → Front q p
    unfolding ◌then◌ leftmost
    past_token {l} {t} {p} h = past h (token l t end) p refl refl

    unfoldable pub past_block : {m : L} {A p : Plan L} → Front q (block m A p) → first_block m A p ≡ None → Front q p
    unfolding ◌then◌ leftmost ◌else◌
    past_block {m} {A} {p} h e = past h (block m A end) p refl (ap (◌else under (block m A) (leftmost p)) e)

    -- nothing of y is ready, whatever stands before it
    past_all : {y : Plan L} → Window q y → ((l : L) (B : Plan L) (m : L) (A : Plan L) → after_two l B m A y ≡ None)
        → ((m : L) (A : Plan L) → first_block m A y ≡ None) → Front q y
    unfolding first_block
    past_all (no_block h) two one = h
    past_all (one_block m A h) two one = past_block h (one m A)
    past_all (two_blocks l B m A h) two one = past_block (past_block h (two l B m A)) (one m A)

    -- at the end
    pub none_ready : Window q end → leftmost q ≡ None
    unfolding after_two first_block leftmost under
    none_ready h = (past_all h (λ l B m A. refl) (λ m A. refl)).found

    -- a token takes no block
    pub front_token : {l : L} {t : List ℕ} {p : Plan L} → Window q (token l t p) → Front q (token l t p)
    unfolding after_two first_block
    front_token h = past_all h (λ l B m A. refl) (λ m A. refl)

    -- behind a block it is the newer one
    unfoldable pub window_block : {l : L} {C p : Plan L} → Window q (block l C p) → Window q p
    unfolding first_block after_two
    window_block {l} {C} (no_block h) = one_block l C h
    window_block {l} {C} (one_block m A h) = two_blocks m A l C h
    window_block {l} {C} (two_blocks k B m A h) = two_blocks m A l C (past_block h refl)

    pub ready : (o : Operator) {l : L} (B : Plan L) {m : L} (A : Plan L) {n : L} {p : Plan L}
        (h : Front q (lead o l B then block m A (operator n o p))) → Ready o l m n h.front p q
    unfolding under
    ready o {l} B {m} A {n} {p} h =
        record {
          result = h.front then rule_makes o l B m A p;
          rule = record { older = B; newer = A; is = h.parts; gives = refl };
          found_leftmost = h.found ∙ ap (under (h.front then◌)) (leftmost_made o l B m A n p);
        }

-- whether there is a value, and none of which it is
abbrev there : {A : Type 0} → Option A → Option (Unit {0})
there x = under (λ v. tt) x

there_none : {A : Type 0} (x y : Option A) → there x ≡ there y → x ≡ None → y ≡ None
unfolding under
there_none x None e n = refl
there_none x (Some b) e n = let gone : there x ≡ None = ap there n in never cc

both : {A : Type 0} (x y : Option A) → there x ≡ there y → (x ≡ None) ↔ (y ≡ None)
both x y e = (there_none x y e, there_none y x (sym e))

module _ {L : Type 0} where
  after_two-hollow : (l : L) (B : Plan L) (m : L) (A p : Plan L) → there (after_two l end m end (hollow p)) ≡ there (after_two l B m A p)
  unfolding after_two hollow under
  after_two-hollow l B m A end = refl
  after_two-hollow l B m A (operator n op_a p) = refl
  after_two-hollow l B m A (operator n op_b p) = refl
  after_two-hollow l B m A (operator n op_c p) = refl
  after_two-hollow l B m A (operator n op_d p) = refl
  after_two-hollow l B m A (token n t p) = refl
  after_two-hollow l B m A (block n C p) = refl

  first_block-hollow : (l : L) (A p : Plan L) → there (first_block l end (hollow p)) ≡ there (first_block l A p)
  unfolding first_block hollow under
  first_block-hollow l A end = refl
  first_block-hollow l A (operator n op_a p) = refl
  first_block-hollow l A (operator n op_b p) = refl
  first_block-hollow l A (operator n op_c p) = refl
  first_block-hollow l A (operator n op_d p) = refl
  first_block-hollow l A (token n t p) = refl
  first_block-hollow l A (block m B p) = after_two-hollow l A m B p

  leftmost-there : (p : Plan L) → there (leftmost (hollow p)) ≡ there (leftmost p)
  unfolding leftmost hollow
  leftmost-there end = refl
  leftmost-there (operator l o p) = simp under-under (leftmost-there p)
  leftmost-there (token l t p) = simp under-under (leftmost-there p)
  leftmost-there (block l A p) =
      sym (under-else (λ v. tt) (first_block l end (hollow p)) (under (block l end) (leftmost (hollow p))) refl refl)
      ∙ under-else (λ v. tt) (first_block l A p) (under (block l A) (leftmost p)) (first_block-hollow l A p) (simp under-under (leftmost-there p))

  -- whether a sequence has a ready operator of its own does not depend on what its blocks hold
  pub leftmost-hollow : (p : Plan L) → (leftmost (hollow p) ≡ None) ↔ (leftmost p ≡ None)
  leftmost-hollow p = both (leftmost (hollow p)) (leftmost p) (leftmost-there p)

  pub leftmost_alike : (p q : Plan L) → hollow p ≡ hollow q → (leftmost p ≡ None) ↔ (leftmost q ≡ None)
  leftmost_alike p q e = both (leftmost p) (leftmost q) (sym (leftmost-there p) ∙ ap (λ x. there (leftmost x)) e ∙ leftmost-there q)
