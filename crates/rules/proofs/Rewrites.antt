-- Laws of the four rewrites and of their order.
use Prim.Native.Nat.{ℕ, ◌+◌, ◌<◌}
use mathlib.Core.Path.{◌≡◌, refl, ap, sym, ◌∙◌}
use mathlib.Core.Logic.{◌↔◌, ◌⊎◌, inl, inr, ⊎_elim, ⊎_map}
use mathlib.Core.Bool.{true}
use Rattle.std.specs.Prelude.{Option, None, Some}
use Rattle.std.specs.Prelude.{IsSome}
use mathlib.Core.List.{List}
use native.Mathlib.Omega.{arith}
use Rattle.plan.specs.declared.Operator.TheVariants.{A as op_a, B as op_b, C as op_c, D as op_d}
use Rattle.plan.specs.Plan.{Plan, end, operator, token, block, ◌then◌, cells, relabel, changed, renamed, WithoutC}
use Rattle.plan.specs.Token.{Allowed}
use Rattle.kinds.proofs.Tests.{false_is_not_true}
use Rattle.rules.specs.Rewriting.{◌⟶◌, rule_a, rule_b, rule_c, rule_d, past_operator, past_token, past_block, in_block, after_two, first_block, leftmost, inner, next, finished}
use Rattle.plan.specs.Options.{◌else◌, is_none, under}
use Rattle.plan.proofs.Options.{Each, else_each, else-left, else-right, else_either, none_when, under_each, under-is_some, under_none, under-else, under_same, under_square, under-under, some_under, else_front}
use Rattle.plan.proofs.Plans.{allowed_then, cells-then, changed_then, relabel-changed, then_assoc}

-- The next rewrite is one of the four rules' ..
module _ {L : Type 0} where
  pub after_two_step : (l : L) (B : Plan L) (m : L) (A p : Plan L) →
      Each (◌⟶◌ (block l B (block m A p))) (after_two l B m A p)
  unfolding after_two
  after_two_step l B m A end = tt
  after_two_step l B m A (operator n op_a p) = rule_a
  after_two_step l B m A (operator n op_b p) = rule_b
  after_two_step l B m A (operator n op_c p) = tt
  after_two_step l B m A (operator n op_d p) = tt
  after_two_step l B m A (token n t p) = tt
  after_two_step l B m A (block n C p) = tt

  pub first_block_step : (l : L) (A p : Plan L) → Each (◌⟶◌ (block l A p)) (first_block l A p)
  unfolding first_block
  first_block_step l A end = tt
  first_block_step l A (operator n op_a p) = tt
  first_block_step l A (operator n op_b p) = tt
  first_block_step l A (operator n op_c p) = rule_c
  first_block_step l A (operator n op_d p) = rule_d
  first_block_step l A (token n t p) = tt
  first_block_step l A (block m B p) = after_two_step l A m B p

  pub leftmost_step : (p : Plan L) → Each (◌⟶◌ p) (leftmost p)
  unfolding leftmost
  leftmost_step end = tt
  leftmost_step (operator l o p) = under_each (operator l o) (◌⟶◌ p) _ (λ r. past_operator) (leftmost p) (leftmost_step p)
  leftmost_step (token l t p) = under_each (token l t) (◌⟶◌ p) _ (λ r. past_token) (leftmost p) (leftmost_step p)
  leftmost_step (block l A p) =
      let after = under_each (block l A) (◌⟶◌ p) (◌⟶◌ (block l A p)) (λ r. past_block) (leftmost p) (leftmost_step p) in
      else_each _ (first_block l A p) _ (first_block_step l A p) after

  pub inner_step : (p : Plan L) → Each (◌⟶◌ p) (inner p)
  unfolding inner
  inner_step end = tt
  inner_step (operator l o p) = under_each (operator l o) (◌⟶◌ p) _ (λ r. past_operator) (inner p) (inner_step p)
  inner_step (token l t p) = under_each (token l t) (◌⟶◌ p) _ (λ r. past_token) (inner p) (inner_step p)
  inner_step (block l A p) =
      let inside = else_each (◌⟶◌ A) (leftmost A) (inner A) (leftmost_step A) (inner_step A) in
      let around = under_each (λ B. block l B p) (◌⟶◌ A) (◌⟶◌ (block l A p)) (λ r. in_block) _ inside in
      let after = under_each (block l A) (◌⟶◌ p) (◌⟶◌ (block l A p)) (λ r. past_block) (inner p) (inner_step p) in
      else_each _ (under (λ B. block l B p) (leftmost A else inner A)) _ around after

  pub next_step : (p : Plan L) {q : Plan L} → next p ≡ Some q → p ⟶ q
  unfolding next
  next_step p h = rw h at (else_each (◌⟶◌ p) (leftmost p) (inner p) (leftmost_step p) (inner_step p))

  -- .. and where a rule fits, there is a next one.
  pub ready : {p q : Plan L} → p ⟶ q → IsSome (leftmost p) ⊎ IsSome (inner p)
  unfolding leftmost inner first_block after_two ◌else◌
  ready rule_a = inl refl
  ready rule_b = inl refl
  ready rule_c = inl refl
  ready rule_d = inl refl
  ready (past_operator {p} s) = ⊎_map (under-is_some _ (leftmost p)) (under-is_some _ (inner p)) (ready s)
  ready (past_token {p} s) = ⊎_map (under-is_some _ (leftmost p)) (under-is_some _ (inner p)) (ready s)
  ready (past_block {l} {A} {p} s) =
      ⊎_map
      (λ h. else-right (first_block l A p) _ (under-is_some (block l A) (leftmost p) h))
      (λ h. else-right (under (λ B. block l B p) (leftmost A else inner A)) _ (under-is_some (block l A) (inner p) h))
      (ready s)
  ready (in_block {l} {A} {p} s) =
      let inside = else_either (leftmost A) (inner A) (ready s) in
      let around = under-is_some (λ B. block l B p) (leftmost A else inner A) inside in
      inr (else-left (under (λ B. block l B p) (leftmost A else inner A)) _ around)

  pub next-finished : (p : Plan L) → next p ≡ None → {q : Plan L} → p ⟶ q → ⊥
  unfolding next
  next-finished p h s = false_is_not_true (rw h at (else_either (leftmost p) (inner p) (ready s)))

  pub finished_iff : (p : Plan L) → (next p ≡ None) ↔ ((q : Plan L) → p ⟶ q → ⊥)
  finished_iff p = (λ h q s. next-finished p h s, go (next p) refl)
    where
      go : (x : Option (Plan L)) → next p ≡ x → ((q : Plan L) → p ⟶ q → ⊥) → next p ≡ None
      go None h stuck = h
      go (Some q) h stuck = absurd (stuck q (next_step p h))

  pub finished_when : (p : Plan L) → (finished p ≡ true) ↔ ((q : Plan L) → p ⟶ q → ⊥)
  unfolding finished
  finished_when p = (λ h. (finished_iff p).0 ((none_when (next p)).0 h), λ stuck. (none_when (next p)).1 ((finished_iff p).1 stuck))

  -- The order: a ready operator of the sequence itself goes before those inside its blocks.
  pub leftmost-first : (p : Plan L) {q : Plan L} → leftmost p ≡ Some q → next p ≡ Some q
  unfolding next ◌else◌
  leftmost-first p h = rw h

  pub inner-after : (p : Plan L) → leftmost p ≡ None → next p ≡ inner p
  unfolding next ◌else◌
  inner-after p h = rw h

  -- The table of cells: before a rewrite and after it.
  pub cells_a : (l m n : L) (B A p : Plan L) →
      cells (block l B (block m A (operator n op_a p))) ≡ cells (A then block l B p) + 2
  unfolding cells
  cells_a l m n B A p = omega (arith, cells-then A (block l B p))

  pub cells-b : (l m n : L) (B A p : Plan L) →
      cells (block l B (block m A (operator n op_b p))) ≡ cells (block m (block l B A) p) + 1
  unfolding cells
  cells-b l m n B A p = omega arith

  pub cells_c : (l n : L) (A p : Plan L) →
      cells (block l A (block l A p)) ≡ cells (block l A (operator n op_c p)) + cells A
  unfolding cells
  cells_c l n A p = omega arith

  pub cells_d : (l n : L) (A p : Plan L) → cells (block l A (operator n op_d p)) ≡ cells p + cells A + 2
  unfolding cells
  cells_d l n A p = omega arith

  -- What a step keeps. Rule a joins two sequences, so joining has to keep it.
  pub step_allowed : {p q : Plan L} (limit : ℕ) → p ⟶ q → Allowed limit p → Allowed limit q
  step_allowed limit (rule_a {l} {B} {A} {p}) h = allowed_then limit A (block l B p) h.1.0 (h.0, h.1.1)
  step_allowed limit rule_b h = ((h.0, h.1.0), h.1.1)
  step_allowed limit rule_c h = (h.0, (h.0, h.1))
  step_allowed limit rule_d h = h.1
  step_allowed limit (past_operator s) h = step_allowed limit s h
  step_allowed limit (past_token s) h = (h.0, step_allowed limit s h.1)
  step_allowed limit (past_block s) h = (h.0, step_allowed limit s h.1)
  step_allowed limit (in_block s) h = (step_allowed limit s h.0, h.1)

  pub without_c_then : (p q : Plan L) → WithoutC p → WithoutC q → WithoutC (p then q)
  unfolding ◌then◌
  without_c_then end q h k = k
  without_c_then (operator l o p) q h k = (h.0, without_c_then p q h.1 k)
  without_c_then (token l t p) q h k = without_c_then p q h k
  without_c_then (block l b p) q h k = (h.0, without_c_then p q h.1 k)

  pub step_without_c : {p q : Plan L} → p ⟶ q → WithoutC p → WithoutC q
  step_without_c (rule_a {l} {B} {A} {p}) h = without_c_then A (block l B p) h.1.0 (h.0, h.1.1.1)
  step_without_c rule_b h = ((h.0, h.1.0), h.1.1.1)
  step_without_c rule_c h = absurd (h.1.0 refl)
  step_without_c rule_d h = h.1.1
  step_without_c (past_operator s) h = (h.0, step_without_c s h.1)
  step_without_c (past_token s) h = step_without_c s h
  step_without_c (past_block s) h = (h.0, step_without_c s h.1)
  step_without_c (in_block s) h = (step_without_c s h.0, h.1)

  -- Only c makes a plan larger, and no other rule leaves its size as it was.
  pub step_smaller : {p q : Plan L} → p ⟶ q → WithoutC p → cells q < cells p
  unfolding cells
  step_smaller (rule_a {l} {m} {n} {B} {A} {p}) h = omega (arith, cells_a l m n B A p)
  step_smaller rule_b h = omega arith
  step_smaller rule_c h = absurd (h.1.0 refl)
  step_smaller rule_d h = omega arith
  step_smaller (past_operator s) h = omega (arith, step_smaller s h.1)
  step_smaller (past_token s) h = omega (arith, step_smaller s h)
  step_smaller (past_block s) h = omega (arith, step_smaller s h.1)
  step_smaller (in_block s) h = omega (arith, step_smaller s h.0)

-- No rule and no choice looks at a label or at a token's text.
module _ {L M : Type 0} (f : L → M) (g : List ℕ → List ℕ) where
  pub after_two-changed : (l : L) (B : Plan L) (m : L) (A p : Plan L) →
      after_two (f l) (changed f g B) (f m) (changed f g A) (changed f g p) ≡ under (changed f g) (after_two l B m A p)
  unfolding after_two under changed
  after_two-changed l B m A end = refl
  after_two-changed l B m A (operator n op_a p) = rw (changed_then f g A (block l B p))
  after_two-changed l B m A (operator n op_b p) = refl
  after_two-changed l B m A (operator n op_c p) = refl
  after_two-changed l B m A (operator n op_d p) = refl
  after_two-changed l B m A (token n t p) = refl
  after_two-changed l B m A (block n C p) = refl

  pub first_block-changed : (l : L) (A p : Plan L) →
      first_block (f l) (changed f g A) (changed f g p) ≡ under (changed f g) (first_block l A p)
  unfolding first_block under changed
  first_block-changed l A end = refl
  first_block-changed l A (operator n op_a p) = refl
  first_block-changed l A (operator n op_b p) = refl
  first_block-changed l A (operator n op_c p) = refl
  first_block-changed l A (operator n op_d p) = refl
  first_block-changed l A (token n t p) = refl
  first_block-changed l A (block m B p) = after_two-changed l A m B p

  -- what stands before a rewrite or around it is changed with it
  pub under-changed : (c : Plan L → Plan L) (d : Plan M → Plan M) → ((p : Plan L) → d (changed f g p) ≡ changed f g (c p)) →
      (x : Option (Plan L)) {y : Option (Plan M)} → y ≡ under (changed f g) x → under d y ≡ under (changed f g) (under c x)
  under-changed c d same x h = rw h (under_square (changed f g) d c (changed f g) same x)

  pub leftmost-changed : (p : Plan L) → leftmost (changed f g p) ≡ under (changed f g) (leftmost p)
  unfolding leftmost changed under
  leftmost-changed end = refl
  leftmost-changed (operator l o p) = under-changed (operator l o) _ (λ q. refl) (leftmost p) (leftmost-changed p)
  leftmost-changed (token l t p) = under-changed (token l t) _ (λ q. refl) (leftmost p) (leftmost-changed p)
  leftmost-changed (block l A p) =
      let after = under-changed (block l A) (block (f l) (changed f g A)) (λ q. refl) (leftmost p) (leftmost-changed p) in
      under-else (changed f g) (first_block l A p) _ (first_block-changed l A p) after

  pub inner-changed : (p : Plan L) → inner (changed f g p) ≡ under (changed f g) (inner p)
  unfolding inner changed under
  inner-changed end = refl
  inner-changed (operator l o p) = under-changed (operator l o) _ (λ q. refl) (inner p) (inner-changed p)
  inner-changed (token l t p) = under-changed (token l t) _ (λ q. refl) (inner p) (inner-changed p)
  inner-changed (block l A p) =
      let inside = under-else (changed f g) (leftmost A) (inner A) (leftmost-changed A) (inner-changed A) in
      let found = leftmost A else inner A in
      let around = under-changed (λ B. block l B p) (λ B. block (f l) B (changed f g p)) (λ q. refl) found inside in
      let after = under-changed (block l A) (block (f l) (changed f g A)) (λ q. refl) (inner p) (inner-changed p) in
      under-else (changed f g) (under (λ B. block l B p) found) _ around after

  pub next-changed : (p : Plan L) → next (changed f g p) ≡ under (changed f g) (next p)
  unfolding next
  next-changed p = under-else (changed f g) (leftmost p) (inner p) (leftmost-changed p) (inner-changed p)

  pub step_changed : {p q : Plan L} → p ⟶ q → changed f g p ⟶ changed f g q
  unfolding changed
  step_changed (rule_a {l} {B} {A} {p}) = rw (changed_then f g A (block l B p)) rule_a
  step_changed rule_b = rule_b
  step_changed rule_c = rule_c
  step_changed rule_d = rule_d
  step_changed (past_operator s) = past_operator (step_changed s)
  step_changed (past_token s) = past_token (step_changed s)
  step_changed (past_block s) = past_block (step_changed s)
  step_changed (in_block s) = in_block (step_changed s)

pub next-relabel : {L M : Type 0} (f : L → M) (p : Plan L) → next (relabel f p) ≡ under (relabel f) (next p)
next-relabel f p =
    ap next (relabel-changed f p) ∙ next-changed f (λ t. t) p ∙ under_same (changed f (λ t. t)) (relabel f) (λ q. sym (relabel-changed f q)) (next p)

pub finished-relabel : {L M : Type 0} (f : L → M) (p : Plan L) → finished (relabel f p) ≡ finished p
unfolding finished
finished-relabel f p = ap is_none (next-relabel f p) ∙ under_none (relabel f) (next p)

-- Every token is inert: whatever its text, the same operator is rewritten, and to the same plan except for the text.
module _ {L : Type 0} (g : List ℕ → List ℕ) where
  pub next-renamed : (p : Plan L) → next (renamed g p) ≡ under (renamed g) (next p)
  next-renamed = next-changed (λ l. l) g

  pub step_renamed : {p q : Plan L} → p ⟶ q → renamed g p ⟶ renamed g q
  step_renamed = step_changed (λ l. l) g

-- The order. A sequence's front part that has a ready operator decides which one is rewritten, whatever comes behind it:
-- so it is the leftmost; and if none of the sequence itself is ready, a front part that has one inside a block decides.
module _ {L : Type 0} (y : Plan L) where
  after_two_front : (l : L) (B : Plan L) (m : L) (A x : Plan L) → IsSome (after_two l B m A x) ⊎ IsSome (leftmost (block m A x))
      → after_two l B m A (x then y) ≡ under (◌then y) (after_two l B m A x)
  unfolding after_two leftmost first_block ◌else◌ under ◌then◌
  after_two_front l B m A end s = ⊎_elim false_is_not_true false_is_not_true s
  after_two_front l B m A (operator n op_a p) s = ap Some (sym (then_assoc A (block l B p) y))
  after_two_front l B m A (operator n op_b p) s = refl
  after_two_front l B m A (operator n op_c p) s = refl
  after_two_front l B m A (operator n op_d p) s = refl
  after_two_front l B m A (token n t p) s = refl
  after_two_front l B m A (block n C p) s = refl

  first_block_front : (l : L) (A x : Plan L) → IsSome (first_block l A x) ⊎ IsSome (leftmost x)
      → first_block l A (x then y) ≡ under (◌then y) (first_block l A x)
  unfolding first_block leftmost under ◌then◌
  first_block_front l A end s = ⊎_elim false_is_not_true false_is_not_true s
  first_block_front l A (operator n op_a p) s = refl
  first_block_front l A (operator n op_b p) s = refl
  first_block_front l A (operator n op_c p) s = refl
  first_block_front l A (operator n op_d p) s = refl
  first_block_front l A (token n t p) s = refl
  first_block_front l A (block m B p) s = after_two_front l A m B p s

  -- an item before a front part
  behind : (f : Plan L → Plan L) → ((q : Plan L) → f q then y ≡ f (q then y)) → (x : Option (Plan L)) {v : Option (Plan L)}
      → v ≡ under (◌then y) x → under f v ≡ under (◌then y) (under f x)
  behind f same x h = ap (under f) h ∙ under_square (◌then y) f f (◌then y) (λ q. sym (same q)) x

  pub leftmost-in_front : (x : Plan L) → IsSome (leftmost x) → leftmost (x then y) ≡ under (◌then y) (leftmost x)
  unfolding leftmost ◌then◌
  leftmost-in_front end s = false_is_not_true s
  leftmost-in_front (operator l o p) s = behind (operator l o) (λ q. refl) (leftmost p) (leftmost-in_front p (some_under _ (leftmost p) s))
  leftmost-in_front (token l t p) s = behind (token l t) (λ q. refl) (leftmost p) (leftmost-in_front p (some_under _ (leftmost p) s))
  leftmost-in_front (block l A p) s =
      else_front (◌then y) (first_block l A p) (under (block l A) (leftmost p)) s (λ f. first_block_front l A p (inl f))
      (λ u. let o = some_under (block l A) (leftmost p) u in
      (first_block_front l A p (inr o), behind (block l A) (λ q. refl) (leftmost p) (leftmost-in_front p o)))

  pub inner-leftmost : (x : Plan L) → IsSome (inner x) → inner (x then y) ≡ under (◌then y) (inner x)
  unfolding inner ◌then◌
  inner-leftmost end s = false_is_not_true s
  inner-leftmost (operator l o p) s = behind (operator l o) (λ q. refl) (inner p) (inner-leftmost p (some_under _ (inner p) s))
  inner-leftmost (token l t p) s = behind (token l t) (λ q. refl) (inner p) (inner-leftmost p (some_under _ (inner p) s))
  inner-leftmost (block l A p) s =
      let within_front = sym (under-under (λ B. block l B p) (◌then y) (leftmost A else inner A)) in
      else_front (◌then y) (under (λ B. block l B p) (leftmost A else inner A)) (under (block l A) (inner p)) s (λ f. within_front)
      (λ u. let o = some_under (block l A) (inner p) u in
      (within_front, behind (block l A) (λ q. refl) (inner p) (inner-leftmost p o)))
