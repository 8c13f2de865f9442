-- The windows of a scan in the memory: which ports stand before the items that are not yet passed, and that the test of an
-- operator by those ports is the rule's own.
use Prim.Native.Nat.{ℕ, ◌/◌, ◌%◌}
use mathlib.Core.Path.{◌≡◌, refl, ap, sym, ◌∙◌, subst}
use mathlib.Core.Logic.{◌≢◌}
use mathlib.Core.List.{List, [], ◌∷◌, ◌++◌}
use native.Mathlib.Omega.{arith}
use Rattle.plan.specs.Plan.{Plan, end, operator, token, block, ◌then◌}
use Rattle.plan.specs.declared.Operator.{Operator}
use Rattle.plan.specs.declared.Operator.TheVariants.{A as op_a, B as op_b, C as op_c, D as op_d}
use Rattle.std.specs.Prelude.{Option, None, Some}
use Rattle.rules.specs.Leftmost.{takes}
use Rattle.rules.specs.Rewriting.{after_two, first_block}
use Rattle.rules.proofs.Windows.{Front, Window, no_block, one_block, two_blocks, Ready as At, ready}
use Rattle.rules.proofs.Windows.{past, past_operator, past_token, past_block, window_block}
use Rattle.memory.specs.Memory.{start, close, ports, last_of}
use Rattle.memory.specs.declared.Kind.TheVariants.{Operator as OPERATOR}
use Rattle.memory.proofs.Lists.{last_append}
use Rattle.memory.proofs.Ports.{ports-then}
use Rattle.hunt.specs.Hunting.{RuleAt, Scanned, Stands, port_behind}
use Rattle.ready.specs.Ready.{ready_at, spot_at}
use Rattle.ready.specs.declared.Spot.{Spot}
use Rattle.ready.proofs.Tests.{two-there, second_missing, one-there, none_there}

-- the last three ports: a block's close, which is odd, for each block at hand, and before those the port behind which they stand
abbrev pub Seen : (s : ℕ) → {q y : Plan ℕ} → Window q y → (last second third : ℕ) → Type 0
Seen s (no_block h) last second third = (last ≡ port_behind s h.front) × (last % 2 ≡ 0)
Seen s (one_block m A h) last second third = (last ≡ close m) × (second ≡ port_behind s h.front) × (second % 2 ≡ 0)
Seen s (two_blocks l B m A h) last second third = (last ≡ close m) × (second ≡ close l) × (third ≡ port_behind s h.front)

-- a sequence that ends in an item ends at that item's last port
pub ends_in_block : (x : ℕ) (Y : Plan ℕ) (m : ℕ) (A : Plan ℕ) → last_of x (ports (Y then block m A end)) ≡ close m
unfolding ports
ends_in_block x Y m A =
    ap (last_of x) (ports-then Y (block m A end)) ∙ last_append x (start m) (ports Y) (ports A ++ close m ∷ [])
    ∙ last_append (start m) (close m) (ports A) []

ends_in_atom : (x : ℕ) (Y i : Plan ℕ) (c : ℕ) → ports i ≡ start c ∷ [] → last_of x (ports (Y then i)) ≡ start c
ends_in_atom x Y i c e = ap (last_of x) (ports-then Y i ∙ ap (ports Y ++◌) e) ∙ last_append x (start c) (ports Y) []

module _ (s : ℕ) {q : Plan ℕ} where
  pub seen_token : {c : ℕ} {t : List ℕ} {p : Plan ℕ} (h : Front q (token c t p)) (last second : ℕ) → Seen s (no_block (past_token h)) (start c) last second
  unfolding past_token past ports
  seen_token {c} {t} h last second = (sym (ends_in_atom (start s) h.front (token c t end) c refl), omega arith)

  seen_operator : {c : ℕ} {o : Operator} {p : Plan ℕ} (h : Front q (operator c o p)) (last second : ℕ) → Seen s (no_block (past_operator h)) (start c) last second
  unfolding past_operator past ports
  seen_operator {c} {o} h last second = (sym (ends_in_atom (start s) h.front (operator c o end) c refl), omega arith)

  pub seen_block : {c : ℕ} {C p : Plan ℕ} (last second third : ℕ) (w : Window q (block c C p)) → Seen s w last second third
      → Seen s (window_block w) (close c) last second
  unfolding window_block past_block past
  seen_block last second third (no_block h) k = (refl, k.0, k.1)
  seen_block last second third (one_block m A h) k = (refl, k.0, k.1)
  seen_block last second third (two_blocks l B m A h) k = (refl, k.0, k.1 ∙ sym (ends_in_block (start s) h.front l B))

-- what the test of the operator at a port says: it is passed, and p is behind it; or it is ready
abbrev pub Tested : Option Spot → (s : ℕ) → (q : Plan ℕ) → (at last second : ℕ) → (p : Plan ℕ) → Type 0
Tested None s q at last second p = (w : Window q p) × Seen s w at last second
Tested (Some spot) s q at last second p = Scanned (Some spot) s q

module _ (s : ℕ) (q : Plan ℕ) (last second third c : ℕ) (p : Plan ℕ) where
  abbrev Answer : Option Spot → Type 0
  Answer r = Tested r s q (start c) last second p

  module _ (o : Operator) where
    abbrev test : Option Spot
    test = ready_at (OPERATOR o) (start c) last second third

    not_ready : None ≡ test → Front q (operator c o p) → Answer test
    not_ready e h = subst Answer e (no_block (past_operator h), seen_operator s h last second)

    is_ready : {l m before : ℕ} {X : Plan ℕ} → Some (spot_at o (start c) last second before) ≡ test → before ≡ port_behind s X → last / 2 ≡ m
        → second / 2 ≡ l → At o l m c X p q → Answer test
    is_ready {X} e at newer older h =
        let self : start c / 2 ≡ c = omega arith in
        subst Answer e (h.result, record { front = X; behind = p; before = at; rule = rw (older, newer, self) h.rule }, h.found_leftmost)

    -- the operators a and b are ready behind two blocks and not behind one
    two_wanted : takes o ≡ 2 → ((m : ℕ) (A : Plan ℕ) → first_block m A (operator c o p) ≡ None)
        → ((l : ℕ) (B : Plan ℕ) (m : ℕ) (A : Plan ℕ) (h : Front q (block l B (block m A (operator c o p)))) → At o l m c h.front p q)
        → (w : Window q (operator c o p)) → Seen s w last second third → Answer test
    two_wanted t one two (no_block h) (a, e) = not_ready (none_there o refl (start c) last second third (omega arith)) h
    two_wanted t one two (one_block m A h) (e, a, d) =
        not_ready (second_missing o refl (start c) last second third (λ z. omega arith) t (omega arith)) (past_block h (one m A))
    two_wanted t one two (two_blocks l B m A h) (e, d, a) =
        is_ready (two-there o refl (start c) last second third (λ z. omega arith) t (λ z. omega arith)) a (omega arith) (omega arith) (two l B m A h)

    -- the operators c and d are ready behind one block, whatever stands before it
    one_wanted : takes o ≢ 2 → ((l : ℕ) (B : Plan ℕ) (m : ℕ) (A : Plan ℕ) → after_two l B m A (operator c o p) ≡ None)
        → ((l m : ℕ) (A : Plan ℕ) (h : Front q (block m A (operator c o p))) → At o l m c h.front p q)
        → (w : Window q (operator c o p)) → Seen s w last second third → Answer test
    unfolding first_block past_block past
    one_wanted t two one (no_block h) (a, e) = not_ready (none_there o refl (start c) last second third (omega arith)) h
    one_wanted t two one (one_block m A h) (e, a, d) =
        is_ready (one-there o refl (start c) last second third (λ z. omega arith) t) a (omega arith) refl (one _ m A h)
    one_wanted t two one (two_blocks l B m A h) (e, d, a) =
        is_ready (one-there o refl (start c) last second third (λ z. omega arith) t) (d ∙ sym (ends_in_block (start s) h.front l B)) (omega arith) refl
        (one _ m A (past_block h (two l B m A)))

  pub tested_operator : (o : Operator) (w : Window q (operator c o p)) → Seen s w last second third
      → Answer (ready_at (OPERATOR o) (start c) last second third)
  unfolding first_block after_two ◌then◌
  tested_operator op_a w k = two_wanted op_a refl (λ m A. refl) (λ l B m A h. ready op_a B A h) w k
  tested_operator op_b w k = two_wanted op_b refl (λ m A. refl) (λ l B m A h. ready op_b B A h) w k
  tested_operator op_c w k = one_wanted op_c (λ z. omega arith) (λ l B m A. refl) (λ l m A h. ready op_c end A h) w k
  tested_operator op_d w k = one_wanted op_d (λ z. omega arith) (λ l B m A. refl) (λ l m A h. ready op_d end A h) w k

-- the rule at a spot, once it is known which operator stands there
pub stands_rule : {spot : Spot} {s : ℕ} {q q' : Plan ℕ} (k : Stands spot s q q') {o : Operator} → spot.which ≡ o
    → RuleAt spot o k.front k.behind q q'
stands_rule {spot} {q} {q'} k is = subst (λ o. RuleAt spot o k.front k.behind q q') is k.rule
