-- The pieces of a plan tell whether it is finished: `any_ready` finds a ready operator exactly where the order finds a rewrite.
use Prim.Native.Nat.{ℕ}
use mathlib.Core.Path.{◌≡◌, refl, ap, ap₂, sym, ◌∙◌}
use mathlib.Core.Bool.{Bool, true, false, not, ◌&&◌, ◌||◌, or_assoc, or-false}
use Rattle.std.specs.Prelude.{Option, None as none, Some as some}
use mathlib.Core.List.{List, [], ◌∷◌, ◌++◌, append_assoc, append-nil}
use lib.Dec.{eqb, leb, ltb}
use Rattle.plan.specs.declared.Operator.TheVariants.{A as op_a, B as op_b, C as op_c, D as op_d}
use Rattle.rules.specs.Leftmost.{takes}
use Rattle.plan.specs.Options.{◌else◌, is_none, under}
use Rattle.plan.specs.Pieces.{Piece, END, pieces}
use Rattle.plan.specs.Plan.{Plan, end, operator, token, block}
use Rattle.rules.specs.Rewriting.{after_two, finished, first_block, inner, next, leftmost}
use Rattle.finished.specs.AnyReady.{blocks_behind, any_ready}

-- what is ready inside a block comes behind what its sequence has
regroup : (n t f o i : Bool) → (n || ((t || f) || (o || i))) ≡ (t || ((f || o) || (n || i)))
regroup true true f o i = refl
regroup true false true o i = refl
regroup true false false true i = refl
regroup true false false false i = refl
regroup false true f o i = refl
regroup false false true o i = refl
regroup false false false true i = refl
regroup false false false false i = refl

-- whether there is one

abbrev is_some : {A : Type 0} → Option A → Bool
is_some x = not (is_none x)

some_under : {A B : Type 0} (f : A → B) (x : Option A) → is_some (under f x) ≡ is_some x
unfolding under is_none
some_under f none = refl
some_under f (some a) = refl

some_else : {A : Type 0} (x y : Option A) → is_some (x else y) ≡ (is_some x || is_some y)
unfolding ◌else◌ is_none
some_else none y = refl
some_else (some a) y = refl

module _ {L : Type 0} where
  -- an operator of the plan is ready, where so many blocks come right before the plan
  unfoldable has_ready : (blocks : ℕ) → Plan L → Bool
  has_ready n end = false
  has_ready n (operator l o p) = leb (takes o) n || has_ready 0 p
  has_ready n (token l t p) = has_ready 0 p
  has_ready n (block l b p) = has_ready 0 b || has_ready (blocks_behind (ltb 0 n)) p

  -- the blocks that come right before what follows the plan
  unfoldable left_behind : (blocks : ℕ) → Plan L → ℕ
  left_behind n end = n
  left_behind n (operator l o p) = left_behind 0 p
  left_behind n (token l t p) = left_behind 0 p
  left_behind n (block l b p) = left_behind (blocks_behind (ltb 0 n)) p

  any_ready_plan : (n : ℕ) (seconds : List Bool) (p : Plan L) (ps : List (Piece L)) → any_ready n seconds (pieces p ++ ps) ≡ (has_ready n p || any_ready (left_behind n p) seconds ps)
  unfolding any_ready has_ready left_behind pieces
  any_ready_plan n seconds end ps = refl
  any_ready_plan n seconds (operator l o p) ps =
      ap (leb (takes o) n ||◌) (any_ready_plan 0 seconds p ps) ∙ sym (or_assoc (leb (takes o) n) (has_ready 0 p) (any_ready (left_behind 0 p) seconds ps))
  any_ready_plan n seconds (token l t p) ps = any_ready_plan 0 seconds p ps
  any_ready_plan n seconds (block l b p) ps =
      let more : ℕ = blocks_behind (ltb 0 n) in
      ap (any_ready 0 (ltb 0 n ∷ seconds)) (append_assoc (pieces b) (END ∷ pieces p) ps) ∙ any_ready_plan 0 (ltb 0 n ∷ seconds) b (END ∷ (pieces p ++ ps))
      ∙ ap (has_ready 0 b ||◌) (any_ready_plan more seconds p ps) ∙ sym (or_assoc (has_ready 0 b) (has_ready more p) (any_ready (left_behind more p) seconds ps))

  -- the order's own tests

  -- the first item is an operator that takes two blocks
  unfoldable two_first : Plan L → Bool
  two_first end = false
  two_first (operator l o p) = eqb (takes o) 2
  two_first (token l t p) = false
  two_first (block l b p) = false

  two-after : (l : L) (B : Plan L) (m : L) (A p : Plan L) → is_some (after_two l B m A p) ≡ two_first p
  unfolding after_two two_first is_none
  two-after l B m A end = refl
  two-after l B m A (operator n op_a p) = refl
  two-after l B m A (operator n op_b p) = refl
  two-after l B m A (operator n op_c p) = refl
  two-after l B m A (operator n op_d p) = refl
  two-after l B m A (token n t p) = refl
  two-after l B m A (block n C p) = refl

  -- an operator is ready by the blocks that come right before the plan: it is the first item, or takes the first item too
  unfoldable fronts : (blocks : ℕ) → Plan L → Bool
  fronts n end = false
  fronts n (operator l o p) = leb (takes o) n
  fronts n (token l t p) = false
  fronts n (block l b p) = ltb 0 n && two_first p

  fronts_none : (p : Plan L) → fronts 0 p ≡ false
  unfolding fronts
  fronts_none end = refl
  fronts_none (operator l op_a p) = refl
  fronts_none (operator l op_b p) = refl
  fronts_none (operator l op_c p) = refl
  fronts_none (operator l op_d p) = refl
  fronts_none (token l t p) = refl
  fronts_none (block l b p) = refl

  fronts-one : (l : L) (A p : Plan L) → is_some (first_block l A p) ≡ fronts 1 p
  unfolding first_block fronts is_none
  fronts-one l A end = refl
  fronts-one l A (operator n op_a p) = refl
  fronts-one l A (operator n op_b p) = refl
  fronts-one l A (operator n op_c p) = refl
  fronts-one l A (operator n op_d p) = refl
  fronts-one l A (token n t p) = refl
  fronts-one l A (block m B p) = two-after l A m B p

  fronts-two : (p : Plan L) → fronts 2 p ≡ (two_first p || fronts 1 p)
  unfolding fronts two_first
  fronts-two end = refl
  fronts-two (operator l op_a p) = refl
  fronts-two (operator l op_b p) = refl
  fronts-two (operator l op_c p) = refl
  fronts-two (operator l op_d p) = refl
  fronts-two (token l t p) = refl
  fronts-two (block l b p) = refl

  -- behind one block more
  fronts_more : (some_before : Bool) (p : Plan L) → fronts (blocks_behind some_before) p ≡ ((some_before && two_first p) || fronts 1 p)
  fronts_more true p = fronts-two p
  fronts_more false p = refl

  past-item : (f : Plan L → Plan L) (p : Plan L) → (is_some (leftmost p) || is_some (inner p)) ≡ (is_some (under f (leftmost p)) || is_some (under f (inner p)))
  past-item f p = sym (ap₂ ◌||◌ (some_under f (leftmost p)) (some_under f (inner p)))

  has_ready-next : (n : ℕ) (p : Plan L) → has_ready n p ≡ (fronts n p || (is_some (leftmost p) || is_some (inner p)))
  unfolding has_ready fronts leftmost inner is_none
  has_ready-next n end = refl
  has_ready-next n (operator l o p) =
      ap (leb (takes o) n ||◌) (has_ready-next 0 p ∙ ap (◌|| (is_some (leftmost p) || is_some (inner p))) (fronts_none p) ∙ past-item (operator l o) p)
  has_ready-next n (token l t p) =
      has_ready-next 0 p ∙ ap (◌|| (is_some (leftmost p) || is_some (inner p))) (fronts_none p) ∙ past-item (token l t) p
  has_ready-next n (block l b p) =
      let k : Bool = ltb 0 n in
      let own : is_some (leftmost (block l b p)) ≡ (fronts 1 p || is_some (leftmost p)) =
      some_else (first_block l b p) (under (block l b) (leftmost p)) ∙ ap₂ ◌||◌ (fronts-one l b p) (some_under (block l b) (leftmost p)) in
      let deep : is_some (inner (block l b p)) ≡ ((is_some (leftmost b) || is_some (inner b)) || is_some (inner p)) =
      some_else (under (λ B. block l B p) (leftmost b else inner b)) (under (block l b) (inner p))
      ∙ ap₂ ◌||◌ (some_under (λ B. block l B p) (leftmost b else inner b) ∙ some_else (leftmost b) (inner b)) (some_under (block l b) (inner p)) in
      ap₂ ◌||◌ (has_ready-next 0 b ∙ ap (◌|| (is_some (leftmost b) || is_some (inner b))) (fronts_none b))
      (has_ready-next (blocks_behind k) p ∙ ap (◌|| (is_some (leftmost p) || is_some (inner p))) (fronts_more k p))
      ∙ regroup (is_some (leftmost b) || is_some (inner b)) (k && two_first p) (fronts 1 p) (is_some (leftmost p)) (is_some (inner p))
      ∙ ap ((k && two_first p) ||◌) (sym (ap₂ ◌||◌ own deep))

  pub ready_unless-finished : (p : Plan L) → any_ready 0 [] (pieces p) ≡ not (finished p)
  unfolding finished next any_ready
  ready_unless-finished p =
      ap (any_ready 0 []) (sym (append-nil (pieces p))) ∙ any_ready_plan 0 [] p [] ∙ or-false (has_ready 0 p) ∙ has_ready-next 0 p
      ∙ ap (◌|| (is_some (leftmost p) || is_some (inner p))) (fronts_none p) ∙ sym (some_else (leftmost p) (inner p))
