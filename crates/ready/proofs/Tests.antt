-- Whether an operator is ready and whether a block opens, each case under the tests that the code makes.
use Prim.Native.Nat.{ℕ, ◌+◌, ◌*◌, ◌/◌, ◌%◌, ◌≤◌, ◌<◌}
use mathlib.Core.Path.{◌≡◌, refl, ap, ◌∙◌}
use mathlib.Core.Logic.{◌≢◌}
use mathlib.Core.Bool.{Bool, true, false}
use mathlib.Core.List.{List, [], ◌∷◌}
use native.Mathlib.Omega.{arith}
use borrow.Author.Tests.{eq-eqb, ne_eqb}
use Rattle.std.specs.Prelude.{Option, None, Some}
use lib.Dec.{eqb}
use lib.ListN.{length, get_or, take}
use lib.Seq.{get_or-append-add, length-take-le}
use Rattle.kinds.specs.Limits.{cell_numbers}
use Rattle.kinds.specs.declared.Cell.{Cell}
use Rattle.plan.specs.declared.Operator.{Operator}
use Rattle.rules.specs.Leftmost.{takes}
use Rattle.memory.specs.Memory.{start, close, datum, whole, block_kind}
use Rattle.memory.specs.Lent.{Lent}
use Rattle.memory.specs.Numbered.{kind_of}
use Rattle.memory.specs.declared.Kind.{Kind}
use Rattle.memory.specs.declared.Kind.TheVariants.{Operator as OPERATOR, Token as TOKEN, Block as BLOCK}
use Rattle.memory.specs.declared.Port.{Port}
use Rattle.memory.proofs.Whole.{number-whole}
use Rattle.ready.specs.Ready.{is_block, end_port, block_opens, ready_at, spot_at}
use Rattle.ready.specs.declared.Spot.{Spot}

-- a port that is not even is a close: the test of it
is_odd : (port : ℕ) → port % 2 ≢ 0 → eqb (port % 2) 1 ≡ true
is_odd port h = eq-eqb (port % 2) 1 (let low : port % 2 < 2 = omega arith in omega arith)

-- a spot of the cells that the ports belong to
pub spot_made : (o : Operator) (at last second : ℕ) {older newer itself : Cell} → newer.0 ≡ last / 2 → older.0 ≡ second / 2 → itself.0 ≡ at / 2 → (before : Port)
    → Some (record { which = o; before = before; older = older; newer = newer; operator = itself }) ≡ Some (spot_at o at last second before.0)
spot_made o at last second {older} {newer} {itself} n l i before =
    ap (λ k. made older.0 k itself.0) n ∙ ap (λ k. made k (last / 2) itself.0) l ∙ ap (made (second / 2) (last / 2)) i
  where
    made : ℕ → ℕ → ℕ → Option Spot
    made a b c = Some (record { which = o; before = before; older = record { 0 = a }; newer = record { 0 = b }; operator = record { 0 = c } })

module _ (o : Operator) {kind : Kind} (is : kind ≡ OPERATOR o) (at last second third : ℕ) where
  pub none_there : last % 2 ≡ 0 → None ≡ ready_at kind at last second third
  none_there l = rw is (simp (ne_eqb (last % 2) 1 (λ z. omega arith)))

  pub one-there : last % 2 ≢ 0 → takes o ≢ 2 → Some (spot_at o at last second second) ≡ ready_at kind at last second third
  one-there l t = rw is (simp (is_odd last l, ne_eqb _ _ t))

  pub second_missing : last % 2 ≢ 0 → takes o ≡ 2 → second % 2 ≡ 0 → None ≡ ready_at kind at last second third
  second_missing l t s = rw is (simp (is_odd last l, eq-eqb _ _ t, ne_eqb (second % 2) 1 (λ z. omega arith)))

  pub two-there : last % 2 ≢ 0 → takes o ≡ 2 → second % 2 ≢ 0 → Some (spot_at o at last second third) ≡ ready_at kind at last second third
  two-there l t s = rw is (simp (is_odd last l, eq-eqb _ _ t, is_odd second s))

-- the last port of an item
pub block_last : (kind : Kind) (at : ℕ) {cell last : ℕ} → is_block kind ≡ true → cell ≡ at / 2 → last ≡ close cell → last ≡ end_port kind at
block_last kind at is e l = simp is (l ∙ ap close e)

pub atom_last : (kind : Kind) (at : ℕ) → is_block kind ≡ false → at ≡ end_port kind at
atom_last kind at is = simp is

pub no_block : (kind : Kind) → (kind ≡ BLOCK → ⊥) → false ≡ is_block kind
no_block (OPERATOR o) h = refl
no_block TOKEN h = refl
no_block BLOCK h = absurd (h refl)

module _ (n : ℕ) (m : List ℕ) (first port : ℕ) where
  pub close-block_opens : eqb (port % 2) 1 ≡ true → false ≡ block_opens (whole n m first) port
  unfolding block_opens
  close-block_opens h = simp h

  pub outermost_datum : Lent n m → port ≡ start n → datum (whole n m first) port ≡ block_kind
  outermost_datum lent h =
      let there : 2 * port ≡ length (take (cell_numbers * n) m) + 0 = omega (arith, length-take-le (cell_numbers * n) m (omega (arith, lent.room))) in
      ap (λ k. get_or (whole n m first) k 0) there ∙ get_or-append-add (take (cell_numbers * n) m) (block_kind ∷ first ∷ []) 0 0

  pub outermost_block_opens : Lent n m → eqb (port % 2) 1 ≡ false → port ≡ start n → true ≡ block_opens (whole n m first) port
  unfolding block_opens
  outermost_block_opens lent even h = simp (even, outermost_datum lent h)

  pub datum-block_opens : Lent n m → port ≤ start n → eqb (port % 2) 1 ≡ false → port ≢ start n → (k : Kind) → k ≡ kind_of (datum m port) → {r : Bool} → r ≡ is_block k
      → r ≡ block_opens (whole n m first) port
  unfolding block_opens
  datum-block_opens lent low even other k reads tells =
      let there = number-whole n m first lent (2 * port) (omega arith) in
      simp even (tells ∙ ap is_block (reads ∙ ap kind_of there))
