-- The piece that a port shows: each case of `piece_at` by the port's numbers, and that only numbers of the memory itself are asked for.
use Prim.Native.Nat.{ℕ, ◌+◌, ◌*◌, ◌/◌, ◌%◌, ◌<◌, ◌≤◌}
use mathlib.Core.Path.{◌≡◌, refl, sym, ◌∙◌}
use mathlib.Core.Bool.{Bool, true, false}
use mathlib.Core.Logic.{◌≢◌}
use mathlib.Core.List.{List}
use native.Mathlib.Omega.{arith}
use borrow.Author.Tests.{eqb-false}
use lib.Dec.{eqb}
use lib.ListN.{length, get_or}
use Rattle.kinds.specs.Limits.{cell_numbers}
use Rattle.kinds.specs.declared.Token.{Token as TextToken}
use Rattle.plan.specs.declared.Operator.{Operator as PlanOperator}
use Rattle.pieces.specs.declared.Piece.TheVariants.{Operator, Token, Open, Close}
use Rattle.memory.specs.Memory.{start, datum, whole, token_at}
use Rattle.memory.specs.Lent.{Lent}
use Rattle.memory.specs.Numbered.{kind_of}
use Rattle.memory.specs.Pieces.{piece_at}
use Rattle.memory.specs.declared.Kind.{Kind}
use Rattle.memory.specs.declared.Kind.TheVariants.{Operator as OPERATOR, Token as TOKEN, Block as BLOCK}
use Rattle.memory.proofs.Whole.{number-whole}

-- the cases, as the code finds them
module _ (w : List ℕ) (p : ℕ) {t : Bool} (parity : t ≡ eqb (p % 2) 1) where
  pub close-piece : t ≡ true → Close ≡ piece_at w p
  unfolding piece_at
  close-piece odd = rw (sym parity ∙ odd)

  module _ (even : t ≡ false) {k : Kind} (says : k ≡ kind_of (datum w p)) where
    pub operator_piece : (o : PlanOperator) → k ≡ OPERATOR o → Operator o ≡ piece_at w p
    unfolding piece_at
    operator_piece o h = rw (sym parity ∙ even, sym says ∙ h)

    pub token_piece : (x : TextToken) → k ≡ TOKEN → x ≡ token_at w p → Token x ≡ piece_at w p
    unfolding piece_at
    token_piece x h e = rw (sym parity ∙ even, sym says ∙ h, e)

    pub open_piece : k ≡ BLOCK → Open ≡ piece_at w p
    unfolding piece_at
    open_piece h = rw (sym parity ∙ even, sym says ∙ h)

-- an even port's cell has its second pair of numbers in the memory too
pub lent_token : (w : List ℕ) (p : ℕ) {t : Bool} → t ≡ eqb (p % 2) 1 → t ≡ false → cell_numbers * (p / 2) + cell_numbers ≤ length w
    → 2 * p + cell_numbers ≤ length w
lent_token w p parity even h = let differs : p % 2 ≢ 1 = eqb-false (p % 2) 1 (sym parity ∙ even) in omega arith

-- where the four numbers of the port's cell are the same, so is the piece
pub piece_agree : (w v : List ℕ) (p : ℕ) → ((i : ℕ) → i / cell_numbers ≡ p / 2 → get_or v i 0 ≡ get_or w i 0) → piece_at v p ≡ piece_at w p
unfolding piece_at
piece_agree w v p same = go (eqb (p % 2) 1) refl
  where
    go : (t : Bool) → eqb (p % 2) 1 ≡ t → piece_at v p ≡ piece_at w p
    go true e = rw e
    go false e =
        let even : p % 2 ≢ 1 = eqb-false (p % 2) 1 e in
        rw (e, same (2 * p) (omega arith), same (2 * (p + 1)) (omega arith), same (2 * (p + 1) + 1) (omega arith))

-- a cell that is lent has all its numbers in the memory
pub piece-whole : (n : ℕ) (m : List ℕ) (first p : ℕ) → Lent n m → p < start n → piece_at m p ≡ piece_at (whole n m first) p
piece-whole n m first p lent below = piece_agree (whole n m first) m p (λ i e. number-whole n m first lent i (omega arith))
