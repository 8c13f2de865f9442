-- What one piece does to the count of blocks and to the bits of the open blocks, as the code keeps them. With the new count and bits, the
-- pieces behind it tell the same as it and they told with the old ones.
use Prim.Native.Nat.{ℕ, zero, suc, ◌+◌, ◌-◌, ◌≤◌, ◌<◌}
use mathlib.Core.Path.{◌≡◌, refl, ap, sym, ◌∙◌}
use mathlib.Core.Bool.{Bool, false, ◌||◌}
use mathlib.Core.List.{List, [], ◌∷◌}
use Rattle.std.proofs.lemmas.List.{reverse-append, take_more, take_more_set}
use Rattle.std.specs.Prelude.{reverse, take}
use native.Mathlib.Numerals.{add-one}
use native.Mathlib.Omega.{arith}
use borrow.Author.Tests.{lt-leb}
use lib.Dec.{ltb}
use lib.ListN.{length, get_or, set}
use Rattle.kinds.specs.declared.Token.{Token as TextToken}
use Rattle.plan.specs.Pieces.{Piece as PlanPiece, OP, TOKEN, BEGIN, END, Closes, piece_labels}
use Rattle.plan.specs.declared.Operator.{Operator as PlanOperator}
use Rattle.rules.specs.Leftmost.{takes}
use Rattle.pieces.specs.Written.{Is, is_operator, is_token, is_open, is_close}
use Rattle.pieces.specs.declared.Piece.{Piece}
use Rattle.pieces.specs.declared.Piece.TheVariants.{Operator, Token, Open, Close}
use Rattle.finished.specs.AnyReady.{blocks_behind, any_ready}

-- the bits of the open blocks, innermost first, where so many are open
abbrev pub kept : (second : List Bool) → (deep : ℕ) → List Bool
kept second deep = reverse (take deep second)

kept_more : (second : List Bool) (deep : ℕ) (b : Bool) → deep < length second → kept (set second deep b) (deep + 1) ≡ b ∷ kept second deep
kept_more second deep b h = ap reverse (take_more_set second deep b h) ∙ reverse-append (take deep second) (b ∷ [])

kept_last : (second : List Bool) (deep : ℕ) → deep < length second → kept second (deep + 1) ≡ get_or second deep false ∷ kept second deep
kept_last second deep h = ap reverse (take_more second deep false h) ∙ reverse-append (take deep second) (get_or second deep false ∷ [])

-- the plan's piece, by what a match found the code's to be
abbrev pub Like : Piece → PlanPiece ℕ → Type 0
Like (Operator o) x = (l : ℕ) × (x ≡ OP l o)
Like (Token k) x = (l : ℕ) × (t : List ℕ) × (x ≡ TOKEN l t)
Like Open x = (l : ℕ) × (x ≡ BEGIN l)
Like Close x = x ≡ END

pub like : {text : List ℕ} {k : Piece} {x : PlanPiece ℕ} → Is text k x → Like k x
like is_operator = (_, refl)
like (is_token t) = (_, _, refl)
like is_open = (_, refl)
like is_close = refl

-- what a piece does: the pieces behind it tell the same with the new count and bits, close the blocks still open, and have as few cells
pub record Turned (blocks : ℕ) (second : List Bool) (deep : ℕ) (x : PlanPiece ℕ) (ps : List (PlanPiece ℕ)) (blocks' : ℕ) (second' : List Bool) (deep' : ℕ) : Type 0 where
  pub same : any_ready blocks (kept second deep) (x ∷ ps) ≡ any_ready blocks' (kept second' deep') ps
  pub closes : Closes deep (x ∷ ps) → Closes deep' ps
  pub room : deep' + length (piece_labels ps) ≤ deep + length (piece_labels (x ∷ ps))

module _ (blocks : ℕ) (second : List Bool) (deep : ℕ) (ps : List (PlanPiece ℕ)) where
  pub operator_turned : (o : PlanOperator) → blocks < takes o → (x : PlanPiece ℕ) → Like (Operator o) x → Turned blocks second deep x ps 0 second deep
  unfolding any_ready piece_labels
  operator_turned o h x (l, e) =
      rw e record { same = ap (◌|| any_ready 0 (kept second deep) ps) (lt-leb (takes o) blocks h); closes = λ c. c; room = omega arith }

  pub token_turned : (t : TextToken) (x : PlanPiece ℕ) → Like (Token t) x → Turned blocks second deep x ps 0 second deep
  unfolding any_ready piece_labels
  token_turned t x (l, s, e) = rw e record { same = refl; closes = λ c. c; room = omega arith }

  pub open_turned : deep < length second → (x : PlanPiece ℕ) → Like Open x → Turned blocks second deep x ps 0 (set second deep (ltb 0 blocks)) (deep + 1)
  unfolding any_ready piece_labels
  open_turned h x (l, e) =
      rw e record {
        same = ap (λ bits. any_ready 0 bits ps) (sym (kept_more second deep (ltb 0 blocks) h));
        closes = λ c. rw add-one c;
        room = omega arith;
      }

pub close_turned : (blocks : ℕ) (second : List Bool) (deep : ℕ) (ps : List (PlanPiece ℕ)) (b : Bool) → get_or second (deep - 1) false ≡ b → 0 < deep → deep ≤ length second
    → (x : PlanPiece ℕ) → Like Close x → Turned blocks second deep x ps (blocks_behind b) second (deep - 1)
unfolding any_ready piece_labels
close_turned blocks second zero ps b is h within x e = absurd (omega arith)
close_turned blocks second (suc d) ps b is h within x e =
    let less : suc d - 1 ≡ d = omega arith in
    let bits : kept second (suc d) ≡ get_or second d false ∷ kept second d = rw add-one at (kept_last second d (omega arith)) in
    rw (e, ← is, less) record { same = ap (λ k. any_ready blocks k (END ∷ ps)) bits; closes = λ c. c; room = omega arith }
