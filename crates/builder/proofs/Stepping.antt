-- The builder's steps as its functions make them: what each store left, joined to the model's step of that name.
use Prim.Native.Nat.{ℕ, ◌+◌, ◌*◌, ◌<◌}
use mathlib.Core.Path.{◌≡◌, ap, sym, subst}
use mathlib.Core.List.{List}
use native.Mathlib.Omega.{arith}
use lib.ListN.{set}
use Rattle.kinds.specs.declared.Token.{Token as TextToken}
use Rattle.plan.specs.declared.Operator.{Operator as PlanOperator}
use Rattle.pieces.specs.Numbered.{operator_number}
use Rattle.pieces.specs.declared.Piece.{Piece}
use Rattle.pieces.specs.declared.Piece.TheVariants.{Operator, Token, Open, Close}
use Rattle.memory.specs.Held.{held_numbers}
use Rattle.memory.specs.Memory.{start, close, token_kind, block_kind}
use Rattle.memory.specs.Model.{Buildable, FindsCell, Model, PieceReady, Stepped, model, next_free, with_block, with_cell, with_close, with_item, with_numbers, with_piece, with_place, with_token}
use Rattle.memory.specs.declared.HeldPlan.{HeldPlan}
use Rattle.memory.proofs.Steps.{cells_same, stepped_on}

-- numbers stored: what is kept beside them is as it was
module _ {h h₁ : HeldPlan} {w : List ℕ} (p : Stepped h h₁ (with_numbers (model h) w)) where
  pub still_buildable : Buildable h → Buildable h₁
  still_buildable b =
      let n = cells_same p.same in
      let tail = ap (λ (s : Model). s.tail) p.steps in
      let opened = ap (λ (s : Model). s.opened) p.steps in
      record { tail = omega (arith, b.tail); opened = omega (arith, b.opened) }

  pub still_free : h.kept.free.0 < h.kept.outer.0 → h₁.kept.free.0 < h₁.kept.outer.0
  still_free low =
      let n = cells_same p.same in
      let free = ap (λ (s : Model). s.free) p.steps in omega arith

-- the first free cell written, then linked on
module _ {h h₁ : HeldPlan} (kind : ℕ) (begun : Stepped h h₁ (with_numbers (model h) (set (held_numbers h) (2 * start h.kept.free.0) kind)))
    {next : ℕ} (behind : next ≡ next_free (model h)) where
  pub item_put : {h' : HeldPlan} → Stepped h₁ h' (with_cell (model h₁) (held_numbers h₁) h.opened.0 next) → Stepped h h' (with_item (model h) kind)
  item_put {h'} p =
      subst (λ n. Stepped h h' (with_cell (model h) (set (held_numbers h) (2 * start h.kept.free.0) kind) h.opened.0 n)) behind
      (stepped_on (λ s. with_cell s s.numbers h.opened.0 next) begun p)

module _ {h h₁ h₂ h' : HeldPlan} {next : ℕ} (behind : next ≡ next_free (model h)) where
  pub token_put : (at len : ℕ) → Stepped h h₁ (with_numbers (model h) (set (held_numbers h) (2 * start h.kept.free.0) token_kind))
      → Stepped h₁ h₂ (with_place (model h₁) at len) → Stepped h₂ h' (with_cell (model h₂) (held_numbers h₂) h.opened.0 next)
      → Stepped h h' (with_token (model h) at len)
  token_put at len begun placed p =
      subst (λ n. Stepped h h' (with_cell (model h)
      (set (set (set (held_numbers h) (2 * start h.kept.free.0) token_kind) (2 * close h.kept.free.0) at) (2 * close h.kept.free.0 + 1) len) h.opened.0 n)) behind
      (stepped_on (λ s. with_cell s s.numbers h.opened.0 next) (stepped_on (λ s. with_place s at len) begun placed) p)

  pub block_put : {port : ℕ} → port ≡ close h.kept.free.0 → Stepped h h₁ (with_numbers (model h) (set (held_numbers h) (2 * start h.kept.free.0) block_kind))
      → Stepped h₁ h₂ (with_numbers (model h₁) (set (held_numbers h₁) (2 * port + 1) h.opened.0))
      → Stepped h₂ h' (with_cell (model h₂) (held_numbers h₂) h.kept.free.0 next) → Stepped h h' (with_block (model h))
  block_put {port} at begun kept p =
      subst (λ n. Stepped h h' (with_cell (model h)
      (set (set (held_numbers h) (2 * start h.kept.free.0) block_kind) (2 * close h.kept.free.0 + 1) h.opened.0) h.kept.free.0 n)) behind
      (subst (λ x. Stepped h h' (with_cell (model h)
      (set (set (held_numbers h) (2 * start h.kept.free.0) block_kind) (2 * x + 1) h.opened.0) h.kept.free.0 next)) at
      (stepped_on (λ s. with_cell s s.numbers h.kept.free.0 next)
      (stepped_on (λ s. with_numbers s (set s.numbers (2 * port + 1) h.opened.0)) begun kept) p))

-- a piece, by what a match found it to be
module _ {b : HeldPlan} {k : Piece} where
  finds : (x : Piece) → k ≡ x → PieceReady b k → FindsCell b.kept.free.0 b.opened.0 b.kept.outer.0 x
  finds x is r = subst (FindsCell b.kept.free.0 b.opened.0 b.kept.outer.0) is r.finds

  pub operator_finds : {o : PlanOperator} → k ≡ Operator o → PieceReady b k → b.kept.free.0 < b.kept.outer.0
  operator_finds is = finds (Operator _) is

  pub token_finds : {t : TextToken} → k ≡ Token t → PieceReady b k → b.kept.free.0 < b.kept.outer.0
  token_finds is = finds (Token _) is

  pub open_finds : k ≡ Open → PieceReady b k → b.kept.free.0 < b.kept.outer.0
  open_finds is = finds Open is

  pub close_finds : k ≡ Close → PieceReady b k → b.opened.0 < b.kept.outer.0
  close_finds is = finds Close is

  module _ {b' : HeldPlan} where
    put : (x : Piece) → k ≡ x → Stepped b b' (with_piece (model b) x) → Stepped b b' (with_piece (model b) k)
    put x is p = subst (λ y. Stepped b b' (with_piece (model b) y)) (sym is) p

    pub operator_piece : {o : PlanOperator} → k ≡ Operator o → Stepped b b' (with_item (model b) (operator_number o))
        → Stepped b b' (with_piece (model b) k)
    operator_piece {o} is p = put (Operator o) is p

    pub token_piece : {t : TextToken} → k ≡ Token t → Stepped b b' (with_token (model b) t.at.0 t.len)
        → Stepped b b' (with_piece (model b) k)
    token_piece {t} is p = put (Token t) is p

    pub open_piece : k ≡ Open → Stepped b b' (with_block (model b)) → Stepped b b' (with_piece (model b) k)
    open_piece is p = put Open is p

    pub close-piece : k ≡ Close → Stepped b b' (with_close (model b)) → Stepped b b' (with_piece (model b) k)
    close-piece is p = put Close is p
