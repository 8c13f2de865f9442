-- What the chain of ports shows: the pieces of the plan, one port for each. So what the ports print in order is the printed text.
use Prim.Native.Nat.{ℕ, ◌*◌, ◌%◌, ◌≤◌}
use mathlib.Core.Path.{◌≡◌, refl, ap, sym, ◌∙◌}
use mathlib.Core.List.{List, [], ◌∷◌, ◌++◌}
use native.Mathlib.Omega.{arith}
use lib.ListN.{length, length-append}
use Rattle.plan.specs.Plan.{Plan, end, operator, token, block, cells, print}
use Rattle.pieces.specs.Numbered.{operator_number}
use Rattle.plan.specs.Pieces.{Piece as PlanPiece, OP, TOKEN, BEGIN, END, in_a_row, pieces}
use Rattle.plan.specs.declared.Operator.{Operator}
use Rattle.plan.proofs.Pieces.{print-pieces}
use Rattle.pieces.specs.Written.{Is, is_operator, is_token, is_open, is_close, TokenAt, piece_bytes}
use Rattle.pieces.proofs.Pieces.{is_printed}
use Rattle.memory.specs.Memory.{start, close, datum, link, token_kind, block_kind, ports, Says}
use Rattle.memory.specs.Numbered.{kind_of}
use Rattle.memory.specs.Pieces.{piece_at, Shown}
use Rattle.memory.specs.declared.Kind.TheVariants.{Operator as OPERATOR}
use Rattle.memory.proofs.Numbered.{kind_told}

module _ (text w : List ℕ) where
  -- what one port shows
  module _ (c : ℕ) where
    even : start c % 2 ≡ 0
    even = omega arith

    odd : close c % 2 ≡ 1
    odd = omega arith

    close_shown : Is {L = ℕ} text (piece_at w (close c)) END
    unfolding piece_at
    close_shown = rw odd is_close

    operator_shown : (o : Operator) → datum w (start c) ≡ operator_number o → Is text (piece_at w (start c)) (OP c o)
    unfolding piece_at
    operator_shown o h = rw (even, ap kind_of h ∙ kind_told (OPERATOR o)) is_operator

    token_shown : (t : List ℕ) → datum w (start c) ≡ token_kind → TokenAt text (datum w (close c)) (link w (close c)) t → Is text (piece_at w (start c)) (TOKEN c t)
    unfolding piece_at
    token_shown t h k = rw (even, h) (is_token k)

    block_shown : datum w (start c) ≡ block_kind → Is text (piece_at w (start c)) (BEGIN c)
    unfolding piece_at
    block_shown h = rw (even, h) is_open

  shown_join : (qs rs : List ℕ) (ps us : List (PlanPiece ℕ)) → Shown text w qs ps → Shown text w rs us → Shown text w (qs ++ rs) (ps ++ us)
  shown_join [] rs [] us h k = k
  shown_join [] rs (x ∷ ps) us h k = absurd h
  shown_join (q ∷ qs) rs [] us h k = absurd h
  shown_join (q ∷ qs) rs (x ∷ ps) us h k = (h.0, shown_join qs rs ps us h.1 k)

  -- the ports of a plan show its pieces
  pub chain_shows : (t : Plan ℕ) → Says text w t → Shown text w (ports t) (pieces t)
  unfolding ports pieces
  chain_shows end h = tt
  chain_shows (operator c o p) h = (operator_shown c o h.0, chain_shows p h.1)
  chain_shows (token c t p) h = (token_shown c t h.0 h.1, chain_shows p h.2)
  chain_shows (block c b p) h =
      (block_shown c h.0, shown_join (ports b) (close c ∷ ports p) (pieces b) (END ∷ pieces p) (chain_shows b h.1) (close_shown c, chain_shows p h.2))

-- what ports print by their own numbers
unfoldable pub printed_ports : (text w : List ℕ) → List ℕ → List ℕ
printed_ports text w [] = []
printed_ports text w (p ∷ ps) = piece_bytes text (piece_at w p) ++ printed_ports text w ps

printed_shown : (text w qs : List ℕ) (ps : List (PlanPiece ℕ)) → Shown text w qs ps → printed_ports text w qs ≡ in_a_row ps
unfolding printed_ports in_a_row
printed_shown text w [] [] h = refl
printed_shown text w [] (x ∷ ps) h = absurd h
printed_shown text w (q ∷ qs) [] h = absurd h
printed_shown text w (q ∷ qs) (x ∷ ps) h = rw (is_printed h.0, printed_shown text w qs ps h.1)

pub print-ports : (text w : List ℕ) (t : Plan ℕ) → Says text w t → print t ≡ printed_ports text w (ports t)
print-ports text w t h = print-pieces t ∙ sym (printed_shown text w (ports t) (pieces t) (chain_shows text w t h))

pub length-ports : (t : Plan ℕ) → length (ports t) ≤ 2 * cells t
unfolding ports cells
length-ports end = omega arith
length-ports (operator c o p) = omega (arith, length-ports p)
length-ports (token c t p) = omega (arith, length-ports p)
length-ports (block c b p) = omega (arith, length-ports b, length-ports p, length-append (ports b) (close c ∷ ports p))
