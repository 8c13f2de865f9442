-- Laws of a plan's parts: joining, cells, the printed text, labels.
use Prim.Native.Nat.{ℕ, ◌+◌}
use mathlib.Core.Path.{◌≡◌, refl, ap, ◌∙◌}
use mathlib.Core.List.{List, ◌∷◌, ◌++◌, append_assoc}
use native.Mathlib.Omega.{arith}
use lib.ListN.{length, length-append}
use Rattle.plan.specs.Plan.{Plan, end, operator, token, block, ◌then◌, cells, letter, print, labels, relabel, changed}
use Rattle.plan.specs.Token.{Allowed}

module _ {L : Type 0} where
  pub then_end : (p : Plan L) → p then end ≡ p
  unfolding ◌then◌
  then_end end = refl
  then_end (operator l o p) = ap (operator l o) (then_end p)
  then_end (token l t p) = ap (token l t) (then_end p)
  then_end (block l b p) = ap (block l b) (then_end p)

  pub then_assoc : (p q r : Plan L) → (p then q) then r ≡ p then (q then r)
  unfolding ◌then◌
  then_assoc end q r = refl
  then_assoc (operator l o p) q r = ap (operator l o) (then_assoc p q r)
  then_assoc (token l t p) q r = ap (token l t) (then_assoc p q r)
  then_assoc (block l b p) q r = ap (block l b) (then_assoc p q r)

  pub cells-then : (p q : Plan L) → cells (p then q) ≡ cells p + cells q
  unfolding ◌then◌ cells
  cells-then end q = omega arith
  cells-then (operator l o p) q = omega (arith, cells-then p q)
  cells-then (token l t p) q = omega (arith, cells-then p q)
  cells-then (block l b p) q = omega (arith, cells-then p q)

  pub print-then : (p q : Plan L) → print (p then q) ≡ print p ++ print q
  unfolding ◌then◌ print
  print-then end q = refl
  print-then (operator l o p) q = ap (letter o ∷◌) (print-then p q)
  print-then (token l t p) q = rw (print-then p q, append_assoc)
  print-then (block l b p) q = rw (print-then p q, append_assoc)

  pub labels-then : (p q : Plan L) → labels (p then q) ≡ labels p ++ labels q
  unfolding ◌then◌ labels
  labels-then end q = refl
  labels-then (operator l o p) q = ap (l ∷◌) (labels-then p q)
  labels-then (token l t p) q = ap (l ∷◌) (labels-then p q)
  labels-then (block l b p) q = rw (labels-then p q, append_assoc)

  pub allowed_then : (limit : ℕ) (p q : Plan L) → Allowed limit p → Allowed limit q → Allowed limit (p then q)
  unfolding ◌then◌
  allowed_then limit end q h g = g
  allowed_then limit (operator l o p) q h g = allowed_then limit p q h g
  allowed_then limit (token l t p) q h g = (h.0, allowed_then limit p q h.1 g)
  allowed_then limit (block l b p) q h g = (h.0, allowed_then limit p q h.1 g)

  -- as many labels as cells
  pub length-labels : (p : Plan L) → length (labels p) ≡ cells p
  unfolding labels cells
  length-labels end = refl
  length-labels (operator l o p) = omega (arith, length-labels p)
  length-labels (token l t p) = omega (arith, length-labels p)
  length-labels (block l b p) = omega (arith, length-labels b, length-labels p, length-append (labels b) (labels p))

-- joining and counting look at no label and at no token's text
module _ {L M : Type 0} (f : L → M) (g : List ℕ → List ℕ) where
  pub changed_then : (p q : Plan L) → changed f g (p then q) ≡ changed f g p then changed f g q
  unfolding ◌then◌ changed
  changed_then end q = refl
  changed_then (operator l o p) q = ap (operator (f l) o) (changed_then p q)
  changed_then (token l t p) q = ap (token (f l) (g t)) (changed_then p q)
  changed_then (block l b p) q = ap (block (f l) (changed f g b)) (changed_then p q)

  pub cells-changed : (p : Plan L) → cells (changed f g p) ≡ cells p
  unfolding cells changed
  cells-changed end = refl
  cells-changed (operator l o p) = omega (arith, cells-changed p)
  cells-changed (token l t p) = omega (arith, cells-changed p)
  cells-changed (block l b p) = omega (arith, cells-changed b, cells-changed p)

-- printing looks at no label
module _ {L M : Type 0} (f : L → M) where
  pub relabel-changed : (p : Plan L) → relabel f p ≡ changed f (λ t. t) p
  unfolding relabel changed
  relabel-changed end = refl
  relabel-changed (operator l o p) = ap (operator (f l) o) (relabel-changed p)
  relabel-changed (token l t p) = ap (token (f l) t) (relabel-changed p)
  relabel-changed (block l b p) = rw (relabel-changed b, relabel-changed p)

  pub relabel-then : (p q : Plan L) → relabel f (p then q) ≡ relabel f p then relabel f q
  relabel-then p q = rw (relabel-changed (p then q), relabel-changed p, relabel-changed q) (changed_then f (λ t. t) p q)

  pub cells-relabel : (p : Plan L) → cells (relabel f p) ≡ cells p
  cells-relabel p = ap cells (relabel-changed p) ∙ cells-changed f (λ t. t) p

  pub print-relabel : (p : Plan L) → print (relabel f p) ≡ print p
  unfolding print relabel
  print-relabel end = refl
  print-relabel (operator l o p) = ap (letter o ∷◌) (print-relabel p)
  print-relabel (token l t p) = rw (print-relabel p)
  print-relabel (block l b p) = rw (print-relabel b, print-relabel p)
