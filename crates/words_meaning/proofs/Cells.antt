-- How many cells a linked plan has, without linking it: each token counts for the cells of what it stands for.
use Prim.Native.Nat.{ℕ, ◌+◌}
use mathlib.Core.Path.{◌≡◌, refl}
use Rattle.std.specs.Prelude.{Option, None, Some}
use mathlib.Core.List.{List}
use native.Mathlib.Omega.{arith}
use Rattle.plan.specs.Plan.{Plan, end, operator, token, block, cells}
use Rattle.plan.proofs.Plans.{cells-then}
use Rattle.words_meaning.specs.Places.{cells_put, cells_by, token_cells}
use Rattle.words_meaning.specs.Linking.{in_place, link_plan}

module _ {L : Type 0} where
  -- the cells of what is put in a token's place, before more items
  cells-in_place : (s : Option (Plan L)) (l : L) (t : List ℕ) (p : Plan L) → cells (in_place s l t p) ≡ cells_put s + cells p
  unfolding cells in_place cells_put
  cells-in_place None l t p = refl
  cells-in_place (Some q) l t p = cells-then q p

  -- a linked plan has as many cells as the plan has, each token counted for the cells of what it stands for
  pub cells-link : (stands : List ℕ → Option (Plan L)) (p : Plan L) → cells (link_plan stands p) ≡ cells_by (token_cells stands) p
  unfolding cells link_plan cells_by token_cells
  cells-link stands end = refl
  cells-link stands (operator l o p) = omega (arith, cells-link stands p)
  cells-link stands (token l t p) = omega (arith, cells-link stands p, cells-in_place (stands t) l t (link_plan stands p))
  cells-link stands (block l b p) = omega (arith, cells-link stands b, cells-link stands p)

  -- where each token counts for one, these are the plan's own cells
  pub cells_by_ones : (p : Plan L) → cells_by (λ t. 1) p ≡ cells p
  unfolding cells cells_by
  cells_by_ones end = refl
  cells_by_ones (operator l o p) = omega (arith, cells_by_ones p)
  cells_by_ones (token l t p) = omega (arith, cells_by_ones p)
  cells_by_ones (block l b p) = omega (arith, cells_by_ones b, cells_by_ones p)
