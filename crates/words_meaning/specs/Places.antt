-- Linking, told by the places where tokens stand: which pieces come in each place, and how many cells. The laws show that this is the linked
-- plan, so every other token, every operator and every block stays, in order.
use Rattle.std.specs.Prelude.{ℕ, ◌+◌, List, [], ◌∷◌, ◌++◌}
use Rattle.std.specs.Prelude.{Option, None, Some}
use Rattle.plan.specs.Plan.{Plan, end, operator, token, block, cells}
use Rattle.plan.specs.Pieces.{Piece, OP, TOKEN, BEGIN, END, pieces}

-- the pieces of the plan that a token stands for, or its own piece
unfoldable pub put_for : {L : Type 0} → Option (Plan L) → Piece L → List (Piece L)
put_for None x = x ∷ []
put_for (Some q) x = pieces q

-- what a piece gives way to
unfoldable pub gives_way_to : {L : Type 0} → (stands : List ℕ → Option (Plan L)) → Piece L → List (Piece L)
gives_way_to stands (OP l o) = OP l o ∷ []
gives_way_to stands (TOKEN l t) = put_for (stands t) (TOKEN l t)
gives_way_to stands (BEGIN l) = BEGIN l ∷ []
gives_way_to stands END = END ∷ []

-- what pieces give way to, in a row
unfoldable pub linked_pieces : {L : Type 0} → (stands : List ℕ → Option (Plan L)) → List (Piece L) → List (Piece L)
linked_pieces stands [] = []
linked_pieces stands (x ∷ ps) = gives_way_to stands x ++ linked_pieces stands ps

-- the cells of a plan, where a token counts as the function says
unfoldable pub cells_by : {L : Type 0} → (count : List ℕ → ℕ) → Plan L → ℕ
cells_by count end = 0
cells_by count (operator l o p) = 1 + cells_by count p
cells_by count (token l t p) = count t + cells_by count p
cells_by count (block l b p) = 1 + cells_by count b + cells_by count p

-- the cells of what a token stands for: of itself, if it stands for none
unfoldable pub cells_put : {L : Type 0} → Option (Plan L) → ℕ
cells_put None = 1
cells_put (Some q) = cells q

-- how many cells a token counts for, by what it stands for
unfoldable pub token_cells : {L : Type 0} → (stands : List ℕ → Option (Plan L)) → List ℕ → ℕ
token_cells stands t = cells_put (stands t)
