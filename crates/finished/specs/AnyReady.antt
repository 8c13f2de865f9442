-- Whether an operator is ready. The pieces of a plan tell it in their order, in one pass and without a tree. Two things are kept from piece
-- to piece. One is how many blocks come right before, counted up to two, since no operator takes more. The other is one bit for each open
-- block: whether it came right behind another. The bit is kept since what came before the block is lost sight of until the block ends.
use Rattle.std.specs.Prelude.{ℕ, Bool, true, false, ◌||◌, List, [], ◌∷◌, leb, ltb}
use Rattle.rules.specs.Leftmost.{takes}
use Rattle.plan.specs.Pieces.{Piece, OP, TOKEN, BEGIN, END}

-- how many blocks come right before what follows a block: two if that block came right behind another, else one
abbrev pub blocks_behind : Bool → ℕ
blocks_behind true = 2
blocks_behind false = 1

-- an operator is ready somewhere in the pieces, where so many blocks come right before them. The open blocks' bits stand innermost
-- first; a `]` with no block open is in no plan
unfoldable pub any_ready : {L : Type 0} → (blocks : ℕ) → (seconds : List Bool) → List (Piece L) → Bool
any_ready blocks seconds [] = false
any_ready blocks seconds (OP l o ∷ ps) = leb (takes o) blocks || any_ready 0 seconds ps
any_ready blocks seconds (TOKEN l t ∷ ps) = any_ready 0 seconds ps
any_ready blocks seconds (BEGIN l ∷ ps) = any_ready 0 (ltb 0 blocks ∷ seconds) ps
any_ready blocks [] (END ∷ ps) = false
any_ready blocks (second ∷ seconds) (END ∷ ps) = any_ready (blocks_behind second) seconds ps
