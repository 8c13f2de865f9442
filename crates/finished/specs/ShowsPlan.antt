-- When a text can be asked whether it is finished.
use Rattle.std.specs.Prelude.{ℕ, ◌≤◌, length, List}
use Rattle.kinds.specs.Limits.{cell_limit, text_limit, token_limit}
use Rattle.plan.specs.Pieces.{Shows, pieces}
use Rattle.plan.specs.Plan.{Plan, cells}

-- an accepted text, by the pieces that it shows; its plan's cells bound how many blocks are ever open
pub record ShowsPlan (text : List ℕ) : Type 0 where
  pub short : length text ≤ text_limit
  pub plan : Plan ℕ
  pub fits : cells plan ≤ cell_limit
  pub shows : Shows token_limit 0 text (pieces plan)
