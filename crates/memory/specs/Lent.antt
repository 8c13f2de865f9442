-- The numbers lent, and those past them.
use Rattle.std.specs.Prelude.{ℕ, ◌*◌, ◌≤◌, ◌≡◌, List, length, drop}
use Rattle.kinds.specs.Limits.{cell_limit, cell_numbers}

-- n cells are lent
pub record Lent (n : ℕ) (m : List ℕ) : Type 0 where
  pub room : cell_numbers * n ≤ length m
  pub few : n ≤ cell_limit

-- past the n lent cells the memory is as it was
pub record Aside (n : ℕ) (m m' : List ℕ) : Type 0 where
  pub as_long : length m' ≡ length m
  pub rest : drop (cell_numbers * n) m' ≡ drop (cell_numbers * n) m
