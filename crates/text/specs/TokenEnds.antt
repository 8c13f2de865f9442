-- Where a token of a text stands: from its `{` to its `}`, both within the text, and within the token's limit.
use Rattle.std.specs.Prelude.{ℕ, ◌+◌, ◌-◌, ◌≤◌, ◌<◌, List, length}
use Rattle.kinds.specs.Limits.{text_limit, token_limit}

pub record TokenEnds (text : List ℕ) (at end : ℕ) : Type 0 where
  pub inside : end < length text
  pub ahead : at < end
  pub few : end + 1 - at ≤ token_limit
  pub short : length text ≤ text_limit
