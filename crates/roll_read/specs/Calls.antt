-- What a call of each service of the roll did. The contracts say this and no more. The inputs come
-- first, then the answer and what the call left.
use Rattle.std.specs.Prelude.{ℕ, ◌≡◌, List}
use Rattle.roll_rules.specs.Answers.{RollAnswer, edition_1, read_roll}

pub record Lists (roll list : List ℕ) (r : RollAnswer) (list' : List ℕ) : Type 0 where
  pub answer : r ≡ (read_roll edition_1 roll list).answer
  pub places : list' ≡ (read_roll edition_1 roll list).list
