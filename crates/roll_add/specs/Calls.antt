-- What adding an entry promises: every number of the answer, every byte of the buffer lent, and both numbers of the tally lent.
use Rattle.std.specs.Prelude.{ℕ, ◌≡◌, List}
use Rattle.roll_rules.specs.Answers.{Added, RollAnswer, grown}
use Rattle.roll_rules.specs.declared.Tally.{Tally}

-- the answer, the buffer and the tally that a call gives back
pub record Adds (a : Added) (tally : Tally) (r : RollAnswer) (buffer' : List ℕ) (tally' : Tally) : Type 0 where
  pub answer : r ≡ a.answer
  pub bytes : buffer' ≡ a.buffer
  pub filed : tally'.filed ≡ grown a.more_filed tally.filed
  pub done : tally'.done ≡ grown a.more_done tally.done
