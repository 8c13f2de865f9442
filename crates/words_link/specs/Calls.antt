-- What a call of linking did. The contract says this and no more. The inputs come first, then the answer and what the call left.
use Rattle.std.specs.Prelude.{ℕ, List}
use Rattle.kinds.specs.Limits.{standard}
use Rattle.plan.specs.Outcomes.{Wrote}
use Rattle.words_meaning.specs.Answers.{LinkAnswer, link_family, link_outcome}

pub record Links (list text out : List ℕ) (r : LinkAnswer) (out' : List ℕ) : Type 0 where
  pub wrote : Wrote link_family (link_outcome standard list text) out r out'
