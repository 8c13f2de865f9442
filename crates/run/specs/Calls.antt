-- What a call of RUN did. The contract says this and no more. The demands are proved of it alone, so they hold of any code that meets the
-- contract. The inputs come first, then the answer and what the call left.
use Rattle.std.specs.Prelude.{ℕ, ◌≡◌, List, length}
use Rattle.kinds.specs.Limits.{standard}
use Rattle.plan.specs.Outcomes.{Wrote, cleared}
use Rattle.answers.specs.Run.{RunAnswer, quarter, run_family, run_outcome}

pub record Runs (text : List ℕ) (quota : ℕ) (memory out : List ℕ) (r : RunAnswer) (memory' out' : List ℕ) : Type 0 where
  pub wrote : Wrote run_family (run_outcome standard (quarter (length memory)) quota text) out r out'
  pub zeroed : memory' ≡ cleared memory
