-- What a call of READ did. The contract says this and no more. The theorems are proved of it alone, so they hold of any code that meets the
-- contract. The inputs come first, then the answer and what the call left.
use Rattle.std.specs.Prelude.{ℕ, List}
use Rattle.kinds.specs.Limits.{standard}
use Rattle.plan.specs.Outcomes.{Wrote}
use Rattle.plan.specs.Read.{ReadAnswer, read_family, read_outcome}

pub record ReadsOut (text out : List ℕ) (r : ReadAnswer) (out' : List ℕ) : Type 0 where
  pub wrote : Wrote read_family (read_outcome standard text) out r out'
