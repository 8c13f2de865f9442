-- What the parts of RUN promise each other.
use Rattle.std.specs.Prelude.{ℕ, ◌≤◌, ◌≡◌, List, length}
use Rattle.kinds.specs.Limits.{text_limit, token_limit}
use Rattle.plan.specs.Plan.{Plan, cells, print}
use Rattle.plan.specs.Reading.{ACCEPTED, read}
use Rattle.memory.specs.Lent.{Lent}
use Rattle.memory.specs.declared.HeldPlan.{HeldPlan}
use Rattle.memory.specs.Pieces.{print_limit}
use Rattle.engine.specs.Running.{Sized}
use Rattle.engine.specs.declared.Ended.{Ended}
use Rattle.plan.specs.Outcomes.{Wrote}
use Rattle.rules.specs.Running.{RAN}
use Rattle.answers.specs.Run.{RunAnswer, as_run, run_family}

-- the memory holds the plan that a run ended with, and its printed text is not too long
pub record Printable (text : List ℕ) (h : HeldPlan) (e : Ended) : Type 0 where
  pub plan : Plan ℕ
  pub sized : Sized text h e.size plan
  pub fits : length (print plan) ≤ print_limit

-- the answer and the output are those of a run that ended so, with the plan that the memory holds
abbrev pub EndWritten : (text : List ℕ) → HeldPlan → Ended → (out : List ℕ) → RunAnswer → (out' : List ℕ) → Type 0
EndWritten text h e out r out' =
    (t : Plan ℕ) → Sized text h e.size t → Wrote run_family (as_run (RAN e.ending e.steps t)) out r out'

-- where n cells are lent, with these numbers, the text was accepted as a plan of `size` cells
pub record TextAccepted (text m : List ℕ) (n size : ℕ) : Type 0 where
  pub lent : Lent n m
  pub short : length text ≤ text_limit
  pub plan : Plan ℕ
  pub reads : read token_limit n text ≡ ACCEPTED plan
  pub sized : size ≡ cells plan
