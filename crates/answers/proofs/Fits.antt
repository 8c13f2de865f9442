-- What RUN tells of a printed text is never longer than the output that was lent.
use Prim.Native.Nat.{ℕ, ◌≤◌}
use mathlib.Core.Path.{◌≡◌, refl}
use mathlib.Core.List.{List}
use lib.ListN.{length}
use Rattle.plan.specs.Outcomes.{Outcome, Wrote}
use Rattle.numbers.proofs.Fits.{printed-fits, unread_no_length}
use Rattle.answers.specs.declared.RunRefusal.{RunRefusal}
use Rattle.answers.specs.declared.RunRefusal.TheVariants.{BadArena, NotRead, OutShort}
use Rattle.answers.specs.Run.{HowRan, RunAnswer, run_family, run_numbers, run_refusal_numbers}

no_length : (x : RunRefusal) → (run_refusal_numbers x).length ≡ 0
no_length BadArena = refl
no_length (NotRead u) = unread_no_length u
no_length (OutShort needed) = refl

pub run_fits : {o : Outcome RunRefusal HowRan} {out : List ℕ} {r : RunAnswer} {out' : List ℕ} → Wrote run_family o out r out'
    → (run_numbers r).length ≤ length out
run_fits call = printed-fits run_family run_numbers no_length (λ how cells long. refl) call
