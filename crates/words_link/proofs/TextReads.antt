-- A text that reads, however many cells it has, reads as its plan.
use Prim.Native.Nat.{ℕ}
use mathlib.Core.Path.{◌≡◌, ap, sym, ◌∙◌}
use mathlib.Core.List.{List}
use Rattle.kinds.specs.Limits.{standard, token_limit}
use Rattle.plan.specs.Plan.{Plan}
use Rattle.plan.specs.Reading.{PLAN, plan_in, plan_of, read_text}
use Rattle.plan.proofs.Accepting.{reads_short}

module _ (text : List ℕ) {p : Plan ℕ} (is : read_text standard text ≡ PLAN p) where
  pub reads_plan : read_text standard text ≡ PLAN (plan_of token_limit text)
  unfolding plan_of plan_in
  reads_plan = is ∙ ap PLAN (sym (ap plan_in (reads_short standard text is).1))
