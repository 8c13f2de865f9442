-- "An unrefused run of a plan without operator c is never FULL, and is DONE where the quota is at least the plan's cells, since every
-- other rewrite makes it smaller." Document 01, about RUN.
-- Every public law here is a theorem of the demands.
use Prim.Native.Nat.{ℕ, ◌≤◌}
use mathlib.Core.Path.{◌≡◌, ap, sym, subst, ◌∙◌}
use mathlib.Core.Logic.{◌≢◌}
use mathlib.Core.List.{List}
use Rattle.rules.specs.declared.Ending.TheVariants.{Full}
use Rattle.plan.specs.Plan.{WithoutC, cells}
use Rattle.answers.specs.Run.{RunAnswer, ending_number, run_numbers}
use Rattle.rules.proofs.Runs.{without_c_done, without_c_not_full}
use Rattle.run.specs.Calls.{Runs}
use Rattle.demands.specs.Terms.{Bare, DONE, FULL, Reads, Unrefused, lent}
use Rattle.demands.proofs.Cases.{EndedRun, run_ended}
use Rattle.demands.proofs.Meanings.{reads_one, reads_sound, sound_cells}
use Rattle.demands.proofs.Numbers.{same-ending}

module _ {text : List ℕ} {quota : ℕ} {memory out : List ℕ} {r : RunAnswer} {memory' out' : List ℕ}
    (call : Runs text quota memory out r memory' out') (unrefused : Unrefused (run_numbers r))
    {p : Bare} (reads : Reads (lent memory) text p) (plain : WithoutC p) where
  run : EndedRun (lent memory) quota text out r out'
  run = run_ended call unrefused

  same : p ≡ run.ends.plan
  same = reads_one reads run.ends.reads

  number : (run_numbers r).number ≡ ending_number run.ending
  number = ap (λ (a : RunAnswer). (run_numbers a).number) run.told

  room : cells run.ends.plan ≤ lent memory
  room = (sound_cells (reads_sound run.ends.reads)).0

  pub without_c_never_full : (run_numbers r).number ≢ FULL
  without_c_never_full h =
      without_c_not_full (lent memory) quota run.ends.plan run.ends.ran (subst WithoutC same plain) room
      (same-ending run.ending Full (sym number ∙ h))

  pub without_c_ends_done : cells p ≤ quota → (run_numbers r).number ≡ DONE
  without_c_ends_done enough =
      number ∙ ap ending_number
      (without_c_done (lent memory) quota run.ends.plan run.ends.ran (subst WithoutC same plain) room
      (subst (λ q. cells q ≤ quota) same enough))
