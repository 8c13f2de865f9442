-- When READ and RUN refuse, and with which place. The rows are 11 to 17 of document 01's table, with 21 to 25 in place of 14, and row 18:
-- the printed text is longer than the output. READ's table has no row 12.
use Rattle.std.specs.Prelude.{ℕ, ◌<◌, List, length}
use Rattle.kinds.specs.Limits.{cell_limit, standard}
use Rattle.plan.specs.declared.ReadRefusal.{ReadRefusal}
use Rattle.plan.specs.declared.ReadRefusal.TheVariants.{NotRead, OutShort as PastOutput}
use Rattle.plan.specs.declared.Unread.{Unread}
use Rattle.plan.specs.Plan.{print}
use Rattle.plan.specs.Refusals.{Unreadable}
use Rattle.rules.specs.declared.Ending.{Ending}
use Rattle.answers.specs.declared.RunRefusal.{RunRefusal}
use Rattle.answers.specs.declared.RunRefusal.TheVariants.{OutShort}
use Rattle.answers.specs.Run.{Refuses}
use Rattle.demands.specs.Terms.{Bare, Ends, Reads}

pub data ReadRefuses (text out : List ℕ) : ReadRefusal → Type 0 where
  rows_11_to_17 : {u : Unread} → Unreadable standard cell_limit text u → ReadRefuses text out (NotRead u)
  row_18 : {p : Bare} → Reads cell_limit text p → length out < length (print p) → ReadRefuses text out (PastOutput (length (print p)))

pub data RunRefuses (n quota : ℕ) (text out : List ℕ) : RunRefusal → Type 0 where
  rows_11_to_17 : {x : RunRefusal} → Refuses standard n text x → RunRefuses n quota text out x
  row_18 : {e : Ending} {steps : ℕ} {q : Bare} → Ends n quota text e steps q → length out < length (print q)
      → RunRefuses n quota text out (OutShort (length (print q)))
