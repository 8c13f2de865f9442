-- `entry_at`: the number of sections is torn, or says which entry it is.
use Rattle.std.proofs.Common.{arith, rules, sym, ◌∙◌}
use Rattle.roll_entries.proofs.Told.{entry_torn, entry_within, entry_done, entry-filed, entry_other}
use Rattle.roll_entries.proofs.entry_at.Goals as goal

pub returns-in_err-count : goal.returns-in_err-count
returns-in_err-count c = c.from_residual.ensures ∙ entry_torn _ _ (sym c.in_err-count.ensures)

pub overflow_add-from : goal.overflow_add-from
overflow_add-from c = let within = entry_within c.args.roll.now c.args.at (sym c.in_ok-count.ensures) in search rules

pub other_at-requires : goal.other_at-requires
other_at-requires c = entry_within c.args.roll.now c.args.at (sym c.in_ok-count.ensures)

pub returns-in-1 : goal.returns-in-1
returns-in-1 c = c.done_at.ensures ∙ entry_done _ _ (sym c.in_ok-count.ensures) c.in-1.is

pub returns-in-2 : goal.returns-in-2
returns-in-2 c = c.filed_at.ensures ∙ entry-filed _ _ (sym c.in_ok-count.ensures) c.in-2.is

pub returns-in_default : goal.returns-in_default
returns-in_default c = c.other_at.ensures ∙ entry_other _ _ (sym c.in_ok-count.ensures) (λ one. omega arith) (λ two. omega arith)
