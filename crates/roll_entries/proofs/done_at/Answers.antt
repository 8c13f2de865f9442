-- `done_at`: the section is torn, or whole.
use Rattle.std.proofs.Common.{rules, ap, sym, ◌∙◌}
use Rattle.std.specs.Prelude.{Some}
use Rattle.stored.specs.Spans.{span}
use Rattle.stored.proofs.Places.{counted_found}
use Rattle.roll_format.specs.declared.EntryKind.TheVariants.{Done}
use Rattle.roll_entries.specs.declared.EntryAt.TheVariants.{Known}
use Rattle.roll_entries.proofs.Told.{done_torn, done-whole}
use Rattle.roll_entries.proofs.done_at.Goals as goal

pub returns-in_err-job : goal.returns-in_err-job
returns-in_err-job c = c.from_residual.ensures ∙ done_torn _ _ (sym c.in_err-job.ensures)

pub end-requires : goal.end-requires
end-requires c = let within = (counted_found c.args.roll.now c.args.at (sym c.in_ok-job.ensures)).within in search rules

pub returns : goal.returns
returns c = ap (λ n. Some (Known Done c.in_ok-job.job (span 0 0) n)) c.end.ensures ∙ done-whole _ _ (sym c.in_ok-job.ensures)
