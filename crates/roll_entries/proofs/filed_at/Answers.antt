-- `filed_at`: one section or the other is torn, or both are whole.
use Rattle.std.proofs.Common.{rules, ap, sym, ◌∙◌}
use Rattle.std.specs.Prelude.{Some}
use Rattle.stored.proofs.Pairs.{two_counted_found}
use Rattle.roll_format.specs.declared.EntryKind.TheVariants.{Filed}
use Rattle.roll_entries.specs.declared.EntryAt.TheVariants.{Known}
use Rattle.roll_entries.proofs.Told.{filed_torn, filed-whole}
use Rattle.roll_entries.proofs.filed_at.Goals as goal

pub returns-in_err-job : goal.returns-in_err-job
returns-in_err-job c = c.from_residual.ensures ∙ filed_torn _ _ (sym c.in_err-job.ensures)

pub end-requires : goal.end-requires
end-requires c = let within = (two_counted_found c.args.roll.now c.args.at (sym c.in_ok-job.ensures)).within₂ in search rules

pub returns : goal.returns
returns c = ap (λ n. Some (Known Filed c.in_ok-job.job c.in_ok-job.text n)) c.end.ensures ∙ filed-whole _ _ (sym c.in_ok-job.ensures)
