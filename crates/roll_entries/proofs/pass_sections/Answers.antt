-- `pass_sections`: a section that is cut cuts all, and behind a whole one the loop goes on.
use Rattle.std.proofs.Common.{arith, rules, sym, ◌∙◌}
use Rattle.stored.proofs.Places.{counted_found}
use Rattle.roll_entries.proofs.Told.{sections-first, sections_end, sections_on, sections_torn}
use Rattle.roll_entries.proofs.pass_sections.Goals as goal

pub loop-init : goal.loop-init
loop-init c = sections-first _ _ c.requires (omega arith)

pub returns-in_err-section : goal.returns-in_err-section
returns-in_err-section c = c.from_residual.ensures ∙ sections_torn c.loop.invariant (omega arith) (sym c.in_err-section.ensures)

pub end-at-requires : goal.end-at-requires
end-at-requires c = let within = (counted_found c.args.roll.now c.loop.at (sym c.in_ok-section.ensures)).within in search rules

pub loop-preserved : goal.loop-preserved
loop-preserved c = sections_on c.loop.invariant (omega arith) (sym c.in_ok-section.ensures) _ _ c.end-at.ensures (omega arith)

pub returns : goal.returns
returns c = sections_end c.loop.invariant (omega arith)
