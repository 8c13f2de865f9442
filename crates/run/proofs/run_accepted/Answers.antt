-- `run_accepted`: build, run, print.
use Rattle.run.proofs.RunParts.{built_runnable, end_printable, end_written}
use Rattle.run.proofs.run_accepted.Goals as goal

pub run-ended-requires : goal.run-ended-requires
run-ended-requires c =
    let built = c.build_plan-held.ensures in
    built_runnable _ c.requires _ built.holds built.same_cells

pub print_plan-requires : goal.print_plan-requires
print_plan-requires c =
    let built = c.build_plan-held.ensures in
    end_printable _ c.requires _ built.holds built.same_cells _ _ _ c.run-ended.ensures.ran

pub returns-clause-written : goal.returns-clause-written
returns-clause-written c =
    let built = c.build_plan-held.ensures in
    end_written _ c.requires _ built.holds built.same_cells _ _ _ c.run-ended.ensures.ran _ c.print_plan.ensures
