-- `run_uncleared`: 11, 12, a text that is not read, or the run of the accepted text.
use Rattle.std.proofs.Common.{arith}
use Rattle.std.proofs.lemmas.Result.{err_from_is_err_and}
use Rattle.run.proofs.RunParts.{accepted_cell, refused_arena, refused-text, refused_too_long, wrote_run}
use Rattle.run.proofs.run_uncleared.Goals as goal

pub returns-then-text-gt-LIMIT-clause-written : goal.returns-then-text-gt-LIMIT-clause-written
returns-then-text-gt-LIMIT-clause-written c = refused_too_long _ _ _ _ c.if-text-gt-LIMIT.true

pub returns-then-lent-gt-LIMIT-clause-written : goal.returns-then-lent-gt-LIMIT-clause-written
returns-then-lent-gt-LIMIT-clause-written c = refused_arena _ _ _ _ c.if-text-gt-LIMIT.false (omega arith)

pub returns-in_err-size-clause-written : goal.returns-in_err-size-clause-written
returns-in_err-size-clause-written c =
    let p = err_from_is_err_and c.from_residual.result c.from_residual.ensures.1 in
    rw (p.1, p.2) (refused-text _ _ _ _ c.if-text-gt-LIMIT.false (omega arith) c.in_err-size.ensures)

pub run_accepted-requires : goal.run_accepted-requires
run_accepted-requires c =
    accepted_cell _ _ c.if-text-gt-LIMIT.false (omega arith) {s = c.in_ok-size.size} c.in_ok-size.ensures _ c.new.ensures
    (omega arith)

pub returns-clause-written : goal.returns-clause-written
returns-clause-written c = wrote_run _ _ _ _ c.if-text-gt-LIMIT.false (omega arith) c.new.ensures c.run_accepted.ensures.written
