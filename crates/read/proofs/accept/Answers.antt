-- `accept`: a fault, then 17, else how large the plan is.
use Rattle.std.proofs.lemmas.Result.{err_from_is_err_and}
use Rattle.read.proofs.Accepting.{accept_faulty, accept_over, accept_fits}
use Rattle.read.proofs.accept.Goals as goal

pub returns-in_err-size : goal.returns-in_err-size
returns-in_err-size c =
    let p = err_from_is_err_and c.from_residual.result c.from_residual.ensures.1 in
    rw (p.1, p.2) (accept_faulty _ _ c.in_err-size.ensures)

pub returns-then-room-size : goal.returns-then-room-size
returns-then-room-size c = accept_over _ _ c.in_ok-size.ensures c.if-room-size.true

pub returns : goal.returns
returns c = accept_fits _ _ c.in_ok-size.ensures c.if-room-size.false
