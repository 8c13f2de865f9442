-- `run`: all but the clearing, then the clearing.
use Rattle.run.proofs.RunParts.{ran_call}
use Rattle.run.proofs.run.Goals as goal

pub returns : goal.returns
returns c =
    let u = c.run_uncleared-answer.ensures in
    ran_call _ _ _ _ _ _ _ _ u.written u.as_long c.clear.ensures
