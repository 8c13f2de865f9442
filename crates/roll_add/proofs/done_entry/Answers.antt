-- `done_entry`: a DONE.
use Rattle.roll_rules.specs.Answers.{close_job}
use Rattle.roll_add.proofs.done_entry.Goals as goal

pub returns : goal.returns
unfolding close_job
returns c = c.add_entry.ensures
