-- `file_entry`: a FILED.
use Rattle.roll_rules.specs.Answers.{file}
use Rattle.roll_add.proofs.file_entry.Goals as goal

pub returns : goal.returns
unfolding file
returns c = c.add_entry.ensures
