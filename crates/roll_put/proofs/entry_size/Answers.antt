-- `entry_size`: the counts, and what they count.
use Rattle.std.proofs.Common.{arith, [], ◌∙◌}
use Rattle.roll_put.proofs.Bytes.{done_long, entry_long, filed_long}
use Rattle.roll_put.proofs.entry_size.Goals as goal

pub overflow_add-result-in-Filed-3 : goal.overflow_add-result-in-Filed-3
overflow_add-result-in-Filed-3 c = omega (arith, c.requires, filed_long c.in-Filed.job.now c.in-Filed.text.now, entry_long c.in-Filed.is)

pub returns-in-Filed : goal.returns-in-Filed
returns-in-Filed c = filed_long c.in-Filed.job.now c.in-Filed.text.now ∙ entry_long c.in-Filed.is

pub returns-in-Done : goal.returns-in-Done
returns-in-Done c = done_long c.in-Done.job.now [] ∙ entry_long c.in-Done.is
