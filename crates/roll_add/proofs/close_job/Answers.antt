-- `close_job`: the entry is added, and then counted.
use Rattle.roll_add.proofs.Counting.{adds}
use Rattle.roll_add.proofs.close_job.Goals as goal

pub returns : goal.returns
returns c = adds _ _ _ _ _ _ c.done_entry-entered.ensures c.count.ensures
