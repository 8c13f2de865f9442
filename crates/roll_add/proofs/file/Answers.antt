-- `file`: the entry is added, and then counted.
use Rattle.roll_add.proofs.Counting.{adds}
use Rattle.roll_add.proofs.file.Goals as goal

pub returns : goal.returns
returns c = adds _ _ _ _ _ _ c.file_entry-entered.ensures c.count.ensures
