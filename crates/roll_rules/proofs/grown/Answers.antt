-- `grown`: one more or none, and no further than the largest number.
use Rattle.std.proofs.Common.{arith}
use Rattle.roll_rules.proofs.Growing.{grown_capped}
use Rattle.roll_rules.proofs.grown.Goals as goal

pub returns : goal.returns
returns c = grown_capped c.args.more c.args.count (omega arith) c.from.ensures c.saturating_add.ensures
