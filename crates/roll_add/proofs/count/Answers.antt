-- `count`: nothing of a refusal is counted.
use Rattle.roll_rules.proofs.Refusing.{refused}
use Rattle.roll_add.proofs.Counting.{counted_none}
use Rattle.roll_add.proofs.count.Goals as goal

pub returns-in_err-sums : goal.returns-in_err-sums
returns-in_err-sums c = counted_none c.args.tally.now c.in_err-sums.was (refused c.from_residual.ensures.1)
