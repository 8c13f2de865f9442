-- `put_counted`: the count, and the bytes behind it.
use Rattle.std.proofs.Common.{arith}
use Rattle.stored.proofs.Written.{counted_stored}
use Rattle.stored.proofs.put_counted.Goals as goal

pub returns : goal.returns
returns c = counted_stored c.args.bytes.now _ _ c.args.given.now c.args.at (omega arith) c.put_number.ensures c.put_bytes.ensures
