-- `put_done`: each store behind the last.
use Rattle.std.proofs.Common.{arith}
use Rattle.roll_put.proofs.Bytes.{done_put, done_room, number_room}
use Rattle.roll_put.proofs.put_done.Goals as goal

pub put_number-requires : goal.put_number-requires
put_number-requires c = number_room _ _ _ c.requires

pub put_counted-requires : goal.put_counted-requires
put_counted-requires c = (omega (arith, c.requires.storable.0), done_room _ _ _ c.requires c.put_number.ensures)

pub returns : goal.returns
returns c = done_put _ _ _ c.requires c.put_number.ensures c.put_counted.ensures
