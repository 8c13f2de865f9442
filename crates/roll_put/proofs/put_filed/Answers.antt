-- `put_filed`: each store behind the last.
use Rattle.std.proofs.Common.{arith}
use Rattle.roll_put.proofs.Bytes.{filed-job_room, filed_put, filed-text_room, number_room}
use Rattle.roll_put.proofs.put_filed.Goals as goal

pub put_number-requires : goal.put_number-requires
put_number-requires c = number_room _ _ _ c.requires

pub put_counted-requires : goal.put_counted-requires
put_counted-requires c = (omega (arith, c.requires.storable.0), filed-job_room _ _ _ _ c.requires c.put_number.ensures)

pub put_counted-requires-2 : goal.put_counted-requires-2
put_counted-requires-2 c =
    (omega (arith, c.requires.storable.1.0), filed-text_room _ _ _ _ c.requires c.put_number.ensures c.put_counted.ensures)

pub returns : goal.returns
returns c = filed_put _ _ _ _ c.requires c.put_number.ensures c.put_counted.ensures c.put_counted-2.ensures
