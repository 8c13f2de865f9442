-- `put_entry`: the first byte where there was none, and then by the kind.
use Rattle.roll_put.proofs.Bytes.{new_begins, new_put, new_room, put_by, room_by}
use Rattle.roll_put.proofs.put_entry.Goals as goal

pub begin-at-requires : goal.begin-at-requires
begin-at-requires c = new_begins _ _ _ c.requires

pub put_filed-requires : goal.put_filed-requires
put_filed-requires c = new_room _ _ _ (room_by c.in-Filed.is c.requires) c.begin-at.ensures.put c.begin-at.ensures.there

pub put_done-requires : goal.put_done-requires
put_done-requires c = new_room _ _ _ (room_by c.in-Done.is c.requires) c.begin-at.ensures.put c.begin-at.ensures.there

pub returns-in-Filed : goal.returns-in-Filed
returns-in-Filed c =
    put_by c.args.buffer.now c.args.end c.in-Filed.is
    (new_put _ _ _ (room_by c.in-Filed.is c.requires) c.begin-at.ensures.put c.begin-at.ensures.there c.put_filed.ensures)

pub returns-in-Done : goal.returns-in-Done
returns-in-Done c =
    put_by c.args.buffer.now c.args.end c.in-Done.is
    (new_put _ _ _ (room_by c.in-Done.is c.requires) c.begin-at.ensures.put c.begin-at.ensures.there c.put_done.ensures)
