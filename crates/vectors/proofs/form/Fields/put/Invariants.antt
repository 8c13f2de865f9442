-- `put`: what is filled stays within the room.
use Rattle.std.proofs.Common.{◌≤◌, length}
use Rattle.vectors.proofs.form.Fields.put.Given as goal

abbrev pub invariant-loop : goal.invariant-loop
invariant-loop l = l.filled ≤ length l.room
