-- `add_entry`: weighed, and then written where there is room.
use Rattle.std.proofs.Common.{arith, refl}
use Rattle.roll_rules.specs.Answers.{add}
use Rattle.roll_rules.proofs.Refusing.{refused}
use Rattle.roll_add.proofs.Entering.{ShortEntry, entry-added, entry-fits, entry-no_room, entry-refused, short_new}
use Rattle.roll_format.specs.Format.{parts_in}
use Rattle.roll_add.proofs.add_entry.Goals as goal
use Rattle.roll_add.proofs.add_entry.Goals.{In_ok-sums}

-- an entry that may be added is short
short : (c : In_ok-sums) → ShortEntry (parts_in c.args.added)
short c = short_new c.args.added _ _ c.in_ok-sums.ensures.fine

pub returns-in_err-sums : goal.returns-in_err-sums
unfolding add
returns-in_err-sums c = entry-refused _ _ _ c.weigh_used.ensures c.in_err-sums.was (refused c.from_residual.ensures.1)

pub entry_size-requires : goal.entry_size-requires
entry_size-requires c = (short (goal.at.entry_size-requires c).In_ok-sums).short

pub new_end-last-requires : goal.new_end-last-requires
new_end-last-requires c = omega (arith, c.entry_size.ensures, (short (goal.at.new_end-last-requires c).In_ok-sums).short)

pub returns-then-buffer-last : goal.returns-then-buffer-last
unfolding add
returns-then-buffer-last c = entry-no_room _ _ _ c.in_ok-sums.ensures c.entry_size.ensures c.new_end-last.ensures c.if-buffer-last.true c.min.ensures refl

pub put_entry-requires : goal.put_entry-requires
put_entry-requires c =
    entry-fits _ _ _ c.in_ok-sums.ensures c.entry_size.ensures c.new_end-last.ensures c.if-buffer-last.false
    (short (goal.at.put_entry-requires c).In_ok-sums).storable

pub returns : goal.returns
unfolding add
returns c =
    entry-added _ _ _ c.in_ok-sums.ensures c.entry_size.ensures c.new_end-last.ensures c.if-buffer-last.false c.with_entry.ensures c.put_entry.ensures
