-- `weigh_used`: the bytes in use are weighed.
use Rattle.roll_format.specs.Format.{parts_in}
use Rattle.roll_add.proofs.InUse.{use_too_long, use_weighed}
use Rattle.roll_add.proofs.weigh_used.Goals as goal

pub returns-then-buffer-gt-LONGEST : goal.returns-then-buffer-gt-LONGEST
returns-then-buffer-gt-LONGEST c = use_too_long _ _ (parts_in c.args.added) c.if-buffer-gt-LONGEST.true

pub returns : goal.returns
returns c =
    use_weighed c.args.buffer.now c.args.used (parts_in c.args.added) c.if-buffer-gt-LONGEST.false c.min-end.ensures c.weigh_roll.result
    c.weigh_roll.ensures
