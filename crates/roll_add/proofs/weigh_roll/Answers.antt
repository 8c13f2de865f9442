-- `weigh_roll`: the roll is looked over, and then the entry is weighed.
use Rattle.std.proofs.Common.{refl}
use Rattle.std.proofs.lemmas.Grind.{merely}
use Rattle.roll_format.specs.Format.{parts_in}
use Rattle.roll_rules.proofs.Refusing.{refused}
use Rattle.roll_add.proofs.Weighed.{entry_faulty, entry_fine, refused-roll, stands_before}
use Rattle.roll_add.proofs.weigh_roll.Goals as goal

pub returns-in_err-sums : goal.returns-in_err-sums
returns-in_err-sums c = refused-roll _ c.judge_roll.ensures (parts_in c.args.added) c.in_err-sums.was (refused c.from_residual.ensures.1)

pub invariant_of-front : goal.invariant_of-front
invariant_of-front c = record { entries = merely (stands_before _ c.judge_roll.ensures (parts_in c.args.added) c.in_ok-sums.was) }

pub returns-in-Err : goal.returns-in-Err
returns-in-Err c = entry_faulty _ c.judge_roll.ensures (parts_in c.args.added) c.in_ok-sums.was c.weigh.ensures c.in-Err.is refl

pub returns-in-Ok : goal.returns-in-Ok
returns-in-Ok c = entry_fine _ c.judge_roll.ensures (parts_in c.args.added) c.in_ok-sums.was c.weigh.ensures c.in-Ok.is
