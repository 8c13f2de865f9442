-- `read`: the roll is looked over, and then its places go into the list.
use Rattle.roll_rules.proofs.Refusing.{refused}
use Rattle.roll_read.proofs.Reading.{lists_fillable, lists_filled, lists_refused, lists_short, judged_reads, judged-refused}
use Rattle.roll_read.proofs.read.Goals as goal

pub returns-in_err-sums : goal.returns-in_err-sums
returns-in_err-sums c = lists_refused _ _ (judged-refused _ c.judge_roll.ensures c.in_err-sums.was) (refused c.from_residual.ensures.1)

pub returns-then-list-sums : goal.returns-then-list-sums
returns-then-list-sums c = lists_short _ _ (judged_reads _ c.judge_roll.ensures c.in_ok-sums.was) c.if-list-sums.true

pub fill-requires : goal.fill-requires
fill-requires c = lists_fillable _ _ (judged_reads _ c.judge_roll.ensures c.in_ok-sums.was) c.if-list-sums.false

pub returns : goal.returns
returns c = lists_filled _ _ (judged_reads _ c.judge_roll.ensures c.in_ok-sums.was) c.if-list-sums.false c.fill.ensures
