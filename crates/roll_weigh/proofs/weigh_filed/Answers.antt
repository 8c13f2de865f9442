-- `weigh_filed`: its text, and then how the job stands.
use Rattle.roll_weigh.proofs.Weights.{filed_after, filed_again, filed_new, not-printed}
use Rattle.roll_weigh.proofs.weigh_filed.Goals as goal

pub returns-then-not-is_printed : goal.returns-then-not-is_printed
returns-then-not-is_printed c es b = not-printed _ _ _ c.is_printed.ensures c.if-not-is_printed.true

pub returns-in-Unfiled : goal.returns-in-Unfiled
returns-in-Unfiled c es b = filed_new _ _ _ c.is_printed.ensures c.if-not-is_printed.false (c.in-Unfiled.ensures.told es b)

pub returns-in-Filed : goal.returns-in-Filed
returns-in-Filed c es b = filed_again _ _ _ c.is_printed.ensures c.if-not-is_printed.false (c.in-Filed.ensures.told es b)

pub returns-in-Done : goal.returns-in-Done
returns-in-Done c es b = filed_after _ _ _ c.is_printed.ensures c.if-not-is_printed.false (c.in-Done.ensures.told es b)
