-- `judge_roll`: the roll's length, its first byte, and then its entries.
use Rattle.std.proofs.Common.{sym, ◌∙◌}
use borrow.Author.Tests.{eqb-false, eqb-true}
use Rattle.roll_read.proofs.Judging.{judged_empty, judged_by_entries, judged-first_byte, judged_too_long}
use Rattle.roll_read.proofs.judge_roll.Goals as goal

pub returns-then-roll-gt-LONGEST : goal.returns-then-roll-gt-LONGEST
returns-then-roll-gt-LONGEST c = judged_too_long _ c.if-roll-gt-LONGEST.true

pub returns-then-is_empty : goal.returns-then-is_empty
returns-then-is_empty c = judged_empty _ c.if-roll-gt-LONGEST.false (eqb-true _ _ (sym c.if-is_empty.ensures))

pub returns-then-roll-ne-FIRST : goal.returns-then-roll-ne-FIRST
returns-then-roll-ne-FIRST c = judged-first_byte _ c.if-roll-gt-LONGEST.false (eqb-false _ _ (sym c.if-is_empty.ensures)) c.if-roll-ne-FIRST.true

pub returns : goal.returns
returns c = c.judge_entries.ensures ∙ judged_by_entries _ c.if-roll-gt-LONGEST.false (eqb-false _ _ (sym c.if-is_empty.ensures)) c.if-roll-ne-FIRST.false
