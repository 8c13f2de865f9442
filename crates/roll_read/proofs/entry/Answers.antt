-- `entry`: told by its own bytes.
use Rattle.std.proofs.Common.{rules, ap, ◌∙◌}
use Rattle.std.specs.Prelude.{Some}
use Rattle.roll_read.proofs.OneEntry.{entry_known, entry_other, entry_too_long, entry_torn, known_fits}
use Rattle.roll_read.proofs.entry.Goals as goal

pub returns-then-roll-gt-LONGEST : goal.returns-then-roll-gt-LONGEST
returns-then-roll-gt-LONGEST c = entry_too_long _ _ c.if-roll-gt-LONGEST.true

pub overflow_cast-result : goal.overflow_cast-result
overflow_cast-result c = let fits = known_fits _ _ c.if-roll-gt-LONGEST.false c.entry_at.ensures (c.in-Some.is ∙ ap Some c.in-Known.is) in search rules

pub overflow_cast-result-in-Known : goal.overflow_cast-result-in-Known
overflow_cast-result-in-Known c = let fits = known_fits _ _ c.if-roll-gt-LONGEST.false c.entry_at.ensures (c.in-Some.is ∙ ap Some c.in-Known.is) in search rules

pub overflow_cast-result-in-Known-2 : goal.overflow_cast-result-in-Known-2
overflow_cast-result-in-Known-2 c = let fits = known_fits _ _ c.if-roll-gt-LONGEST.false c.entry_at.ensures (c.in-Some.is ∙ ap Some c.in-Known.is) in search rules

pub overflow_cast-result-in-Known-3 : goal.overflow_cast-result-in-Known-3
overflow_cast-result-in-Known-3 c = let fits = known_fits _ _ c.if-roll-gt-LONGEST.false c.entry_at.ensures (c.in-Some.is ∙ ap Some c.in-Known.is) in search rules

pub returns-in_default : goal.returns-in_default
returns-in_default c = entry_torn _ _ c.if-roll-gt-LONGEST.false c.entry_at.ensures c.in_default.is

pub returns-in-Other : goal.returns-in-Other
returns-in-Other c = entry_other _ _ c.if-roll-gt-LONGEST.false c.entry_at.ensures (c.in-Some.is ∙ ap Some c.in-Other.is)

pub returns-in-Known : goal.returns-in-Known
returns-in-Known c = entry_known _ _ c.if-roll-gt-LONGEST.false c.entry_at.ensures (c.in-Some.is ∙ ap Some c.in-Known.is)
