-- `newest`: each arm is the case of its entry.
use Rattle.std.proofs.Common.{ap, ◌∙◌}
use Rattle.std.specs.Prelude.{Some}
use Rattle.roll_standing.proofs.Looking.{done-same, filed-same, job_told, of_another, other_older, torn_older}
use Rattle.roll_standing.proofs.newest.Goals as goal

pub returns-in_default-clause-told : goal.returns-in_default-clause-told
returns-in_default-clause-told c = torn_older _ _ _ _ c.in_default.is

pub returns-in-Other-clause-told : goal.returns-in-Other-clause-told
returns-in-Other-clause-told c = other_older _ _ _ _ (c.in-Some.is ∙ ap Some c.in-Other.is)

pub returns-then-ne-clause-told : goal.returns-then-ne-clause-told
returns-then-ne-clause-told c = of_another _ _ _ _ (c.in-Some.is ∙ ap Some c.in-Known.is) (job_told _ c.if-ne.true c.ne.ensures c.part.ensures)

pub returns-in-Filed-clause-told : goal.returns-in-Filed-clause-told
returns-in-Filed-clause-told c = filed-same _ _ _ _ (c.in-Some.is ∙ ap Some c.in-Known.is) (job_told _ c.if-ne.false c.ne.ensures c.part.ensures) c.in-Filed.is

pub returns-in-Done-clause-told : goal.returns-in-Done-clause-told
returns-in-Done-clause-told c = done-same _ _ _ _ (c.in-Some.is ∙ ap Some c.in-Known.is) (job_told _ c.if-ne.false c.ne.ensures c.part.ensures) c.in-Done.is
