-- `weigh_done`: how the job stands, and whether its text is finished.
use Rattle.std.proofs.Common.{◌≡◌, List, ap, reverse, ◌∙◌}
use Rattle.roll_format.specs.Format.{Entry}
use Rattle.roll_rules.specs.EntriesBefore.{EntriesBefore}
use Rattle.roll_rules.specs.Rules.{FILED_AT, standing}
use Rattle.roll_standing.proofs.Fronts.{front_entries}
use Rattle.roll_weigh.proofs.Weights.{done_again, done-finished, done_unfiled, done-unfinished, filed-finished, filed_shows}
use Rattle.roll_weigh.proofs.weigh_done.Goals as goal
use Rattle.roll_weigh.proofs.weigh_done.Goals.{After-part}

-- the text that stands filed, as it is lent
filed : (c : After-part) (es : List Entry) → EntriesBefore c.args.front.now.roll.now es c.args.front.now.upto → FILED_AT c.in-Filed.at c.part.result.now ≡ standing c.args.job.now (reverse es)
filed c es b = ap (FILED_AT c.in-Filed.at) c.part.ensures ∙ c.in-Filed.ensures.told es b

pub is_finished-requires : goal.is_finished-requires
is_finished-requires c = let b = front_entries _ _ c.args.front.now.entries in filed_shows _ b (filed (goal.at.is_finished-requires c).After-part b.es b.before)

pub returns-then-not-is_finished : goal.returns-then-not-is_finished
returns-then-not-is_finished c es b =
    let f = filed (goal.at.returns-then-not-is_finished c).After-part es b in
    done-unfinished _ _ f (filed-finished _ es b f c.is_finished.ensures) c.if-not-is_finished.true

pub returns-in-Unfiled : goal.returns-in-Unfiled
returns-in-Unfiled c es b = done_unfiled _ _ (c.in-Unfiled.ensures.told es b)

pub returns-in-Done : goal.returns-in-Done
returns-in-Done c es b = done_again _ _ (c.in-Done.ensures.told es b)

pub returns-else-not-is_finished : goal.returns-else-not-is_finished
returns-else-not-is_finished c es b =
    let f = filed (goal.at.returns-else-not-is_finished c).After-part es b in
    done-finished _ _ f (filed-finished _ es b f c.is_finished.ensures) c.if-not-is_finished.false
