-- `step`: hunt, count, ask, rewrite.
use Rattle.std.proofs.Common.{arith, true, not, ap}
use Rattle.engine.proofs.Turning.{huntable, turn-done, turn_full, turn_quota, turn_rewritable, turn_went}
use Rattle.engine.proofs.step.Goals as goal

pub hunt-requires : goal.hunt-requires
hunt-requires c = huntable c.requires

pub returns-then-after-outer-clause-turned : goal.returns-then-after-outer-clause-turned
returns-then-after-outer-clause-turned c =
    turn_full c.hunt.ensures c.in-Some.is _ c.size_after-after.ensures c.if-after-outer.true true

pub returns-then-not-more-clause-turned : goal.returns-then-not-more-clause-turned
returns-then-not-more-clause-turned c =
    turn_quota c.hunt.ensures c.in-Some.is _ c.size_after-after.ensures (omega arith) _ (ap not c.if-not-more.true)

pub rewrite-requires : goal.rewrite-requires
rewrite-requires c =
    turn_rewritable c.hunt.ensures c.in-Some.is _ c.size_after-after.ensures c.if-after-outer.false c.requires

pub returns-in_default-clause-turned : goal.returns-in_default-clause-turned
returns-in_default-clause-turned c = turn-done c.hunt.ensures c.in_default.is true

pub returns-clause-turned : goal.returns-clause-turned
returns-clause-turned c =
    turn_went c.hunt.ensures c.in-Some.is _ c.size_after-after.ensures c.if-after-outer.false _ (ap not c.if-not-more.false)
    c.rewrite.ensures.rewritten
