use Rattle.std.proofs.Common.{sym, ◌∙◌, arith}
use Rattle.words_check.proofs.Names.{permitted_cut, permitted_last, permitted_not, permitted_on}
use Rattle.words_check.proofs.are_permitted.Goals as goal

pub returns-in_default : goal.returns-in_default
returns-in_default c = permitted_cut c.loop-at.invariant c.loop-at-test.true (sym c.character_at.ensures.is ∙ c.in_default.is)

pub returns-then-not-may_hold : goal.returns-then-not-may_hold
returns-then-not-may_hold c =
    permitted_not c.loop-at.invariant (sym c.character_at.ensures.is ∙ c.in-Some.is) c.may_hold.ensures c.if-not-may_hold.true

pub loop-at-preserved : goal.loop-at-preserved
loop-at-preserved c =
    permitted_on c.loop-at.invariant (sym c.character_at.ensures.is ∙ c.in-Some.is) c.may_hold.ensures c.if-not-may_hold.false

pub returns : goal.returns
returns c = permitted_last c.loop-at.invariant (λ h. omega arith)
