use Rattle.items.proofs.Passing.{mark_from, mark_less, mark_passed, pass_end}
use Rattle.items.proofs.next_piece.Goals as goal

pub mark_end-at-requires : goal.mark_end-at-requires
mark_end-at-requires c = mark_from c.loop-at.invariant c.loop-at-test.true c.is_mark.ensures c.if-is_mark.true

pub loop-at-smaller : goal.loop-at-smaller
loop-at-smaller c = mark_less c.loop-at.invariant c.loop-at-test.true c.is_mark.ensures c.if-is_mark.true _ c.mark_end-at.ensures

pub loop-at-preserved : goal.loop-at-preserved
loop-at-preserved c = mark_passed c.loop-at.invariant c.loop-at-test.true c.is_mark.ensures c.if-is_mark.true _ c.mark_end-at.ensures

pub returns : goal.returns
returns c = pass_end c.loop-at.invariant c.loop-at-test.false
