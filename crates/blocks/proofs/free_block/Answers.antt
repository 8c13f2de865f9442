-- `free_block`: each turn of the loop is a lemma of `Dropping`.
use Rattle.std.proofs.Common.{ap, le_of_lt}
use Rattle.memory.specs.Model.{Model}
use Rattle.memory.proofs.Compared.{apart, met}
use Rattle.blocks.proofs.Dropping.{drop-first, drop_low, close_less, drop-close, start_less, drop-start, drop_end}
use Rattle.blocks.proofs.Starts.{is_close, is_start}
use Rattle.blocks.proofs.free_block.Goals as goal

pub loop-end-init : goal.loop-end-init
loop-end-init c = drop-first c.requires _ _ c.close-end.ensures c.start-at.ensures

pub link_of-next-requires : goal.link_of-next-requires
link_of-next-requires c = le_of_lt (drop_low c.loop-end.invariant (apart c.ne.ensures c.loop-end-test.true))

pub keep_cell-requires : goal.keep_cell-requires
keep_cell-requires c = drop_low c.loop-end.invariant (apart c.ne.ensures c.loop-end-test.true)

pub loop-end-smaller-then-not-closes : goal.loop-end-smaller-then-not-closes
loop-end-smaller-then-not-closes c =
    start_less c.loop-end.invariant (apart c.ne.ensures c.loop-end-test.true) _ c.link_of-next.ensures _ _
    (ap (λ (s : Model). s.numbers) c.keep_cell.ensures.steps)

pub loop-end-preserved-then-not-closes : goal.loop-end-preserved-then-not-closes
loop-end-preserved-then-not-closes c =
    let kept = c.keep_cell.ensures in
    drop-start c.loop-end.invariant (apart c.ne.ensures c.loop-end-test.true) _ c.link_of-next.ensures _
    (ap (λ (s : Model). s.numbers) kept.steps) (record { outer = kept.same.outer; lent = kept.same.lent; aside = kept.same.aside })
    (is_start _ c.closes.ensures c.if-not-closes.true) c.cell-held.ensures

pub loop-end-smaller : goal.loop-end-smaller
loop-end-smaller c = close_less c.loop-end.invariant (apart c.ne.ensures c.loop-end-test.true) _ c.link_of-next.ensures

pub loop-end-preserved : goal.loop-end-preserved
loop-end-preserved c =
    drop-close c.loop-end.invariant (apart c.ne.ensures c.loop-end-test.true) _ c.link_of-next.ensures
    (is_close _ c.closes.ensures c.if-not-closes.false)

pub returns-clause-frees : goal.returns-clause-frees
returns-clause-frees c = drop_end c.loop-end.invariant (met c.ne.ensures c.loop-end-test.false) _ c.close-end.ensures c.start-at.ensures
