use Rattle.std.proofs.Common.{arith}
use Rattle.words_shelf.proofs.StandsFor.{word_reads}
use Rattle.words_check.proofs.Early.{earliest-last, earliest_on}
use Rattle.words_check.proofs.earliest.Goals as goal

pub least_named-bound-requires : goal.least_named-bound-requires
least_named-bound-requires c = rw c.text_of.ensures (word_reads _ _ c.args.shelf.now.shelved _ (omega (arith, c.loop-rank.invariant.within)))

pub loop-rank-preserved : goal.loop-rank-preserved
loop-rank-preserved c =
    let before = c.before-in-loop-rank.ensures in
    earliest_on _ _ c.loop-rank.invariant c.requires c.text_of.ensures (rw (before.list, before.words, before.below) at c.least_named-bound.ensures)

pub returns : goal.returns
returns c = earliest-last _ _ c.loop-rank.invariant c.loop-rank-test.false
