-- `earliest`: the loop's invariant is `EarliestSoFar`. The measure is how many words are to come.
use Rattle.std.proofs.Common.{◌-◌}
use Rattle.words_check.proofs.Early.{EarliestSoFar}
use Rattle.words_check.proofs.earliest.Given as goal

abbrev pub invariant-loop-rank : goal.invariant-loop-rank
invariant-loop-rank l = EarliestSoFar l.shelf.list.now l.shelf.words.now l.shelf.below l.bound l.rank

abbrev pub decreases-loop-rank : goal.decreases-loop-rank
decreases-loop-rank l = l.shelf.below - l.rank
