-- `shelve`: the loop's invariant is `ShelvedIn`, of as many places as were lent.
use Rattle.std.proofs.Common.{length}
use Rattle.words_check.proofs.Shelving.{ShelvedIn}
use Rattle.words_check.proofs.shelve.Given as goal

abbrev pub invariant-loop-rank : goal.invariant-loop-rank
invariant-loop-rank l = ShelvedIn (length l.initial.words) l.list l.words l.count l.rank l.at
