-- `place_of`: a word of no cells prints nothing.
use Rattle.std.proofs.Common.{sym, arith}
use Rattle.words_write.proofs.WordWritten.{nothing_printed}
use Rattle.words_write.proofs.place_of.Goals as goal

pub returns-in-Some : goal.returns-in-Some
returns-in-Some c = λ list words out put known placed. (omega arith, sym (nothing_printed _ (known _ _ c.in-Some.is) (omega arith)))
