use Rattle.std.proofs.Common.{refl, arith}
use Rattle.words_check.proofs.Shelving.{shelve_first, shelve_last, shelve_on, shelve_stop}
use Rattle.words_check.proofs.shelve.Goals as goal

pub loop-rank-init : goal.loop-rank-init
loop-rank-init c = shelve_first _ _ _ refl c.requires.counted

pub returns-in_default-clause-told : goal.returns-in_default-clause-told
returns-in_default-clause-told c = shelve_stop c.loop-rank.invariant c.loop-rank-test.true c.in_default.ensures

pub loop-rank-preserved : goal.loop-rank-preserved
loop-rank-preserved c =
    shelve_on c.loop-rank.invariant c.loop-rank-test.true (omega (arith, c.requires.few, c.requires.room)) c.in-Some.ensures c.end-at.ensures

pub returns-clause-told : goal.returns-clause-told
returns-clause-told c = shelve_last c.loop-rank.invariant c.loop-rank-test.false c.loop-rank.auto.rank-end
