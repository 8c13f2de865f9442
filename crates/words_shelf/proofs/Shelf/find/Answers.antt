-- `find`: the words passed have another name.
use Rattle.std.proofs.Common.{sym, ◌∙◌, arith}
use Rattle.std.proofs.lemmas.Bool.Decides.{Decides-eqb}
use Rattle.std.proofs.lemmas.Slice.Eq.{slice_eq-Decides}
use Rattle.kinds.proofs.Tests.{false_is_not_true}
use Rattle.words_shelf.proofs.Seeking.{seek-here, seek_none, seek_on}
use Rattle.words_shelf.proofs.Shelf.find.Goals as goal

pub returns-then-eq : goal.returns-then-eq
returns-then-eq c =
    seek-here _ _ _ (omega arith) c.name_of.ensures ((slice_eq-Decides Decides-eqb _ _ _ c.eq.ensures).0 c.if-eq.true) ∙ sym c.loop-rank.invariant

pub loop-rank-preserved : goal.loop-rank-preserved
loop-rank-preserved c =
    c.loop-rank.invariant
    ∙ seek_on _ _ _ (omega arith) c.name_of.ensures (λ is. false_is_not_true (sym c.if-eq.false ∙ (slice_eq-Decides Decides-eqb _ _ _ c.eq.ensures).1 is))

pub returns : goal.returns
returns c = seek_none _ _ _ c.loop-rank-test.false ∙ sym c.loop-rank.invariant
