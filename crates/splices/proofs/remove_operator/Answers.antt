-- `remove_operator`: out of the chain, and free.
use Rattle.std.proofs.Common.{sym}
use Rattle.splices.specs.Splices.{released}
use Rattle.splices.proofs.Chained.{splice_on}
use Rattle.splices.proofs.remove_operator.Goals as goal

pub returns : goal.returns
returns c =
    rw (sym c.close.ensures, sym c.start.ensures)
    (splice_on c.cut.ensures (λ w f. released w f c.args.operator.0) (λ f. c.args.operator.0) c.release.ensures)
