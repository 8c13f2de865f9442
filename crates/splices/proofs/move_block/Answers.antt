-- `move_block`: out of its place, and in again.
use Rattle.std.proofs.Common.{sym}
use Rattle.splices.specs.Splices.{moved, put_in}
use Rattle.splices.proofs.Chained.{splice_on}
use Rattle.splices.proofs.move_block.Goals as goal

pub returns : goal.returns
unfolding moved
returns c =
    rw (sym c.close-tail.ensures, sym c.start.ensures)
    (splice_on c.cut.ensures (λ w f. put_in w c.args.after.0 c.start.result.0 c.close-tail.result.0) (λ f. f) c.put_in.ensures)
