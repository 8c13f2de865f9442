-- `unwrap`: the end of the contents is linked on, then their beginning, and the block's cell is free.
use Rattle.std.proofs.Common.{sym}
use Rattle.splices.specs.Splices.{cut, released, unwrapped}
use Rattle.splices.proofs.Chained.{splice_on}
use Rattle.splices.proofs.unwrap.Goals as goal

pub returns : goal.returns
unfolding unwrapped
returns c =
    let linked = splice_on c.cut.ensures (λ w f. cut w c.args.before.0 c.start.result.0) (λ f. f) c.cut-2.ensures in
    rw (sym c.close.ensures, sym c.start.ensures)
    (splice_on linked (λ w f. released w f c.args.block.0) (λ f. c.args.block.0) c.release.ensures)
