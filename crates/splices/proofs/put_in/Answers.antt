-- `put_in`: the last of the ports is linked on, then the port before them.
use Rattle.std.proofs.Common.{◌+◌, ◌*◌, set, sym}
use Rattle.splices.specs.Splices.{put_in}
use Rattle.splices.proofs.Chained.{splice_on, stored}
use Rattle.splices.proofs.put_in.Goals as goal

pub returns : goal.returns
unfolding put_in
returns c =
    rw (sym c.link_of-to.ensures)
    (splice_on (stored c.set_link.ensures) (λ w f. set w (2 * c.args.after.0 + 1) c.args.head.0) (λ f. f) (stored c.set_link-2.ensures))
