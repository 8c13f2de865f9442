-- `cut`: one link is read and one is stored.
use Rattle.std.proofs.Common.{sym}
use Rattle.splices.specs.Splices.{cut}
use Rattle.splices.proofs.Chained.{stored}
use Rattle.splices.proofs.cut.Goals as goal

pub returns : goal.returns
unfolding cut
returns c = rw (sym c.link_of-to.ensures) (stored c.set_link.ensures)
