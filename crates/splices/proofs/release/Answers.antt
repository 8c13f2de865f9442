-- `release`: the cell's start keeps the cell that was free first.
use Rattle.std.proofs.Common.{refl, sym}
use Rattle.splices.specs.Splices.{released}
use Rattle.splices.proofs.Chained.{stored}
use Rattle.splices.proofs.release.Goals as goal

pub returns : goal.returns
unfolding released
returns c =
    let kept = stored c.keep_cell.ensures in
    rw (sym c.start.ensures)
    (record { numbers = kept.numbers; free = refl; same = record { outer = kept.same.outer; lent = kept.same.lent; aside = kept.same.aside } })
