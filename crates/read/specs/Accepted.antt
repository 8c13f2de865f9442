-- What the code says of a text that is accepted, or not read.
use Rattle.std.specs.Prelude.{length, Result, Ok, Err}
use Rattle.plan.specs.declared.Size.{Size}
use Rattle.plan.specs.declared.Unread.{Unread}
use Rattle.plan.specs.Plan.{cells, print}
use Rattle.plan.specs.Read.{sized}
use Rattle.plan.specs.Reading.{ACCEPTED, Acceptance, UNREAD}

unfoldable pub acceptance_told : Acceptance → Result Size Unread
acceptance_told (ACCEPTED p) = Ok (sized (cells p) (length (print p)))
acceptance_told (UNREAD u) = Err u
