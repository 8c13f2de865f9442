-- What READ answers and what it leaves, for every input. READ is CHECK and TIDY of document 01: request 4 of document 02 makes
-- them one. And which texts are acceptable.
use Rattle.std.specs.Prelude.{ℕ, Bool, List, Result}
use Rattle.kinds.specs.Limits.{Limits}
use Rattle.plan.specs.declared.ReadRefusal.{ReadRefusal}
use Rattle.plan.specs.declared.ReadRefusal.TheVariants.{NotRead, OutShort}
use Rattle.plan.specs.declared.Size.{Size}
use Rattle.plan.specs.Outcomes.{Family, GIVES, Outcome, REFUSES, is_given}
use Rattle.plan.specs.Plan.{cells, print}
use Rattle.plan.specs.Reading.{ACCEPTED, Acceptance, UNREAD, accept}

-- What READ answers. A refusal carries no cells and no length: it has none.
abbrev pub ReadAnswer : Type 0
ReadAnswer = Result Size ReadRefusal

abbrev pub sized : (cells length : ℕ) → Size
sized cells length = record { cells = cells; length = length }

abbrev pub read_family : Family ReadRefusal (Unit {0}) Size
read_family = record { out_short = OutShort; given = λ u cells length. sized cells length }

unfoldable pub as_read : Acceptance → Outcome ReadRefusal (Unit {0})
as_read (UNREAD u) = REFUSES (NotRead u)
as_read (ACCEPTED p) = GIVES tt (cells p) (print p)

-- READ before its output is looked at. No memory is lent to it, so its plans may have as many cells as any
unfoldable pub read_outcome : Limits → List ℕ → Outcome ReadRefusal (Unit {0})
read_outcome lim text = as_read (accept lim lim.cells text)

-- a text is acceptable when nothing but OUTSHORT could refuse it
unfoldable pub acceptable : Limits → List ℕ → Bool
acceptable lim text = is_given (read_outcome lim text)
