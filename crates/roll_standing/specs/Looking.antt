-- What the code keeps of how a job stands: places in the roll, where the definition has the bytes.
use Rattle.std.specs.Prelude.{ℕ, ◌≤◌, List, length}
use Rattle.stored.specs.Spans.{SpanWithin, part}
use Rattle.roll_rules.specs.Rules.{JobStanding, UNFILED, FILED_AT, DONE_AT}
use Rattle.roll_standing.specs.declared.StandingAt.{StandingAt}
use Rattle.roll_standing.specs.declared.StandingAt.TheVariants.{Unfiled, Filed as FiledAt, Done as DoneAt}

abbrev pub standing_told : (bytes : List ℕ) → StandingAt → JobStanding
standing_told bytes Unfiled = UNFILED
standing_told bytes (FiledAt at text) = FILED_AT at (part bytes text)
standing_told bytes (DoneAt at) = DONE_AT at

-- the places stand in the roll
abbrev pub StandingWithin : (bytes : List ℕ) → StandingAt → Type 0
StandingWithin bytes Unfiled = Unit {0}
StandingWithin bytes (FiledAt at text) = (at ≤ length bytes) × SpanWithin bytes text
StandingWithin bytes (DoneAt at) = at ≤ length bytes
