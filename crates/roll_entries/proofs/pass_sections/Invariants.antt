-- `pass_sections`: the loop's invariant is `SectionsSoFar`, by how many sections are left.
use Rattle.std.proofs.Common.{◌-◌}
use Rattle.roll_entries.proofs.Told.{SectionsSoFar}
use Rattle.roll_entries.proofs.pass_sections.Given as goal

abbrev pub invariant-loop : goal.invariant-loop
invariant-loop l = SectionsSoFar l.roll l.from l.count l.at (l.count - l.counter)
