-- `fresh`: the cells passed so far keep each the next, and what is kept beside the numbers is as it was set.
use Rattle.std.proofs.Common.{ℕ, ◌+◌, ◌<◌, ◌≡◌}
use Rattle.memory.specs.Held.{SameCells, held_numbers}
use Rattle.memory.specs.Memory.{start, link}
use Rattle.builder.proofs.fresh.Given as goal

abbrev pub invariant-loop-number : goal.invariant-loop-number
invariant-loop-number l =
    SameCells l.initial.held l.held × (l.held.tail ≡ l.initial.held.tail) × (l.held.opened ≡ l.initial.held.opened)
    × (l.held.kept.free ≡ l.initial.held.kept.free)
    × ((i : ℕ) → i < l.number → link (held_numbers l.held) (start i) ≡ i + 1)
