-- For how many more bytes the value of a character has room.
use Rattle.std.specs.Prelude.{ℕ, ◌+◌, ◌*◌, ◌^◌, ◌≤◌}

-- `n` times six more bits fit a u32
abbrev pub Room : (n value : ℕ) → Type 0
Room n value = (value + 1) * 64 ^ n ≤ 4294967296
