-- The sign that the parts of a text are parted by, and how many parts may be left.
use Rattle.std.specs.Prelude.{ℕ, List}
use Rattle.lines.specs.Parts.{turns}
use Rattle.lines.specs.declared.parts.Parts.{Parts}

abbrev pub sign_of : Parts → List ℕ
sign_of parts = parts.sign.now

abbrev pub parts_left : Parts → ℕ
parts_left parts = turns parts.left
