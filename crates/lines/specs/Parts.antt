-- How many parts a text that is left, if one is, may have at most; and how the fields of a line stand in it.
use Rattle.std.specs.Prelude.{ℕ, ◌≡◌, ◌+◌, ◌++◌, ◌⊎◌, List, [], ◌∷◌, Option, Some, None, length}
use Rattle.std.specs.Borrow.{Bor}

abbrev pub turns : Option (Bor (List ℕ)) → ℕ
turns None = 0
turns (Some text) = length text.now + 1

-- The sign that parts the fields of a line.
abbrev pub bar : List ℕ
bar = 32 ∷ 124 ∷ 32 ∷ []

-- A text is cut at a sign, which stands between the two. One that is not is all before the cut, and nothing stands behind it.
abbrev pub CutAt : List ℕ → List ℕ → List ℕ → List ℕ → Type 0
CutAt sign text before behind = (text ≡ before ++ (sign ++ behind)) ⊎ ((text ≡ before) × (behind ≡ []))

-- The fields stand in the line one behind the other, with the sign between them as far as the line has it.
abbrev pub InOrder : List ℕ → List ℕ → List ℕ → List ℕ → List ℕ → Type 0
InOrder line label second third fourth = (from_second : List ℕ) × CutAt bar line label from_second
    × ((from_third : List ℕ) × CutAt bar from_second second from_third × CutAt bar from_third third fourth)
