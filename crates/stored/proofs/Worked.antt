-- What is stored, by computing: bytes behind their count, once and twice. Whoever computes what is stored elsewhere writes `unfolding storing`,
-- which opens every word named here.
use mathlib.Core.Path.{◌≡◌, refl}
use mathlib.Core.Bool.{true}
use mathlib.Core.List.{[], ◌∷◌, ◌++◌}
use Rattle.stored.specs.Counted.{FRONT, counted, four_bytes, number, so_many, then_read, two_counted, with_count}
use Rattle.stored.specs.Same.{same}

unfoldable pub storing : (counted (with_count (7 ∷ 8 ∷ []) ++ 9 ∷ []) ≡ FRONT (7 ∷ 8 ∷ []) (9 ∷ []))
    × (two_counted same (with_count (7 ∷ []) ++ with_count (7 ∷ [])) ≡ FRONT true [])
unfolding counted two_counted number so_many then_read with_count four_bytes same
storing = (refl, refl)
