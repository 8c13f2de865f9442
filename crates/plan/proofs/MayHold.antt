-- Whether a token may hold the character of a value, by the value's range: each case of the definition under the tests
-- that the code makes.
use Prim.Native.Nat.{ℕ, ◌≤◌, ◌<◌}
use mathlib.Core.Path.{◌≡◌}
use mathlib.Core.Logic.{◌≢◌}
use mathlib.Core.Bool.{true, false}
use native.Mathlib.Omega.{arith}
use borrow.Author.Tests.{lt-leb, le-leb, lt-ltb, le-ltb, ne_eqb}
use Rattle.plan.specs.Plan.{open_brace, close_brace}
use Rattle.plan.specs.Token.{may_hold}

module _ (v : ℕ) where
  pub opening : v ≡ open_brace → false ≡ may_hold v
  unfolding may_hold
  opening h = rw h

  pub closing : v ≡ close_brace → false ≡ may_hold v
  unfolding may_hold
  closing h = rw h

  pub control : v < 0x20 → false ≡ may_hold v
  unfolding may_hold
  control h = simp (ne_eqb v open_brace (λ z. omega arith), ne_eqb v close_brace (λ z. omega arith), lt-leb _ _ h)

  pub printing : v ≢ open_brace → v ≢ close_brace → 0x20 ≤ v → v < 0x7F → true ≡ may_hold v
  unfolding may_hold
  printing o c l h =
      simp (ne_eqb _ _ o, ne_eqb _ _ c, le-leb _ _ l, lt-ltb _ _ h, ne_eqb v 0xFFFD (λ z. omega arith))

  pub late_control : 0x7F ≤ v → v ≤ 0x9F → false ≡ may_hold v
  unfolding may_hold
  late_control l h =
      simp (
        ne_eqb v open_brace (λ z. omega arith),
        ne_eqb v close_brace (λ z. omega arith),
        le-leb 0x20 v (omega arith),
        le-ltb _ _ l,
        le-ltb _ _ h,
      )

  pub replacement : v ≡ 0xFFFD → false ≡ may_hold v
  unfolding may_hold
  replacement h = rw h

  pub beyond : 0x9F < v → v ≢ 0xFFFD → true ≡ may_hold v
  unfolding may_hold
  beyond l h =
      simp (
        ne_eqb v open_brace (λ z. omega arith),
        ne_eqb v close_brace (λ z. omega arith),
        le-leb 0x20 v (omega arith),
        le-ltb v 0x7F (omega arith),
        lt-ltb _ _ l,
        ne_eqb _ _ h,
      )
