-- Values that may be missing: another in place of a missing one, a function used on one that is there, and whether one is missing.
use Rattle.std.specs.Prelude.{Bool, true, false}
use Rattle.std.specs.Prelude.{Option, None, Some}

infixr 25 ◌else◌
unfoldable pub ◌else◌ : {A : Type 0} → Option A → Option A → Option A
None else y = y
Some x else y = Some x

unfoldable pub under : {A B : Type 0} → (A → B) → Option A → Option B
under f None = None
under f (Some x) = Some (f x)

unfoldable pub is_none : {A : Type 0} → Option A → Bool
is_none None = true
is_none (Some x) = false
