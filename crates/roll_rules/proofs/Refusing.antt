-- What `?` hands on: where the refusal is of the caller's own kind, the same refusal.
use mathlib.Core.Path.{◌≡◌, ap, ◌∙◌}
use Rattle.std.specs.Prelude.{Err, Result}
use Rattle.std.specs.Result.{IsErrAnd}
use Rattle.std.proofs.lemmas.Result.{err_from_is_err_and}

pub refused : {A E : Type 0} {r : Result A E} {e : E} → IsErrAnd r (λ y. y ≡ e) → r ≡ Err e
refused {A} {E} {r} h = let (y, is, same) = err_from_is_err_and r h in is ∙ ap Err same
