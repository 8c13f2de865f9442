-- Job numbers: too short or too long, or told by their digits.
use Prim.Native.Nat.{ℕ, ◌≤◌, ◌<◌}
use mathlib.Core.Path.{◌≡◌, refl, ap, ap₂, sym, ◌∙◌}
use mathlib.Core.Logic.{◌≢◌, ◌⊎◌, inl, inr}
use mathlib.Core.Bool.{Bool, true, false, ◌&&◌, and-false}
use mathlib.Core.List.{List, [], ◌∷◌}
use borrow.Author.Tests.{eqb-false, eqb-true, le-leb, le-ltb, lt-leb, lt-ltb}
use native.Mathlib.Omega.{arith}
use lib.Dec.{eqb, leb, ltb}
use lib.ListN.{length}
use Rattle.std.specs.List.{list_all}
use Rattle.std.specs.Char.{is_ascii_digit}
use Rattle.roll_rules.specs.Rules.{digits, is_job, job_limit}

all-digits : (job : List ℕ) → list_all is_ascii_digit job ≡ digits job
unfolding digits
all-digits [] = refl
all-digits (b ∷ bs) = ap (is_ascii_digit b &&◌) (all-digits bs)

-- by what was asked of it: whether it is empty, whether it is too long, and whether its bytes are digits
module _ (job : List ℕ) {empty : Bool} (told : empty ≡ eqb (length job) 0) where
  pub job_size : (empty ≡ true) ⊎ ((empty ≡ false) × (job_limit < length job)) → false ≡ is_job job
  unfolding is_job
  job_size (inl e) =
      let none : length job ≡ 0 = eqb-true (length job) 0 (sym told ∙ e) in
      sym (ap (λ t. (t && leb (length job) job_limit) && digits job) (le-ltb 0 (length job) (omega (arith, none))))
  job_size (inr (some, long)) = sym (ap (λ t. (ltb 0 (length job) && t) && digits job) (lt-leb (length job) job_limit long) ∙ ap (◌&& digits job) (and-false (ltb 0 (length job))))

  pub job-digits : empty ≡ false → length job ≤ job_limit → list_all is_ascii_digit job ≡ is_job job
  unfolding is_job
  job-digits e few =
      let some : length job ≢ 0 = eqb-false (length job) 0 (sym told ∙ e) in
      all-digits job ∙ sym (ap₂ (λ s t. (s && t) && digits job) (lt-ltb 0 (length job) (omega (arith, some))) (le-leb (length job) job_limit few))
