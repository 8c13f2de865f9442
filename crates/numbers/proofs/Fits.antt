-- A printed text that is told is never longer than the output that was lent: a longer one is refused. This holds for
-- every family whose refusals tell no length.
use Prim.Native.Nat.{ℕ, ◌≤◌}
use mathlib.Core.Path.{◌≡◌, refl}
use mathlib.Core.List.{List}
use native.Mathlib.Omega.{arith}
use lib.ListN.{length}
use Rattle.plan.specs.declared.Unread.{Unread}
use Rattle.plan.specs.declared.Unread.TheVariants.{Text, Overfull}
use Rattle.std.specs.Prelude.{Err, Ok, Result}
use Rattle.plan.specs.Outcomes.{Family, GIVES, Outcome, REFUSES, Wrote, write}
use Rattle.plan.proofs.Outcomes.{write_gives}
use Rattle.numbers.specs.declared.Numbers.{Numbers}
use Rattle.numbers.specs.Numbers.{unread_numbers}

module _ {R G T : Type 0} (f : Family R G T) (numbers : Result T R → Numbers) (none : (r : R) → (numbers (Err r)).length ≡ 0)
    (all : (g : G) (cells long : ℕ) → (numbers (Ok (f.given g cells long))).length ≡ long) where
  pub printed-fits : {o : Outcome R G} {out : List ℕ} {r : Result T R} {out' : List ℕ} → Wrote f o out r out' → (numbers r).length ≤ length out
  unfolding write
  printed-fits {o} {out} call = rw call.answer (by_outcome o)
    where
      by_outcome : (o : Outcome R G) → (numbers (write f o out).answer).length ≤ length out
      by_outcome (REFUSES r) = omega (arith, none r)
      by_outcome (GIVES g cells text) =
          write_gives f g cells text out (λ a left. (numbers a).length ≤ length out) (λ short. omega (arith, none (f.out_short (length text))))
          (λ fits. omega (arith, all g cells (length text)))

-- a text that is not read has no length
pub unread_no_length : (u : Unread) → (unread_numbers u).length ≡ 0
unread_no_length (Text f) = refl
unread_no_length (Overfull at) = refl
