-- The bytes in use of a buffer, and what was weighed of them.
use Prim.Native.Nat.{ℕ, ◌≤◌, ◌<◌, min}
use mathlib.Core.Path.{◌≡◌, refl, ap, sym, ◌∙◌}
use mathlib.Core.Logic.{inl, inr}
use mathlib.Core.List.{List}
use native.Mathlib.Omega.{arith}
use native.Mathlib.Decide.{dec_lt}
use borrow.Author.Tests.{le-ltb, lt-ltb}
use lib.ListN.{length, take, length-take}
use lib.Seq.{take_all}
use Rattle.std.specs.Prelude.{Ok, Err}
use Rattle.roll_rules.specs.Answers.{edition_1, in_use, judged}
use Rattle.roll_format.specs.Format.{longest}
use Rattle.roll_rules.specs.declared.RollRefusal.TheVariants.{TooLong}
use Rattle.roll_add.specs.Entering.{Admission, JudgedWeighed, RollWeighed}

-- a longer use counts as all of the buffer
taken : (buffer : List ℕ) (used end : ℕ) → end ≡ min used (length buffer) → take (end) buffer ≡ take used buffer
taken buffer used end e = go (dec_lt used (length buffer))
  where
    go : Dec (used < length buffer) → take (end) buffer ≡ take used buffer
    go (yes h) = let so_many : end ≡ used = omega (arith, e) in ap (λ k. take k buffer) so_many
    go (no h) =
        let all : end ≡ length buffer = omega (arith, e) in
        ap (λ k. take k buffer) all ∙ take_all (length buffer) buffer (omega arith) ∙ sym (take_all used buffer (omega arith))

module _ (buffer : List ℕ) (used : ℕ) (parts : List (List ℕ)) where
  pub use_too_long : longest < length buffer → JudgedWeighed (in_use edition_1 buffer used) parts (length buffer) (Err TooLong)
  unfolding in_use
  use_too_long h = inl (rw (lt-ltb longest (length buffer) h) refl)

  module _ (short : length buffer ≤ longest) {end : ℕ} (e : end ≡ min used (length buffer)) where
    same : judged edition_1 (take (end) buffer) ≡ in_use edition_1 buffer used
    unfolding in_use
    same = rw (le-ltb longest (length buffer) short) (ap (judged edition_1) (taken buffer used end e))

    shorter : length (take (end) buffer) ≤ length buffer
    shorter = omega (arith, length-take (end) buffer)

    pub use_weighed : (r : Admission) → RollWeighed (take (end) buffer) parts r → JudgedWeighed (in_use edition_1 buffer used) parts (length buffer) r
    use_weighed (Err q) (inl h) = inl (sym same ∙ h)
    use_weighed (Err q) (inr (es, last, reads, h)) = inr (es, last, sym same ∙ reads, h)
    use_weighed (Ok a) w =
        record {
          es = w.es;
          reads = sym same ∙ w.reads;
          comes = w.comes;
          within = omega (arith, w.within, shorter);
          few = w.few;
          short = short;
          fine = w.fine;
          filed_so = w.filed_so;
          done_so = w.done_so;
        }
