-- The entries before a place can be told by the bytes. So where it is known of a front no more than that it has some, they are had.
use Prim.Native.Nat.{ℕ, zero, suc, ◌+◌, ◌≤◌, ◌<◌}
use mathlib.Core.Path.{◌≡◌, refl, ap, sym, subst, ◌∙◌}
use mathlib.Core.List.{List, [], ◌∷◌}
use native.Mathlib.Omega.{arith}
use native.Mathlib.Decide.{dec_lt}
use lib.ListN.{length, drop, length-drop}
use Rattle.std.specs.Prelude.{Option, None, Some}
use Rattle.std.proofs.lemmas.Grind.{not_there}
use Rattle.kinds.specs.Limits.{standard}
use Rattle.kinds.proofs.Tests.{never}
use Rattle.stored.specs.Counted.{AtFront, CUT, FRONT}
use Rattle.roll_format.specs.Format.{Entry, entry, longest}
use Rattle.roll_format.specs.EntriesStand.{EntriesStand}
use Rattle.roll_format.proofs.Format.{entry-there, stands_within}
use Rattle.roll_format.proofs.NextEntry.{stand_once}
use Rattle.roll_rules.specs.Rules.{broken}
use Rattle.roll_rules.specs.EntriesBefore.{HasEntriesBefore}

at_most : {a b : ℕ} → (((a ≤ b) → ⊥) → ⊥) → a ≤ b
at_most {a} {b} h = go (dec_lt b a)
  where
    go : Dec (b < a) → a ≤ b
    go (yes more) = absurd (h (λ le. omega (arith, more, le)))
    go (no less) = omega (arith, less)

module _ (bytes : List ℕ) (upto : ℕ) where
  abbrev Some_stand : (from : ℕ) → Type 0
  Some_stand from = (es : List Entry) × EntriesStand bytes from es upto

  behind_none : (from : ℕ) → upto < from → Some_stand from → ⊥
  behind_none from h (es, s) = omega (arith, h, stands_within bytes from upto es s)

  at_end : (from : ℕ) → upto ≤ from → Dec (Some_stand from)
  at_end from past = go (dec_lt upto from)
    where
      go : Dec (upto < from) → Dec (Some_stand from)
      go (yes h) = no (behind_none from h)
      go (no h) = yes ([], omega (arith, h, past))

  module _ (from : ℕ) (less : from < upto) where
    cut_none : entry (drop from bytes) ≡ CUT → Some_stand from → ⊥
    cut_none c ([], s) = omega (arith, less, s)
    cut_none c (e ∷ es, (p, (next, whole, low, high, more))) = never (let z = sym c ∙ whole in cc)

    later_none : {parts : List (List ℕ)} {next : ℕ} → entry (drop from bytes) ≡ FRONT parts (drop next bytes) → next ≤ length bytes → (Some_stand next → ⊥) → Some_stand from → ⊥
    later_none w h none ([], s) = omega (arith, less, s)
    later_none {parts} {next} w h none (e ∷ es, (p, (next', whole, low, high, more))) =
        let left : drop next' bytes ≡ drop next bytes = cc in
        let same : next' ≡ next = omega (arith, h, high, ap length left, length-drop next bytes, length-drop next' bytes) in
        none (es, subst (λ k. EntriesStand bytes k es upto) same more)

    one_more : (within : from ≤ length bytes) → ((next : ℕ) → from + 4 ≤ next → next ≤ length bytes → Dec (Some_stand next)) → Dec (Some_stand from)
    one_more within later = by (entry (drop from bytes)) refl
      where
        on : {parts : List (List ℕ)} {next : ℕ} → entry (drop from bytes) ≡ FRONT parts (drop next bytes) → from + 4 ≤ next → next ≤ length bytes → Dec (Some_stand next) → Dec (Some_stand from)
        on {parts} {next} w low high (yes (es, s)) = yes (record { place = from; parts = parts } ∷ es, (refl, (next, w, low, high, s)))
        on w low high (no none) = no (later_none w high none)

        by : (x : AtFront (List (List ℕ))) → entry (drop from bytes) ≡ x → Dec (Some_stand from)
        by CUT is = no (cut_none is)
        by (FRONT parts rest) is =
            let (next, there, low, high) = entry-there bytes from within is in
            on (is ∙ ap (FRONT parts) there) low high (later next low high)

  some_stand : (left from : ℕ) → upto ≤ from + left → from ≤ length bytes → Dec (Some_stand from)
  some_stand zero from end within = at_end from (omega (arith, end))
  some_stand (suc left) from end within = go (dec_lt from upto) (λ next low high. some_stand left next (omega (arith, end, low)) high)
    where
      go : Dec (from < upto) → ((next : ℕ) → from + 4 ≤ next → next ≤ length bytes → Dec (Some_stand next)) → Dec (Some_stand from)
      go (no past) later = at_end from (omega (arith, past))
      go (yes less) later = one_more from less within later

-- the entries of a front
pub front_entries : (bytes : List ℕ) (upto : ℕ) → ∥ HasEntriesBefore bytes upto ∥₁ → HasEntriesBefore bytes upto
unfolding broken
front_entries bytes upto front = go (dec_lt 0 upto)
  where
    short : length bytes ≤ longest
    short = at_most (λ not. not_there front (λ b. not b.before.short))

    within : upto ≤ length bytes
    within = at_most (λ not. not_there front (λ b. not b.before.within))

    obey : 0 < upto → (es : List Entry) → EntriesStand bytes 1 es upto → (x : Option ℕ) → broken standard [] es ≡ x → broken standard [] es ≡ None
    obey h es s None e = e
    obey h es s (Some k) e =
        absurd (not_there front (λ b.
        let same = stand_once bytes 1 upto b.es es (b.before.stand h) s in
        let none = sym e ∙ ap (broken standard []) (sym same) ∙ b.before.obeyed in
        never cc))

    by : 0 < upto → Dec (Some_stand bytes upto 1) → HasEntriesBefore bytes upto
    by h (yes (es, s)) =
        record {
          es = es;
          before = record { short = short; within = within; none_there = λ z. absurd (omega (arith, h, z)); stand = λ _. s; obeyed = obey h es s (broken standard [] es) refl };
        }
    by h (no none) = absurd (not_there front (λ b. none (b.es, b.before.stand h)))

    go : Dec (0 < upto) → HasEntriesBefore bytes upto
    go (yes h) = by h (some_stand bytes upto upto 1 (omega arith) (omega (arith, h, within)))
    go (no h) =
        record {
          es = [];
          before = record { short = short; within = within; none_there = λ _. refl; stand = λ more. absurd (h more); obeyed = refl };
        }
