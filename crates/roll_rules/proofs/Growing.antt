-- Laws of counting: a count below the largest number grows by one where it counts, and so do the sums of a roll with one entry more.
use Prim.Native.Nat.{ℕ, suc, ◌+◌, ◌≤◌, ◌<◌, min}
use mathlib.Core.Path.{◌≡◌, refl, ap, ap₂, ◌∙◌}
use mathlib.Core.Bool.{Bool, true, false, cond}
use mathlib.Core.List.{List, [], ◌∷◌}
use native.Mathlib.Omega.{arith}
use lib.ListN.{length}
use mir.Val.{bool_byte}
use Rattle.stored.specs.Counted.{largest}
use Rattle.roll_rules.specs.Answers.{grown, sums}
use Rattle.roll_format.specs.Format.{Entry, says}
use Rattle.roll_rules.specs.Rules.{counts_done, counts_filed, done, filed}
use Rattle.roll_rules.specs.declared.Sums.{Sums}
use Rattle.roll_rules.specs.EntriesBefore.{one_entry_more}

-- as the code adds: one or nothing, and no further than the largest number
pub grown_capped : (more : Bool) (n : ℕ) {added r : ℕ} → n ≤ largest → added ≡ bool_byte more → r ≡ min (n + added) largest → r ≡ grown more n
unfolding grown
grown_capped true n few e f = f ∙ ap (λ k. min (n + k) largest) e
grown_capped false n few e f = omega (arith, few, e, f)

grown_below : (more : Bool) (n : ℕ) → n < largest → grown more n ≡ cond more (suc n) n
unfolding grown
grown_below true n h = let e : min (n + 1) largest ≡ suc n = omega arith in e
grown_below false n h = refl

at_most_one_more : (t : Bool) (n k : ℕ) → n ≤ k → cond t (suc n) n ≤ suc k
at_most_one_more true n k h = omega arith
at_most_one_more false n k h = omega arith

-- no more jobs than entries
filed_at_most : (earlier : List Entry) → filed earlier ≤ length earlier
unfolding filed
filed_at_most [] = omega arith
filed_at_most (e ∷ earlier) = at_most_one_more (counts_filed earlier (says e.parts)) (filed earlier) (length earlier) (filed_at_most earlier)

done_at_most : (earlier : List Entry) → done earlier ≤ length earlier
unfolding done
done_at_most [] = omega arith
done_at_most (e ∷ earlier) = at_most_one_more (counts_done (says e.parts)) (done earlier) (length earlier) (done_at_most earlier)

-- the code's sum is what the entries come to
pub sums_on : (earlier : List Entry) (e : Entry) (upto end : ℕ) → length earlier < largest
    → one_entry_more (sums earlier upto) (counts_filed earlier (says e.parts)) (counts_done (says e.parts)) end ≡ sums (e ∷ earlier) end
unfolding filed done
sums_on earlier e upto end few =
    let many : length earlier + 1 ≡ suc (length earlier) = omega arith in
    ap (λ k. record { entries = k; filed = grown (counts_filed earlier (says e.parts)) (filed earlier); done = grown (counts_done (says e.parts)) (done earlier); end = end }) many
    ∙ ap₂ (λ f d. record { entries = suc (length earlier); filed = f; done = d; end = end })
    (grown_below (counts_filed earlier (says e.parts)) (filed earlier) (omega (arith, filed_at_most earlier)))
    (grown_below (counts_done (says e.parts)) (done earlier) (omega (arith, done_at_most earlier)))

-- by what was counted, field by field
pub counted_more : (s : Sums) (more_filed more_done : Bool) (end : ℕ) {f d : ℕ} → f ≡ grown more_filed s.filed → d ≡ grown more_done s.done
    → record { entries = s.entries + 1; filed = f; done = d; end = end } ≡ one_entry_more s more_filed more_done end
counted_more s more_filed more_done end a b = ap₂ (λ f d. record { entries = s.entries + 1; filed = f; done = d; end = end }) a b
