-- What was told of a text: whether it is a printed one.
use Prim.Native.Nat.{ℕ}
use mathlib.Core.Path.{◌≡◌, refl, ap, sym, ◌∙◌}
use mathlib.Core.Logic.{◌≢◌}
use mathlib.Core.Bool.{Bool, true, false}
use mathlib.Core.List.{List}
use borrow.Author.Tests.{eqb-false, eqb-true}
use lib.Dec.{eqb}
use lib.ListN.{length}
use Rattle.kinds.specs.Limits.{cell_limit, standard}
use Rattle.plan.specs.Plan.{print}
use Rattle.plan.specs.Reading.{OUTSIDE, accept}
use Rattle.plan.specs.declared.Size.{Size}
use Rattle.plan.specs.declared.Unread.{Unread}
use Rattle.std.specs.Prelude.{Err, Ok, Result}
use Rattle.plan.proofs.Acceptable.{AcceptableText, acceptable_plan}
use Rattle.plan.proofs.Faultless.{without_marks-same}
use Rattle.roll_rules.specs.Rules.{is_printed}
use Rattle.roll_rules.proofs.Texts.{printed_by_plan, unacceptable_not-printed}
use Rattle.stored.proofs.Same.{same_false, same_true}
use Rattle.read.specs.Accepted.{acceptance_told}
use Rattle.read.proofs.Accepting.{told_acceptable, told_unacceptable}

module _ (text : List ℕ) where
  module _ {r : Result Size Unread} (told : r ≡ acceptance_told (accept standard cell_limit text)) where
    module _ {s : Size} (is : r ≡ Ok s) where
      known : AcceptableText standard text
      known = acceptable_plan standard text (told_acceptable text (sym is ∙ told)).0

      long : length (print known.plan) ≡ s.length
      long = ap (λ p. length (print p)) (sym known.plan_is) ∙ (told_acceptable text (sym is ∙ told)).1

      printed-whole : s.length ≡ length text → true ≡ is_printed standard text
      printed-whole e =
          let all = without_marks-same OUTSIDE text (ap length (sym known.printed) ∙ long ∙ e) in
          sym (printed_by_plan standard text known.accepted ∙ same_true text (print known.plan) (sym all ∙ sym known.printed))

      printed-not : s.length ≢ length text → false ≡ is_printed standard text
      printed-not h =
          sym (printed_by_plan standard text known.accepted ∙ same_false text (print known.plan) (λ e. h (sym long ∙ ap length (sym e))))

      pub printed_told : eqb s.length (length text) ≡ is_printed standard text
      printed_told = go (eqb s.length (length text)) refl
        where
          go : (t : Bool) → eqb s.length (length text) ≡ t → t ≡ is_printed standard text
          go true h = printed-whole (eqb-true s.length (length text) h)
          go false h = printed-not (eqb-false s.length (length text) h)

    pub printed-refused : {u : Unread} → r ≡ Err u → false ≡ is_printed standard text
    printed-refused e = sym (unacceptable_not-printed standard text (told_unacceptable text (sym e ∙ told)))
