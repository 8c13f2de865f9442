-- Laws of the texts that a roll may hold, by what is known of an acceptable text.
use Prim.Native.Nat.{ℕ}
use mathlib.Core.Path.{◌≡◌, ap, sym, ◌∙◌}
use mathlib.Core.Bool.{Bool, true, false, ◌&&◌}
use mathlib.Core.List.{List}
use Rattle.plan.specs.Plan.{Plan, print}
use Rattle.plan.specs.Reading.{ACCEPTED, accept, plan_of}
use Rattle.rules.specs.Rewriting.{finished}
use Rattle.kinds.specs.Limits.{Limits}
use Rattle.plan.specs.Read.{acceptable}
use Rattle.plan.proofs.Acceptable.{AcceptableText, acceptable_plan, accepted_acceptable, accepted_plan}
use Rattle.kinds.proofs.Tests.{and_true}
use Rattle.stored.specs.Same.{same}
use Rattle.stored.proofs.Same.{same_equal}
use Rattle.roll_rules.specs.Rules.{is_finished, is_printed}

module _ (lim : Limits) (text : List ℕ) where
  -- a text that is not acceptable is not printed
  module _ (h : acceptable lim text ≡ false) where
    pub unacceptable_not-printed : is_printed lim text ≡ false
    unfolding is_printed
    unacceptable_not-printed = ap (◌&& same text (print (plan_of lim.token text))) h

  -- one that is accepted is printed when it is the printed text of what it reads as, and finished when that plan is
  module _ {p : Plan ℕ} (h : accept lim lim.cells text ≡ ACCEPTED p) where
    both : (f : Plan ℕ → Bool) → (acceptable lim text && f (plan_of lim.token text)) ≡ f p
    both f = ap (◌&& f (plan_of lim.token text)) (accepted_acceptable lim text h) ∙ ap f (accepted_plan lim text h)

    pub printed_by_plan : is_printed lim text ≡ same text (print p)
    unfolding is_printed
    printed_by_plan = both (λ q. same text (print q))

    pub finished_by_plan : is_finished lim text ≡ finished p
    unfolding is_finished
    finished_by_plan = both finished

  -- what a printed text has, and a finished one
  pub printed-text : is_printed lim text ≡ true → (a : AcceptableText lim text) × (text ≡ print a.plan)
  unfolding is_printed
  printed-text e =
      let (good, is) = and_true (acceptable lim text) (same text (print (plan_of lim.token text))) e in
      let a = acceptable_plan lim text good in
      (a, same_equal text (print (plan_of lim.token text)) is ∙ ap print a.plan_is)

  pub finished-text : is_finished lim text ≡ true → (a : AcceptableText lim text) × (finished a.plan ≡ true)
  unfolding is_finished
  finished-text e =
      let (good, is) = and_true (acceptable lim text) (finished (plan_of lim.token text)) e in
      let a = acceptable_plan lim text good in
      (a, sym (ap finished a.plan_is) ∙ is)
