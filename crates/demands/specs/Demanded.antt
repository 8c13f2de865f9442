-- Demand 2 as one statement about an ending number, steps and a printed text, whoever gives them. So "no second answer" can be said of the
-- request's own sentences, and not only of the contract.
use Rattle.std.specs.Prelude.{ℕ, ◌≤◌, ◌≡◌, ◌↔◌, List}
use Rattle.plan.specs.Plan.{cells, print}
use Rattle.demands.specs.Terms.{Bare, DONE, FULL, NextFits, NextHasMoreThan, NoRuleApplies, QUOTA, Rewritten}

pub record AsDemanded (n quota : ℕ) (text : List ℕ) (number steps : ℕ) (printed : List ℕ) : Type 0 where
  pub its_plan : Bare
  pub rewrites_made : Rewritten n text steps its_plan
  pub had_room : (k : ℕ) (q : Bare) → k ≤ steps → Rewritten n text k q → cells q ≤ n
  pub within_quota : steps ≤ quota
  pub done : (number ≡ DONE) ↔ NoRuleApplies its_plan
  pub full : (number ≡ FULL) ↔ NextHasMoreThan n its_plan
  pub quota_ended : (number ≡ QUOTA) ↔ NextFits n its_plan
  pub quota_used : number ≡ QUOTA → steps ≡ quota
  pub prints : printed ≡ print its_plan
