-- The turns of a run. The definition's run from the first plan is the steps made so far, and then the definition's run from the plan that
-- is held now, with what is left of the quota. No turn looks at a cell's number, so the runs are told without labels.
use Prim.Native.Nat.{ℕ, zero, suc, ◌+◌, ◌-◌, ◌<◌}
use mathlib.Core.Path.{◌≡◌, refl, ap, sym, ◌∙◌, subst}
use mathlib.Core.List.{List}
use native.Mathlib.Omega.{arith}
use native.Mathlib.Numerals.{add-one}
use borrow.Author.Tests.{ltb-false, ltb-true}
use lib.Dec.{ltb}
use Rattle.plan.specs.Plan.{Plan, bare, cells}
use Rattle.rules.specs.Running.{Ran, RAN, one_step_more, run_plan}
use Rattle.rules.specs.declared.Ending.{Ending}
use Rattle.rules.specs.declared.Ending.TheVariants.{Done, Quota, Full}
use Rattle.plan.proofs.Plans.{cells-relabel}
use Rattle.rules.proofs.Runs.{ask-relabel, retell, run_go, run_spent, run_stop}
use Rattle.memory.specs.Held.{SameCells}
use Rattle.memory.specs.declared.HeldPlan.{HeldPlan}
use Rattle.memory.proofs.Steps.{same_at, same_on}
use Rattle.memory.proofs.Steps.{cells_same as still}
use Rattle.engine.specs.Running.{RanAs, Runnable, Sized, TurnMade, Turned}
use Rattle.std.specs.declared.ops.ControlFlow.{ControlFlow}
use Rattle.std.specs.declared.ops.ControlFlow.TheVariants.{Continue, Break}

-- so many steps more
pub plus : {L : Type 0} → (steps : ℕ) → Ran L → Ran L
plus zero r = r
plus (suc k) r = plus k (one_step_more r)

plus_ran : {L : Type 0} (k : ℕ) (e : Ending) (s : ℕ) (p : Plan L) → plus k (RAN e s p) ≡ RAN e (k + s) p
unfolding plus one_step_more
plus_ran zero e s p = ap (λ x. RAN e x p) (omega arith)
plus_ran (suc k) e s p = plus_ran k e (suc s) p ∙ ap (λ x. RAN e x p) (omega arith)

-- where the run stands: the plan held now, and what is left of the quota
pub record Reaches (text : List ℕ) (n quota : ℕ) (t₀ : Plan ℕ) (h : HeldPlan) (size steps : ℕ) : Type 0 where
  pub plan : Plan ℕ
  pub sized : Sized text h size plan
  pub left : ℕ
  pub counts : steps + left ≡ quota
  pub runs : run_plan n quota (bare t₀) ≡ plus steps (run_plan n left (bare plan))

pub record RunSoFar (text : List ℕ) (h₀ : HeldPlan) (size₀ quota : ℕ) (h : HeldPlan) (size steps : ℕ) : Type 0 where
  pub began : Runnable text h₀ size₀
  pub same : SameCells h₀ h
  pub each : (t : Plan ℕ) → Sized text h₀ size₀ t → Reaches text h₀.kept.outer.0 quota t h size steps

pub so_far-first : {text : List ℕ} {h : HeldPlan} {size : ℕ} (quota : ℕ) → Runnable text h size → RunSoFar text h size quota h size 0
unfolding plus
so_far-first quota k =
    record {
      began = k;
      same = same_at;
      each = λ t s. record { plan = t; sized = s; left = quota; counts = omega arith; runs = refl };
    }

module _ {text : List ℕ} {h₀ : HeldPlan} {size₀ quota : ℕ} {h : HeldPlan} {size steps : ℕ} (g : RunSoFar text h₀ size₀ quota h size steps) where
  pub so_far_runnable : Runnable text h size
  so_far_runnable =
      let r = g.each g.began.plan g.began.sized in
      record { plan = r.plan; sized = r.sized }

  cells_same : h.kept.outer.0 ≡ h₀.kept.outer.0
  cells_same = still g.same

  -- the turn stopped the run
  stops : (h' : HeldPlan) (e : Ending) (t₀ : Plan ℕ) (r : Reaches text h₀.kept.outer.0 quota t₀ h size steps) → Turned text h (ltb steps quota) h' (Break e) r.plan
      → (h' ≡ h) × (run_plan h₀.kept.outer.0 r.left (bare r.plan) ≡ RAN e 0 (bare r.plan))
  unfolding retell
  stops h' Done t₀ r (same, asks) =
      (same, run_stop h₀.kept.outer.0 r.left (bare r.plan) (ask-relabel _ h₀.kept.outer.0 r.plan (rw cells_same at asks)))
  stops h' Full t₀ r (same, asks) =
      (same, run_stop h₀.kept.outer.0 r.left (bare r.plan) (ask-relabel _ h₀.kept.outer.0 r.plan (rw cells_same at asks)))
  stops h' Quota t₀ r (same, no_more, (p, asks)) =
      let none_left : r.left ≡ 0 = omega (arith, ltb-false steps quota no_more, r.counts) in
      (same, rw none_left (run_spent h₀.kept.outer.0 (bare r.plan) (ask-relabel _ h₀.kept.outer.0 r.plan (rw cells_same at asks))))

  -- the turn went on: one more step, and one fewer is left
  went : (h' : HeldPlan) (size' : ℕ) (t₀ : Plan ℕ) (r : Reaches text h₀.kept.outer.0 quota t₀ h size steps)
      → Turned text h (ltb steps quota) h' (Continue size') r.plan → Reaches text h₀.kept.outer.0 quota t₀ h' size' (steps + 1)
  unfolding retell plus
  went h' size' t₀ r (is_more, (p, asks, made, sized)) =
      let n = h₀.kept.outer.0 in
      let further = ltb-true steps quota is_more in
      let left' : ℕ = r.left - 1 in
      let one : r.left ≡ suc left' = omega (arith, r.counts) in
      let on : run_plan n (suc left') (bare r.plan) ≡ one_step_more (run_plan n left' (bare p)) =
      run_go n left' (bare r.plan) (ask-relabel _ n r.plan (rw cells_same at asks)) in
      record {
        plan = made.plan;
        sized = record { held = made.held; sized = sized ∙ sym (cells-relabel (λ l. tt) p) ∙ ap cells (sym made.alike) ∙ cells-relabel (λ l. tt) made.plan };
        left = left';
        counts = omega (arith, r.counts);
        runs = r.runs ∙ ap (λ k. plus steps (run_plan n k (bare r.plan))) one ∙ ap (plus steps) (on ∙ ap (λ x. one_step_more (run_plan n left' x)) (sym made.alike))
            ∙ ap (λ k. plus k (run_plan n left' (bare made.plan))) (sym (add-one steps));
      }

  -- the turn as it was made
  module _ (h' : HeldPlan) (turn : ControlFlow Ending ℕ) (turned : TurnMade text h size (ltb steps quota) h' turn) where
    pub so_far_stop : {e : Ending} → turn ≡ Break e → (t : Plan ℕ) → Sized text h₀ size₀ t
        → RanAs text h₀.kept.outer.0 quota t h' (record { ending = e; steps = steps; size = size })
    so_far_stop {e} is t s =
        let r = g.each t s in
        let (same, ended) = stops h' e t r (subst (λ x. Turned text h (ltb steps quota) h' x r.plan) is (turned r.plan r.sized)) in
        record {
          plan = r.plan;
          runs = r.runs ∙ ap (plus steps) ended ∙ plus_ran steps e 0 (bare r.plan) ∙ ap (λ k. RAN e k (bare r.plan)) (omega arith);
          sized = subst (λ x. Sized text x size r.plan) (sym same) r.sized;
        }

    module _ {size' : ℕ} (is : turn ≡ Continue size') where
      turned_on : TurnMade text h size (ltb steps quota) h' (Continue size')
      turned_on t s = subst (λ x. Turned text h (ltb steps quota) h' x t) is (turned t s)

      pub so_far_more : steps < quota
      so_far_more = let r = so_far_runnable in ltb-true steps quota (turned_on r.plan r.sized).0

      pub so_far_less : quota - (steps + 1) < quota - steps
      so_far_less = let more = so_far_more in omega arith

      pub so_far_on : SameCells h h' → RunSoFar text h₀ size₀ quota h' size' (steps + 1)
      so_far_on same =
          record {
            began = g.began;
            same = same_on g.same same;
            each = λ t s. (let r = g.each t s in went h' size' t r (turned_on r.plan r.sized));
          }
