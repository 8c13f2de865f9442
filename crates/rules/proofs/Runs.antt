-- Laws of a run: where it leads, why it ends, and what a larger quota, more cells, other labels or other token texts change.
use Prim.Native.Nat.{ℕ, zero, suc, ◌+◌, ◌≤◌, ◌<◌}
use mathlib.Core.Path.{◌≡◌, refl, sym, ◌∙◌, ap, subst}
use mathlib.Core.Bool.{Bool, true, false, cond}
use mathlib.Core.Logic.{◌↔◌}
use Rattle.std.specs.Prelude.{Option, None, Some}
use mathlib.Core.List.{List}
use native.Mathlib.Nat.{zero-add, suc-add}
use native.Mathlib.Omega.{arith}
use lib.Dec.{leb}
use borrow.Author.Tests.{leb-true, leb-false, le-leb, lt-leb}
use Rattle.rules.specs.declared.Ending.{Ending}
use Rattle.rules.specs.declared.Ending.TheVariants.{Done, Quota, Full}
use Rattle.plan.specs.Plan.{Plan, cells, relabel, renamed, WithoutC}
use Rattle.plan.specs.Token.{Allowed}
use Rattle.plan.specs.Options.{under}
use Rattle.rules.specs.Rewriting.{◌⟶◌, next}
use Rattle.rules.specs.Running.{Asked, ENDS, GOES_ON, ask, Ran, RAN, turn, one_step_more, run_plan, Leads}
use Rattle.plan.proofs.Plans.{cells-relabel, cells-changed}
use Rattle.kinds.proofs.Tests.{never}
use Rattle.rules.proofs.Rewrites.{next_step, next-relabel, next-renamed, step_allowed, step_without_c, step_smaller}

-- the ending of a run that makes no more steps, by what its last turn answered
unfoldable pub ending : {L : Type 0} → Asked L → Ending
ending (ENDS e) = e
ending (GOES_ON q) = Quota

-- when a run that leads to q has that ending
abbrev pub Stops : {L : Type 0} → (n : ℕ) → Ending → Plan L → Type 0
Stops n Done q = next q ≡ None
Stops {L} n Quota q = (r : Plan L) × (next q ≡ Some r) × (cells r ≤ n)
Stops {L} n Full q = (r : Plan L) × (next q ≡ Some r) × (n < cells r)

-- a run, turn by turn
pub data Run {L : Type 0} (n : ℕ) : (quota : ℕ) → Plan L → Ending → (steps : ℕ) → Plan L → Type 0 where
  stop : {quota : ℕ} {p : Plan L} {e : Ending} → ask n (next p) ≡ ENDS e → Run n quota p e 0 p
  spent : {p r : Plan L} → ask n (next p) ≡ GOES_ON r → Run n 0 p Quota 0 p
  go : {quota : ℕ} {p r q : Plan L} {e : Ending} {steps : ℕ} → ask n (next p) ≡ GOES_ON r → Run n quota r e steps q →
      Run n (suc quota) p e (suc steps) q

-- what holds of a run's three parts
abbrev Of : {L : Type 0} → (Ending → ℕ → Plan L → Type 0) → Ran L → Type 0
Of P (RAN e steps q) = P e steps q

-- what a turn's answer tells of the plan that was asked about
module _ {L : Type 0} (n : ℕ) where
  pub ask_go : (x : Option (Plan L)) (r : Plan L) → (ask n x ≡ GOES_ON r) ↔ ((x ≡ Some r) × (cells r ≤ n))
  unfolding ask
  ask_go x r = (by_next x, λ h. rw (h.0, le-leb (cells r) n h.1))
    where
      by_test : (q : Plan L) (b : Bool) → leb (cells q) n ≡ b → cond b (GOES_ON q) (ENDS Full) ≡ GOES_ON r →
          (Some q ≡ Some r) × (cells r ≤ n)
      by_test q true t h = let same : q ≡ r = cc in (ap Some same, rw same at (leb-true (cells q) n t))
      by_test q false t h = never cc

      by_next : (y : Option (Plan L)) → ask n y ≡ GOES_ON r → (y ≡ Some r) × (cells r ≤ n)
      by_next None h = never cc
      by_next (Some q) h = by_test q (leb (cells q) n) refl h

  asked : (q : Plan L) → Stops n (ending (ask n (next q))) q
  unfolding ask ending
  asked q = by_next (next q) refl
    where
      by_test : (r : Plan L) → next q ≡ Some r → (b : Bool) → leb (cells r) n ≡ b →
          Stops n (ending (cond b (GOES_ON r) (ENDS Full))) q
      by_test r h true t = (r, h, leb-true (cells r) n t)
      by_test r h false t = (r, h, leb-false (cells r) n t)

      by_next : (x : Option (Plan L)) → next q ≡ x → Stops n (ending (ask n x)) q
      by_next None h = h
      by_next (Some r) h = by_test r h (leb (cells r) n) refl

  -- Each ending has one cause, and no two have the same: so the cause is known from the ending too.
  pub ending_stops : (q : Plan L) (e : Ending) → ending (ask n (next q)) ≡ e → Stops n e q
  ending_stops q e h = subst (λ d. Stops n d q) h (asked q)

  pub stops_ending : (q : Plan L) (e : Ending) → Stops n e q → ending (ask n (next q)) ≡ e
  unfolding ask ending
  stops_ending q Done h = rw h
  stops_ending q Quota h = rw (h.1, le-leb (cells h.0) n h.2)
  stops_ending q Full h = rw (h.1, lt-leb (cells h.0) n h.2)

  -- a turn that goes on is not one that stops the run
  stop_not_quota : (p : Plan L) → ask n (next p) ≡ ENDS Quota → ⊥
  unfolding ending
  stop_not_quota p h =
      let more = ending_stops p Quota (ap ending h) in
      let goes = (ask_go (next p) more.0).1 (more.1, more.2) in
      never cc

-- the clauses of `run_plan`, by turns
module _ {L : Type 0} (n : ℕ) where
  pub run_stop : (quota : ℕ) (p : Plan L) {e : Ending} → ask n (next p) ≡ ENDS e → run_plan n quota p ≡ RAN e 0 p
  unfolding run_plan turn
  run_stop zero p h = rw h
  run_stop (suc quota) p h = rw h

  pub run_spent : (p : Plan L) {r : Plan L} → ask n (next p) ≡ GOES_ON r → run_plan n 0 p ≡ RAN Quota 0 p
  unfolding run_plan turn
  run_spent p h = rw h

  pub run_go : (quota : ℕ) (p : Plan L) {r : Plan L} → ask n (next p) ≡ GOES_ON r →
      run_plan n (suc quota) p ≡ one_step_more (run_plan n quota r)
  unfolding run_plan turn
  run_go quota p h = rw h

  runs : (quota : ℕ) (p : Plan L) → Of (Run n quota p) (run_plan n quota p)
  unfolding run_plan turn one_step_more
  runs zero p = by_turn (ask n (next p)) refl
    where
      by_turn : (t : Asked L) → ask n (next p) ≡ t → Of (Run n 0 p) (turn t p (λ q. RAN Quota 0 p))
      by_turn (ENDS e) h = stop h
      by_turn (GOES_ON r) h = spent h
  runs (suc quota) p = by_turn (runs quota) (ask n (next p)) refl
    where
      longer : {r : Plan L} → ask n (next p) ≡ GOES_ON r → (x : Ran L) → Of (Run n quota r) x →
          Of (Run n (suc quota) p) (one_step_more x)
      longer h (RAN e steps q) ran = go h ran

      by_turn : ((r : Plan L) → Of (Run n quota r) (run_plan n quota r)) → (t : Asked L) → ask n (next p) ≡ t →
          Of (Run n (suc quota) p) (turn t p (λ r. one_step_more (run_plan n quota r)))
      by_turn after (ENDS e) h = stop h
      by_turn after (GOES_ON r) h = longer h (run_plan n quota r) (after r)

  -- `run_plan` says what a run is: so a law of every run goes by the run's turns.
  pub ran_run : (quota : ℕ) (p : Plan L) {e : Ending} {steps : ℕ} {q : Plan L} → run_plan n quota p ≡ RAN e steps q →
      Run n quota p e steps q
  ran_run quota p h = rw h at (runs quota p)

  pub run_ran : {quota steps : ℕ} {p q : Plan L} {e : Ending} → Run n quota p e steps q →
      run_plan n quota p ≡ RAN e steps q
  unfolding one_step_more
  run_ran (stop {quota} {p} h) = run_stop quota p h
  run_ran (spent {p} h) = run_spent p h
  run_ran (go {quota} {p} h ran) = run_go quota p h ∙ ap one_step_more (run_ran ran)

-- what so many rewrites keep, and what they make smaller
module _ {L : Type 0} where
  pub leads_keeps : (P : Plan L → Type 0) → ((p q : Plan L) → p ⟶ q → P p → P q) → (steps : ℕ) (p q : Plan L) →
      Leads steps p q → P p → P q
  leads_keeps P keeps zero p q h k = subst P h k
  leads_keeps P keeps (suc steps) p q h k =
      leads_keeps P keeps steps h.0 q h.2 (keeps p h.0 (next_step p h.1) k)

  pub leads_smaller : (steps : ℕ) (p q : Plan L) → Leads steps p q → WithoutC p → cells q + steps ≤ cells p
  leads_smaller zero p q h k = rw h (omega arith)
  leads_smaller (suc steps) p q h k =
      let step = next_step p h.1 in
      omega (arith, step_smaller step k, leads_smaller steps h.0 q h.2 (step_without_c step k))

-- the laws, by the turns of a run
module _ {L : Type 0} {n : ℕ} where
  leads : {quota steps : ℕ} {p q : Plan L} {e : Ending} → Run n quota p e steps q → Leads steps p q
  leads (stop h) = refl
  leads (spent h) = refl
  leads (go {p} {r} h ran) = (r, ((ask_go n (next p) r).0 h).0, leads ran)

  within_quota : {quota steps : ℕ} {p q : Plan L} {e : Ending} → Run n quota p e steps q → steps ≤ quota
  within_quota (stop h) = omega arith
  within_quota (spent h) = omega arith
  within_quota (go h ran) = omega (arith, within_quota ran)

  asks_last : {quota steps : ℕ} {p q : Plan L} {e : Ending} → Run n quota p e steps q → ending (ask n (next q)) ≡ e
  unfolding ending
  asks_last (stop h) = rw h
  asks_last (spent h) = rw h
  asks_last (go h ran) = asks_last ran

  spends : {quota steps : ℕ} {p q : Plan L} {e : Ending} → Run n quota p e steps q → e ≡ Quota → steps ≡ quota
  spends (stop {p} h) k = absurd (stop_not_quota n p (rw k at h))
  spends (spent h) k = refl
  spends (go h ran) k = ap suc (spends ran k)

  fits : {quota steps : ℕ} {p q : Plan L} {e : Ending} → Run n quota p e steps q → cells p ≤ n → cells q ≤ n
  fits (stop h) k = k
  fits (spent h) k = k
  fits (go {p} {r} h ran) k = fits ran ((ask_go n (next p) r).0 h).1

  larger : {quota steps : ℕ} {p q : Plan L} {e : Ending} (m more : ℕ) → Run n quota p e steps q → e ≡ Done → n ≤ m →
      steps ≤ more → Run m more p e steps q
  unfolding ask ending
  larger m more (stop {p} h) done room time =
      let none_ready = ending_stops n p Done (ap ending h ∙ done) in
      stop (ap (ask m) none_ready ∙ ap ENDS (sym done))
  larger m more (spent h) done room time = never cc
  larger m zero (go h ran) done room time = absurd (omega arith)
  larger m (suc more) (go {p} {r} h ran) done room time =
      let fit = (ask_go n (next p) r).0 h in
      go ((ask_go m (next p) r).1 (fit.0, omega (arith, fit.1))) (larger m more ran done room (omega arith))

  joins : {j steps steps' : ℕ} {p q q' : Plan L} {e e' : Ending} (k : ℕ) → Run n j p e steps q →
      run_plan n k q ≡ RAN e' steps' q' → run_plan n (j + k) p ≡ RAN e' (steps + steps') q'
  unfolding one_step_more
  joins k (stop {quota = j} {p} h) after = rw (zero-add, run_stop n (j + k) p h, ← run_stop n k p h) after
  joins k (spent h) after = simp zero-add after
  joins k (go {quota = j} {p} h ran) after = rw (suc-add j k, run_go n (j + k) p h, joins k ran after) (rw suc-add)

module _ {L : Type 0} (n quota : ℕ) (p : Plan L) {e : Ending} {steps : ℕ} {q : Plan L}
    (ran : run_plan n quota p ≡ RAN e steps q) where
  pub run_leads : Leads steps p q
  run_leads = leads (ran_run n quota p ran)

  pub run_steps : steps ≤ quota
  run_steps = within_quota (ran_run n quota p ran)

  pub run_stops : (d : Ending) → (e ≡ d) ↔ Stops n d q
  run_stops d =
      let asks = asks_last (ran_run n quota p ran) in
      (λ h. ending_stops n q d (asks ∙ h), λ h. sym asks ∙ stops_ending n q d h)

  pub run_done : (e ≡ Done) ↔ (next q ≡ None)
  run_done = run_stops Done

  pub run_quota : (e ≡ Quota) ↔ ((r : Plan L) × (next q ≡ Some r) × (cells r ≤ n))
  run_quota = run_stops Quota

  pub run_full : (e ≡ Full) ↔ ((r : Plan L) × (next q ≡ Some r) × (n < cells r))
  run_full = run_stops Full

  pub run_quota_steps : e ≡ Quota → steps ≡ quota
  run_quota_steps = spends (ran_run n quota p ran)

  pub run_cells : cells p ≤ n → cells q ≤ n
  run_cells = fits (ran_run n quota p ran)

  pub run_allowed : (limit : ℕ) → Allowed limit p → Allowed limit q
  run_allowed limit = leads_keeps (Allowed limit) (λ p q s. step_allowed limit s) steps p q run_leads

  pub run_without_c : WithoutC p → WithoutC q
  run_without_c = leads_keeps WithoutC (λ p q s. step_without_c s) steps p q run_leads

  -- Without c every rewrite makes the plan smaller: so there is always room, and the cells bound the rewrites.
  pub without_c_not_full : WithoutC p → cells p ≤ n → e ≡ Full → ⊥
  without_c_not_full plain room h =
      let over = run_full.0 h in
      omega (arith, step_smaller (next_step q over.1) (run_without_c plain), run_cells room)

  pub without_c_done : WithoutC p → cells p ≤ n → cells p ≤ quota → e ≡ Done
  without_c_done plain room time = by_ending e refl
    where
      by_ending : (d : Ending) → e ≡ d → e ≡ Done
      by_ending Done h = h
      by_ending Quota h =
          let step = next_step q (run_quota.0 h).1 in
          let smaller = step_smaller step (run_without_c plain) in
          absurd (omega (arith, leads_smaller steps p q run_leads plain, run_quota_steps h))
      by_ending Full h = absurd (without_c_not_full plain room h)

module _ {L : Type 0} where
  -- A run that ended with no ready operator is the same with more cells and with any quota that its steps fit.
  pub more_never_changes : (n m quota more : ℕ) (p : Plan L) {steps : ℕ} {q : Plan L} →
      run_plan n quota p ≡ RAN Done steps q → n ≤ m → steps ≤ more → run_plan m more p ≡ RAN Done steps q
  more_never_changes n m quota more p ran room time = run_ran m (larger m more (ran_run n quota p ran) refl room time)

  -- A run may be stopped at any step and taken up again.
  pub run_add : (n j k : ℕ) (p : Plan L) {e e' : Ending} {steps steps' : ℕ} {q q' : Plan L} →
      run_plan n j p ≡ RAN e steps q → run_plan n k q ≡ RAN e' steps' q' →
      run_plan n (j + k) p ≡ RAN e' (steps + steps') q'
  run_add n j k p ran after = joins k (ran_run n j p ran) after

-- A run goes the same way under a change of plans that keeps the cells and goes along with the next rewrite.
unfoldable pub retell : {L M : Type 0} → (Plan L → Plan M) → Asked L → Asked M
retell change (ENDS e) = ENDS e
retell change (GOES_ON q) = GOES_ON (change q)

module _ {L M : Type 0} (change : Plan L → Plan M) (as_large : (p : Plan L) → cells (change p) ≡ cells p)
    (along : (p : Plan L) → next (change p) ≡ under change (next p)) where
  ask-under : (n : ℕ) (x : Option (Plan L)) → ask n (under change x) ≡ retell change (ask n x)
  unfolding ask under retell
  ask-under n None = refl
  ask-under n (Some q) = rw (as_large q) (by_test (leb (cells q) n))
    where
      by_test : (b : Bool) → cond b (GOES_ON (change q)) (ENDS Full) ≡ retell change (cond b (GOES_ON q) (ENDS Full))
      by_test true = refl
      by_test false = refl

  ask-changed : (n : ℕ) (p : Plan L) {t : Asked L} → ask n (next p) ≡ t → ask n (next (change p)) ≡ retell change t
  ask-changed n p h = ap (ask n) (along p) ∙ (ask-under n (next p) ∙ ap (retell change) h)

  goes_along : {n quota : ℕ} {p : Plan L} {e : Ending} {steps : ℕ} {q : Plan L} → Run n quota p e steps q →
      Run n quota (change p) e steps (change q)
  unfolding retell
  goes_along {n} (stop {p} h) = stop (ask-changed n p h)
  goes_along {n} (spent {p} h) = spent (ask-changed n p h)
  goes_along {n} (go {p} h ran) = go (ask-changed n p h) (goes_along ran)

  run_changed : (n quota : ℕ) (p : Plan L) {e : Ending} {steps : ℕ} {q : Plan L} →
      run_plan n quota p ≡ RAN e steps q → run_plan n quota (change p) ≡ RAN e steps (change q)
  run_changed n quota p ran = run_ran n (goes_along (ran_run n quota p ran))

-- No turn looks at a label,
module _ {L M : Type 0} (f : L → M) where
  pub ask-relabel : (n : ℕ) (p : Plan L) {t : Asked L} → ask n (next p) ≡ t → ask n (next (relabel f p)) ≡ retell (relabel f) t
  ask-relabel = ask-changed (relabel f) (cells-relabel f) (next-relabel f)

  pub run_relabel : (n quota : ℕ) (p : Plan L) {e : Ending} {steps : ℕ} {q : Plan L} →
      run_plan n quota p ≡ RAN e steps q → run_plan n quota (relabel f p) ≡ RAN e steps (relabel f q)
  run_relabel = run_changed (relabel f) (cells-relabel f) (next-relabel f)

-- and none at a token's text.
pub run_renamed : {L : Type 0} (g : List ℕ → List ℕ) (n quota : ℕ) (p : Plan L) {e : Ending} {steps : ℕ} {q : Plan L} →
    run_plan n quota p ≡ RAN e steps q → run_plan n quota (renamed g p) ≡ RAN e steps (renamed g q)
run_renamed g = run_changed (renamed g) (cells-changed (λ l. l) g) (next-renamed g)
