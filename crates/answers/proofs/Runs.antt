-- What RUN says before its output is looked at: each refusal exactly when its row of the table says, and else the run of the plan that was
-- accepted.
use Prim.Native.Nat.{ℕ, ◌≤◌}
use mathlib.Core.Path.{◌≡◌, refl, ap, sym, subst, ◌∙◌}
use mathlib.Core.Bool.{Bool, true, false, cond}
use mathlib.Core.Logic.{◌↔◌}
use mathlib.Core.List.{List}
use lib.ListN.{length}
use lib.Dec.{ltb}
use borrow.Author.Tests.{ltb-true, ltb-false, lt-ltb, le-ltb}
use Rattle.kinds.specs.Limits.{Limits}
use Rattle.plan.specs.declared.TextFault.TheVariants.{TooLong}
use Rattle.plan.specs.declared.Unread.TheVariants.{Text}
use Rattle.plan.specs.Outcomes.{GIVES, Outcome, REFUSES}
use Rattle.plan.specs.Pieces.{placed}
use Rattle.plan.specs.Plan.{Plan, bare}
use Rattle.plan.specs.Reading.{ACCEPTED, Acceptance, OUTSIDE, UNREAD, accept, read, without_marks}
use Rattle.plan.proofs.Accepting.{Roomy, accept_short, accepted_text}
use Rattle.plan.proofs.Annotations.{accept-without_marks}
use Rattle.plan.proofs.Plans.{cells-relabel, print-relabel}
use Rattle.plan.proofs.ReadBack.{bare-placed}
use Rattle.plan.proofs.Refusals.{refused-row, row_refused}
use Rattle.kinds.proofs.Tests.{never}
use Rattle.rules.specs.Running.{Ran, RAN, run_plan}
use Rattle.rules.proofs.Runs.{run_relabel}
use Rattle.answers.specs.declared.RunRefusal.{RunRefusal}
use Rattle.answers.specs.declared.RunRefusal.TheVariants.{BadArena, NotRead}
use Rattle.answers.specs.Run.{HowRan, Refuses, as_run, bad_arena, text_refused, run_read, run_outcome, text_too_long}

refuses_injective : {r s : RunRefusal} → ◌≡◌ {A = Outcome RunRefusal HowRan} (REFUSES r) (REFUSES s) → r ≡ s
refuses_injective e = cc

pub gives_is_no_refusal : {A : Type 0} {r : RunRefusal} {how : HowRan} {c : ℕ} {t : List ℕ} → REFUSES r ≡ GIVES how c t → A
gives_is_no_refusal e = never cc

module _ (lim : Limits) (n quota : ℕ) (text : List ℕ) where
  pub runs_short : length text ≤ lim.text → n ≤ lim.cells → run_outcome lim n quota text ≡ run_read n quota (read lim.token n text)
  unfolding run_outcome
  runs_short short lent = rw (le-ltb lim.text (length text) short, le-ltb lim.cells n lent)

  -- a text that is accepted is run
  pub runs_accepted : {p : Plan ℕ} → n ≤ lim.cells → accept lim n text ≡ ACCEPTED p → run_outcome lim n quota text ≡ as_run (run_plan n quota p)
  unfolding run_read
  runs_accepted lent h = let ok = accepted_text lim n text h in runs_short ok.short lent ∙ ap (run_read n quota) ok.reads

  -- what RUN can have said
  pub data RunsCase : Outcome RunRefusal HowRan → Type 0 where
    refuses : {r : RunRefusal} → Refuses lim n text r → RunsCase (REFUSES r)
    accepts : {p : Plan ℕ} → n ≤ lim.cells → accept lim n text ≡ ACCEPTED p → RunsCase (as_run (run_plan n quota p))

  pub runs_case : RunsCase (run_outcome lim n quota text)
  unfolding run_outcome run_read
  runs_case = go (ltb lim.text (length text)) refl (ltb lim.cells n) refl
    where
      by_reading : length text ≤ lim.text → n ≤ lim.cells → (x : Acceptance) → read lim.token n text ≡ x → RunsCase (run_read n quota x)
      by_reading short lent (UNREAD u) h = refuses (text_refused short lent (refused-row lim.token n text h))
      by_reading short lent (ACCEPTED p) h = accepts lent (accept_short lim text n short ∙ h)

      go : (s : Bool) → ltb lim.text (length text) ≡ s → (t : Bool) → ltb lim.cells n ≡ t
          → RunsCase (cond s (REFUSES (NotRead (Text TooLong))) (cond t (REFUSES BadArena) (run_read n quota (read lim.token n text))))
      go true u t v = refuses (text_too_long (ltb-true _ _ u))
      go false u true v = refuses (bad_arena (ltb-false _ _ u) (ltb-true _ _ v))
      go false u false v = by_reading (ltb-false _ _ u) (ltb-false _ _ v) (read lim.token n text) refl

  pub refuses_refused : {r : RunRefusal} → Refuses lim n text r → run_outcome lim n quota text ≡ REFUSES r
  unfolding run_outcome run_read
  refuses_refused (text_too_long h) = rw (lt-ltb lim.text (length text) h)
  refuses_refused (bad_arena h g) = rw (le-ltb lim.text (length text) h, lt-ltb lim.cells n g)
  refuses_refused (text_refused h g row) = runs_short h g ∙ ap (run_read n quota) (row_refused row)

  -- a call is refused with 11 to 17 or 21 to 25 exactly when the row says, and no other row then does
  pub refuses_iff : (r : RunRefusal) → (run_outcome lim n quota text ≡ REFUSES r) ↔ Refuses lim n text r
  unfolding as_run
  refuses_iff r = (λ e. go runs_case e, refuses_refused)
    where
      no_run : (y : Ran ℕ) → as_run y ≡ REFUSES r → Refuses lim n text r
      no_run (RAN e steps q) h = gives_is_no_refusal (sym h)

      go : {x : Outcome RunRefusal HowRan} → RunsCase x → x ≡ REFUSES r → Refuses lim n text r
      go (refuses row) e = subst (Refuses lim n text) (refuses_injective e) row
      go (accepts {p} lent h) e = no_run (run_plan n quota p) e

  pub one_refusal : {r s : RunRefusal} → Refuses lim n text r → Refuses lim n text s → r ≡ s
  one_refusal g h = refuses_injective (sym (refuses_refused g) ∙ refuses_refused h)

-- what a run gives does not depend on the labels
as_run-bare : (n quota : ℕ) (p : Plan ℕ) → as_run (run_plan n quota p) ≡ as_run (run_plan n quota (bare p))
unfolding as_run
as_run-bare n quota p = go (run_plan n quota p) refl
  where
    go : (r : Ran ℕ) → run_plan n quota p ≡ r → as_run r ≡ as_run (run_plan n quota (bare p))
    go (RAN e steps q) h = rw (run_relabel (λ l. tt {0}) n quota p h, cells-relabel (λ l. tt {0}) q, print-relabel (λ l. tt {0}) q)

-- what a run of the saved text gives is what a run of the plan would have given
pub run_saved : (n quota : ℕ) (p : Plan ℕ) → as_run (run_plan n quota (placed 0 p)) ≡ as_run (run_plan n quota p)
run_saved n quota p = as_run-bare n quota (placed 0 p) ∙ ap (λ q. as_run (run_plan n quota q)) (bare-placed 0 p) ∙ sym (as_run-bare n quota p)

-- a text that is accepted runs without its marks as it did
-- a theorem of annotations
pub runs_without_marks : (lim : Limits) → Roomy lim → (n quota : ℕ) → n ≤ lim.cells → (text : List ℕ) {p : Plan ℕ} → accept lim n text ≡ ACCEPTED p
    → run_outcome lim n quota (without_marks OUTSIDE text) ≡ run_outcome lim n quota text
runs_without_marks lim roomy n quota lent text {p} h =
    runs_accepted lim n quota (without_marks OUTSIDE text) lent (accept-without_marks lim roomy n lent text h) ∙ run_saved n quota p
    ∙ sym (runs_accepted lim n quota text lent h)
