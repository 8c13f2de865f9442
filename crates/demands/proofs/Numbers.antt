-- The five numbers tell RUN's answer. They tell a refusal from an ending, and they tell which refusal it is, by its number and its place.
-- The laws of READ's numbers stand beside their definition.
use Prim.Native.Nat.{ℕ, ◌≤◌, ◌<◌}
use mathlib.Core.Path.{◌≡◌, refl, ap, sym, ◌∙◌}
use mathlib.Core.Logic.{◌≢◌}
use mathlib.Core.Bool.{cond}
use native.Mathlib.Omega.{arith}
use lib.Dec.{eqb}
use borrow.Author.Rules.{rules}
use borrow.Author.Tests.{ne_eqb}
use Rattle.std.specs.Prelude.{Ok, Err}
use Rattle.rules.specs.declared.Ending.{Ending}
use Rattle.rules.specs.declared.Ending.TheVariants.{Done, Quota, Full}
use Rattle.plan.specs.Read.{ReadAnswer}
use Rattle.numbers.specs.declared.Numbers.{Numbers}
use Rattle.numbers.specs.Numbers.{read_numbers}
use Rattle.numbers.proofs.Told.{read_refusal_number_is, unread_number_is, unread_with, unread_with_its_own}
use Rattle.answers.specs.declared.RunRefusal.{RunRefusal}
use Rattle.answers.specs.declared.RunRefusal.TheVariants.{BadArena, NotRead, OutShort}
use Rattle.answers.specs.Run.{RunAnswer, ending_number, run_numbers, run_refusal_numbers}
use Rattle.demands.specs.Terms.{DONE, FULL, OUTSHORT, QUOTA, READ}

pub ending-at_most : (e : Ending) → ending_number e ≤ FULL
ending-at_most Done = omega arith
ending-at_most Quota = omega arith
ending-at_most Full = omega arith

-- the ending with that number
ending_with : ℕ → Ending
ending_with number = cond (eqb number DONE) Done (cond (eqb number QUOTA) Quota Full)

pub same-ending : (e d : Ending) → ending_number e ≡ ending_number d → e ≡ d
unfolding ending_with
same-ending e d h = sym (with_its_number e) ∙ ap ending_with h ∙ with_its_number d
  where
    with_its_number : (e : Ending) → ending_with (ending_number e) ≡ e
    with_its_number Done = refl
    with_its_number Quota = refl
    with_its_number Full = refl

-- a refusal's number is none of an unrefused call's, and never 14
pub record RunNumber (n : ℕ) : Type 0 where
  pub over : READ < n
  pub not_14 : n ≢ 14

pub run_refusal_number_is : (x : RunRefusal) → RunNumber (run_refusal_numbers x).number
run_refusal_number_is BadArena = search rules
run_refusal_number_is (NotRead u) = let n = unread_number_is u in record { over = omega (arith, n.low); not_14 = n.not_14 }
run_refusal_number_is (OutShort needed) = search rules

-- the refusal with that number and place
refusal_with : (number at : ℕ) → RunRefusal
refusal_with number at = cond (eqb number 12) BadArena (cond (eqb number OUTSHORT) (OutShort at) (NotRead (unread_with number at)))

with_its_own : (x : RunRefusal) → refusal_with (run_refusal_numbers x).number (run_refusal_numbers x).place ≡ x
unfolding refusal_with
with_its_own BadArena = refl
with_its_own (NotRead u) =
    let n = unread_number_is u in
    rw (ne_eqb _ _ n.no_arena, ne_eqb _ _ n.no_outshort) (ap NotRead (unread_with_its_own u))
with_its_own (OutShort needed) = refl

-- an answer with a refusal's five numbers is that refusal
pub same_run_refusal : (r : RunAnswer) (x : RunRefusal) → run_numbers r ≡ run_refusal_numbers x → r ≡ Err x
same_run_refusal (Ok y) x h =
    absurd (omega (arith, ending-at_most y.ending, (run_refusal_number_is x).over, ap (λ (v : Numbers). v.number) h))
same_run_refusal (Err y) x h =
    ap Err (sym (with_its_own y) ∙ ap (λ (v : Numbers). refusal_with v.number v.place) h ∙ with_its_own x)

-- "Number 14 is never given again"
-- a theorem of tokens' faults
pub run_fourteen_never_given : (r : RunAnswer) → (run_numbers r).number ≢ 14
run_fourteen_never_given (Ok x) h = omega (arith, ending-at_most x.ending)
run_fourteen_never_given (Err x) h = (run_refusal_number_is x).not_14 h

-- a theorem of tokens' faults
pub read_fourteen_never_given : (r : ReadAnswer) → (read_numbers r).number ≢ 14
read_fourteen_never_given (Ok s) h = omega arith
read_fourteen_never_given (Err x) h = (read_refusal_number_is x).not_14 h
