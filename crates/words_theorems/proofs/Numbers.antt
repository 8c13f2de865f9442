-- The five numbers tell the answer: a linked text from a refusal, and which refusal, by its number and its place.
use Prim.Native.Nat.{ℕ, ◌<◌}
use mathlib.Core.Path.{◌≡◌, refl, ap, sym, ◌∙◌}
use mathlib.Core.Logic.{◌≢◌}
use mathlib.Core.Bool.{cond}
use native.Mathlib.Omega.{arith}
use lib.Dec.{eqb}
use borrow.Author.Tests.{ne_eqb}
use Rattle.plan.specs.Read.{sized}
use Rattle.std.specs.Prelude.{Ok, Err}
use Rattle.numbers.specs.declared.Numbers.{Numbers}
use Rattle.numbers.specs.Numbers.{fault_number}
use Rattle.numbers.proofs.Told.{fault_number_is, fault_with, fault_with_its_own}
use Rattle.words_meaning.specs.Answers.{link_numbers, link_refusal_numbers, LinkAnswer}
use Rattle.words_meaning.specs.declared.LinkRefusal.{LinkRefusal}
use Rattle.words_meaning.specs.declared.LinkRefusal.TheVariants.{BadWords, Text, Overfull, OutShort}
use Rattle.demands.specs.Terms.{OUTSHORT, OVERFULL, READ}
use Rattle.words_theorems.specs.Terms.{BADWORDS}

-- a refusal's number is not READ
pub refusal_over : (x : LinkRefusal) → READ < (link_refusal_numbers x).number
refusal_over (BadWords rank) = omega arith
refusal_over (Text f) = omega (arith, (fault_number_is f).low)
refusal_over Overfull = omega arith
refusal_over (OutShort needed) = omega arith

-- the refusal with that number and place
refusal_with : (number at : ℕ) → LinkRefusal
refusal_with number at =
    cond (eqb number BADWORDS) (BadWords at)
    (cond (eqb number OVERFULL) Overfull (cond (eqb number OUTSHORT) (OutShort at) (Text (fault_with number at))))

with_its_own : (x : LinkRefusal) → refusal_with (link_refusal_numbers x).number (link_refusal_numbers x).place ≡ x
unfolding refusal_with
with_its_own (BadWords rank) = refl
with_its_own (Text f) =
    let n = fault_number_is f in
    rw (ne_eqb (fault_number f) BADWORDS (λ e. omega (arith, n.high)), ne_eqb _ _ n.no_overfull, ne_eqb _ _ n.no_outshort) (ap Text (fault_with_its_own f))
with_its_own Overfull = refl
with_its_own (OutShort needed) = refl

-- an answer with a refusal's five numbers is that refusal
pub same_refusal : (r : LinkAnswer) (x : LinkRefusal) → link_numbers r ≡ link_refusal_numbers x → r ≡ Err x
same_refusal (Ok s) x h = absurd (omega (arith, refusal_over x, ap (λ (v : Numbers). v.number) h))
same_refusal (Err y) x h =
    ap Err (sym (with_its_own y) ∙ ap (λ (v : Numbers). refusal_with v.number v.place) h ∙ with_its_own x)

-- answers with the same five numbers are the same answer
pub same_answer : (r s : LinkAnswer) → link_numbers r ≡ link_numbers s → r ≡ s
same_answer r (Err x) h = same_refusal r x h
same_answer (Err x) (Ok s) h = sym (same_refusal (Ok s) x (sym h))
same_answer (Ok s) (Ok t) h =
    ap (λ (v : Numbers). Ok (sized v.cells v.length)) h

-- "Number 14 is never given again"
-- a theorem of tokens' faults
pub fourteen_never_given : (r : LinkAnswer) → (link_numbers r).number ≢ 14
fourteen_never_given (Ok s) h = omega arith
fourteen_never_given (Err (BadWords rank)) h = omega arith
fourteen_never_given (Err (Text f)) h = (fault_number_is f).not_14 h
fourteen_never_given (Err Overfull) h = omega arith
fourteen_never_given (Err (OutShort needed)) h = omega arith
