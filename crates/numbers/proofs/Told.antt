-- The numbers tell what was told by them: which fault of a text it is, by its number and its place. No
-- fault has a number that means anything else.
use Prim.Native.Nat.{ℕ, ◌≤◌, ◌<◌}
use mathlib.Core.Path.{◌≡◌, refl, ap, sym, ◌∙◌}
use mathlib.Core.Logic.{◌≢◌}
use mathlib.Core.Bool.{cond}
use native.Mathlib.Omega.{arith}
use lib.Dec.{eqb}
use borrow.Author.Rules.{rules}
use borrow.Author.Tests.{ne_eqb}
use Rattle.plan.specs.declared.ReadRefusal.{ReadRefusal}
use Rattle.plan.specs.declared.ReadRefusal.TheVariants.{NotRead, OutShort}
use Rattle.plan.specs.declared.TextFault.{TextFault}
use Rattle.plan.specs.declared.TextFault.TheVariants.{TooLong, BadByte, BadToken, Unmatched, Unclosed}
use Rattle.plan.specs.declared.TokenFault.{TokenFault}
use Rattle.plan.specs.declared.TokenFault.TheVariants.{Empty, Long, BadUtf8, Forbidden, InnerBrace}
use Rattle.plan.specs.declared.Unread.{Unread}
use Rattle.plan.specs.declared.Unread.TheVariants.{Text, Overfull}
use Rattle.plan.specs.Read.{ReadAnswer}
use Rattle.plan.specs.Reading.{place}
use Rattle.std.specs.Prelude.{Err, MatchResult, Ok, Result}
use Rattle.numbers.specs.declared.Numbers.{Numbers}
use Rattle.numbers.specs.Numbers.{fault_number, fault_place, read_numbers, read_refusal_numbers, token_fault_number, unread_numbers}

-- An answer is told by the numbers of what it gives, or by those of its refusal: this is what `Numbers::from` says of it.
pub told : {A E : Type 0} (numbers : Result A E → Numbers) (r : Result A E) {n : Numbers}
    → MatchResult r (λ a. n ≡ numbers (Ok a)) (λ e. n ≡ numbers (Err e)) → n ≡ numbers r
told numbers (Ok a) h = h
told numbers (Err e) h = h

-- a token's faults have the numbers 21 to 25
-- a theorem of tokens' faults
pub token_fault_range : (f : TokenFault) → (21 ≤ token_fault_number f) × (token_fault_number f ≤ 25)
token_fault_range Empty = omega arith
token_fault_range Long = omega arith
token_fault_range BadUtf8 = omega arith
token_fault_range Forbidden = omega arith
token_fault_range InnerBrace = omega arith

-- the numbers that a fault of a text may have
pub record TextNumber (n : ℕ) : Type 0 where
  pub low : 11 ≤ n
  pub high : n ≤ 25
  pub no_arena : n ≢ 12
  pub not_14 : n ≢ 14
  pub no_overfull : n ≢ 17
  pub no_outshort : n ≢ 18

pub fault_number_is : (f : TextFault) → TextNumber (fault_number f)
fault_number_is TooLong = search rules
fault_number_is (BadByte at) = search rules
fault_number_is (BadToken f at) = let range = token_fault_range f in search rules
fault_number_is (Unmatched at) = search rules
fault_number_is (Unclosed at) = search rules

-- those that a text which is not read may have
pub record UnreadNumber (n : ℕ) : Type 0 where
  pub low : 11 ≤ n
  pub no_arena : n ≢ 12
  pub not_14 : n ≢ 14
  pub no_outshort : n ≢ 18

pub unread_number_is : (u : Unread) → UnreadNumber (unread_numbers u).number
unread_number_is (Text f) =
    let n = fault_number_is f in
    record { low = n.low; no_arena = n.no_arena; not_14 = n.not_14; no_outshort = n.no_outshort }
unread_number_is (Overfull at) = search rules

-- the fault with that number and place, and so on
token_fault_with : ℕ → TokenFault
token_fault_with number =
    cond (eqb number 21) Empty (cond (eqb number 22) Long (cond (eqb number 23) BadUtf8 (cond (eqb number 24) Forbidden InnerBrace)))

pub fault_with : (number at : ℕ) → TextFault
fault_with number at =
    cond (eqb number 11) TooLong
    (cond (eqb number 13) (BadByte (place at))
    (cond (eqb number 15) (Unmatched (place at))
    (cond (eqb number 16) (Unclosed (place at)) (BadToken (token_fault_with number) (place at)))))

pub fault_with_its_own : (f : TextFault) → fault_with (fault_number f) (fault_place f) ≡ f
unfolding fault_with token_fault_with
fault_with_its_own TooLong = refl
fault_with_its_own (BadByte at) = refl
fault_with_its_own (BadToken Empty at) = refl
fault_with_its_own (BadToken Long at) = refl
fault_with_its_own (BadToken BadUtf8 at) = refl
fault_with_its_own (BadToken Forbidden at) = refl
fault_with_its_own (BadToken InnerBrace at) = refl
fault_with_its_own (Unmatched at) = refl
fault_with_its_own (Unclosed at) = refl

pub unread_with : (number at : ℕ) → Unread
unread_with number at = cond (eqb number 17) (Overfull (place at)) (Text (fault_with number at))

pub unread_with_its_own : (u : Unread) → unread_with (unread_numbers u).number (unread_numbers u).place ≡ u
unfolding unread_with
unread_with_its_own (Text f) = rw (ne_eqb _ _ (fault_number_is f).no_overfull) (ap Text (fault_with_its_own f))
unread_with_its_own (Overfull at) = refl

-- READ's refusals: none has the number of an unrefused call, 12 or 14
pub record ReadNumber (n : ℕ) : Type 0 where
  pub over : 3 < n
  pub no_arena : n ≢ 12
  pub not_14 : n ≢ 14

pub read_refusal_number_is : (x : ReadRefusal) → ReadNumber (read_refusal_numbers x).number
read_refusal_number_is (NotRead u) =
    let n = unread_number_is u in
    record { over = omega (arith, n.low); no_arena = n.no_arena; not_14 = n.not_14 }
read_refusal_number_is (OutShort needed) = search rules

read_refusal_with : (number at : ℕ) → ReadRefusal
read_refusal_with number at = cond (eqb number 18) (OutShort at) (NotRead (unread_with number at))

read_refusal_with_its_own : (x : ReadRefusal) → read_refusal_with (read_refusal_numbers x).number (read_refusal_numbers x).place ≡ x
unfolding read_refusal_with
read_refusal_with_its_own (NotRead u) = rw (ne_eqb _ _ (unread_number_is u).no_outshort) (ap NotRead (unread_with_its_own u))
read_refusal_with_its_own (OutShort needed) = refl

-- an answer with a refusal's five numbers is that refusal
pub same-read_refusal : (r : ReadAnswer) (x : ReadRefusal) → read_numbers r ≡ read_refusal_numbers x → r ≡ Err x
same-read_refusal (Ok s) x h = absurd (omega (arith, (read_refusal_number_is x).over, ap (λ (v : Numbers). v.number) h))
same-read_refusal (Err y) x h =
    ap Err
    (sym (read_refusal_with_its_own y) ∙ ap (λ (v : Numbers). read_refusal_with v.number v.place) h ∙ read_refusal_with_its_own x)
