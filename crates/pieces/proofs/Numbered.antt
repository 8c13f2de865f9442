-- A number tells the operator, or the class, that it was made of.
use Prim.Native.Nat.{ℕ}
use mathlib.Core.Path.{◌≡◌, refl, ap, sym}
use mathlib.Core.Logic.{◌≢◌}
use borrow.Author.Tests.{ne_eqb}
use Rattle.plan.specs.declared.Operator.{Operator}
use Rattle.plan.specs.declared.Operator.TheVariants.{A as op_a, B as op_b, C as op_c, D as op_d}
use Rattle.plan.specs.declared.Class.{Class}
use Rattle.plan.specs.declared.Class.TheVariants.{Operator as OPERATOR, Open as OPEN, Close as CLOSE, Brace as BRACE, Blank as BLANK, Bad as BAD}
use Rattle.pieces.specs.Numbered.{operator_number, operator_of, class_number, class_of}

pub operator_told : (o : Operator) → operator_of (operator_number o) ≡ o
operator_told op_a = refl
operator_told op_b = refl
operator_told op_c = refl
operator_told op_d = refl

pub class_told : (c : Class) → class_of (class_number c) ≡ c
class_told (OPERATOR op_a) = refl
class_told (OPERATOR op_b) = refl
class_told (OPERATOR op_c) = refl
class_told (OPERATOR op_d) = refl
class_told OPEN = refl
class_told CLOSE = refl
class_told BRACE = refl
class_told BLANK = refl
class_told BAD = refl

-- what a function gives at the number that a match found
pub found : {A : Type 0} (f : ℕ → A) (k n : ℕ) → n ≡ k → f k ≡ f n
found f k n e = sym (ap f e)

pub last_operator : (n : ℕ) → n ≢ 0 → n ≢ 1 → n ≢ 2 → op_d ≡ operator_of n
last_operator n a b c = rw (ne_eqb n 0 a, ne_eqb n 1 b, ne_eqb n 2 c)

pub some_operator : {n : ℕ} {o : Operator} → n ≢ 4 → n ≢ 5 → n ≢ 6 → n ≢ 7 → n ≢ 8 → o ≡ operator_of n → OPERATOR o ≡ class_of n
some_operator {n} a b c d e is = rw (ne_eqb n 4 a, ne_eqb n 5 b, ne_eqb n 6 c, ne_eqb n 7 d, ne_eqb n 8 e) (ap OPERATOR is)
