-- A number tells the kind that it was made of.
use Prim.Native.Nat.{ℕ}
use mathlib.Core.Path.{◌≡◌, refl, ap}
use mathlib.Core.Logic.{◌≢◌}
use borrow.Author.Tests.{ne_eqb}
use Rattle.pieces.specs.Numbered.{operator_of}
use Rattle.plan.specs.declared.Operator.{Operator}
use Rattle.plan.specs.declared.Operator.TheVariants.{A as op_a, B as op_b, C as op_c, D as op_d}
use Rattle.memory.specs.Numbered.{kind_number, kind_of}
use Rattle.memory.specs.declared.Kind.{Kind}
use Rattle.memory.specs.declared.Kind.TheVariants.{Operator as OPERATOR, Token as TOKEN, Block as BLOCK}

pub kind_told : (k : Kind) → kind_of (kind_number k) ≡ k
kind_told (OPERATOR op_a) = refl
kind_told (OPERATOR op_b) = refl
kind_told (OPERATOR op_c) = refl
kind_told (OPERATOR op_d) = refl
kind_told TOKEN = refl
kind_told BLOCK = refl

pub other_kind : {n : ℕ} {o : Operator} → n ≢ 4 → n ≢ 5 → o ≡ operator_of n → OPERATOR o ≡ kind_of n
other_kind {n} a b is = rw (ne_eqb n 4 a, ne_eqb n 5 b) (ap OPERATOR is)
