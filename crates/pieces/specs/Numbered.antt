-- The numbers by which the code keeps an operator and says the class of a byte. Nothing is answered by them, so no reader has to
-- believe them: the laws show that each number tells what it was made of.
use Rattle.std.specs.Prelude.{ℕ, cond, eqb}
use Rattle.plan.specs.declared.Operator.{Operator}
use Rattle.plan.specs.declared.Operator.TheVariants.{A as op_a, B as op_b, C as op_c, D as op_d}
use Rattle.plan.specs.declared.Class.{Class}
use Rattle.plan.specs.declared.Class.TheVariants.{Operator as OPERATOR, Open as OPEN, Close as CLOSE, Brace as BRACE, Blank as BLANK, Bad as BAD}

abbrev pub operator_number : Operator → ℕ
operator_number op_a = 0
operator_number op_b = 1
operator_number op_c = 2
operator_number op_d = 3

abbrev pub operator_of : ℕ → Operator
operator_of n = cond (eqb n 0) op_a (cond (eqb n 1) op_b (cond (eqb n 2) op_c op_d))

abbrev pub class_number : Class → ℕ
class_number (OPERATOR o) = operator_number o
class_number OPEN = 4
class_number CLOSE = 5
class_number BRACE = 6
class_number BLANK = 7
class_number BAD = 8

abbrev pub class_of : ℕ → Class
class_of n =
    cond (eqb n 4) OPEN
    (cond (eqb n 5) CLOSE (cond (eqb n 6) BRACE (cond (eqb n 7) BLANK (cond (eqb n 8) BAD (OPERATOR (operator_of n))))))
