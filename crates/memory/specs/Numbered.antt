-- What a cell is, and the number by which its first datum says so. Nothing is answered by these numbers: the laws show that each
-- tells the kind that it was made of.
use Rattle.std.specs.Prelude.{ℕ, cond, eqb}
use Rattle.pieces.specs.Numbered.{operator_number, operator_of}
use Rattle.memory.specs.declared.Kind.{Kind}
use Rattle.memory.specs.declared.Kind.TheVariants.{Operator as OPERATOR, Token as TOKEN, Block as BLOCK}
use Rattle.memory.specs.Memory.{token_kind, block_kind}

abbrev pub kind_number : Kind → ℕ
kind_number (OPERATOR o) = operator_number o
kind_number TOKEN = token_kind
kind_number BLOCK = block_kind

abbrev pub kind_of : ℕ → Kind
kind_of n = cond (eqb n token_kind) TOKEN (cond (eqb n block_kind) BLOCK (OPERATOR (operator_of n)))
