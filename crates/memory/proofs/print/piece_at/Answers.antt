-- `piece_at`: the port's parity and its cell's kind say which case of the definition it is.
use Rattle.std.proofs.Common.{rules}
use Rattle.memory.proofs.Pieces.{close-piece, open_piece, operator_piece, token_piece}
use Rattle.memory.proofs.print.piece_at.Goals as goal

pub returns-then-closes : goal.returns-then-closes
returns-then-closes c = search (rules, close-piece)

pub returns-in-Operator : goal.returns-in-Operator
returns-in-Operator c = search (rules, operator_piece)

pub returns-in-Token : goal.returns-in-Token
returns-in-Token c = search (rules, token_piece)

pub returns-in-Block : goal.returns-in-Block
returns-in-Block c = search (rules, open_piece)
