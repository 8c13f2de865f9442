-- `token_piece`: where the token ends says how long it is.
use Rattle.std.proofs.Common.{arith}
use Rattle.items.proofs.Telling.{token_ends}
use Rattle.items.proofs.token_piece.Goals as goal

pub overflow_add-end : goal.overflow_add-end
overflow_add-end c = omega (arith, token_ends c.requires c.token_end-end.ensures)

pub new-token-requires : goal.new-token-requires
new-token-requires c = omega (arith, token_ends c.requires c.token_end-end.ensures)
