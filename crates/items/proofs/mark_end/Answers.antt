-- `mark_end`: the mark's first byte says whether it is an annotation, which ends where a token does.
use Rattle.std.proofs.Common.{arith}
use Rattle.items.proofs.Passing.{mark_braces, mark_byte, mark_opens}
use Rattle.items.proofs.Telling.{token_ends}
use Rattle.items.proofs.mark_end.Goals as goal

pub token_end-requires : goal.token_end-requires
token_end-requires c = let f = mark_opens c.requires c.if-text-at-eq123.true in (f.t, f.found)

pub overflow_add-result : goal.overflow_add-result
overflow_add-result c = omega (arith, token_ends (mark_opens c.requires c.if-text-at-eq123.true) c.token_end.ensures)

pub returns-then-text-at-eq123 : goal.returns-then-text-at-eq123
returns-then-text-at-eq123 c = mark_braces c.if-text-at-eq123.true c.token_end.ensures

pub returns : goal.returns
returns c = mark_byte c.if-text-at-eq123.false
