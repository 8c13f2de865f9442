-- `size_after`: the table of cells, by the operator.
use Rattle.std.proofs.Common.{arith}
use Rattle.engine.proofs.Sizing.{count_fewer, count_more, has_block, one_fewer, size_a, size-b, size_c, size_d, two_fewer}
use Rattle.engine.proofs.size_after.Goals as goal

pub overflow_sub-result : goal.overflow_sub-result
overflow_sub-result c = two_fewer c.requires c.in-A.is

pub overflow_sub-result-in-B : goal.overflow_sub-result-in-B
overflow_sub-result-in-B c = one_fewer c.requires c.in-B.is

pub block_cells-requires : goal.block_cells-requires
block_cells-requires c = has_block c.requires

pub overflow_add-result : goal.overflow_add-result
overflow_add-result c = omega (arith, count_more c.requires _ c.block_cells.ensures)

pub block_cells-requires-in-D : goal.block_cells-requires-in-D
block_cells-requires-in-D c = has_block c.requires

pub overflow_sub-result-in-D : goal.overflow_sub-result-in-D
overflow_sub-result-in-D c = omega (arith, count_fewer c.requires _ c.block_cells-in-D.ensures c.in-D.is)

pub overflow_sub-result-in-D-2 : goal.overflow_sub-result-in-D-2
overflow_sub-result-in-D-2 c = omega (arith, count_fewer c.requires _ c.block_cells-in-D.ensures c.in-D.is)

pub returns-in-A : goal.returns-in-A
returns-in-A c = λ f q q' k. omega (arith, size_a k c.in-A.is)

pub returns-in-B : goal.returns-in-B
returns-in-B c = λ f q q' k. omega (arith, size-b k c.in-B.is)

pub returns-in-C : goal.returns-in-C
returns-in-C c = λ f q q' k. size_c k _ c.block_cells.ensures c.in-C.is

pub returns-in-D : goal.returns-in-D
returns-in-D c = λ f q q' k. omega (arith, size_d k _ c.block_cells-in-D.ensures c.in-D.is)
