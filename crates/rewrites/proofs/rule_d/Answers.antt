-- `rule_d`: the block is cut out, and its cells are freed.
use Rattle.splices.proofs.Chained.{close_low}
use Rattle.rewrites.proofs.Turns.{drop_before, drop_leaves, drop_low, drop-small, rule_d_holds}
use Rattle.rewrites.proofs.rule_d.Goals as goal

pub close-requires : goal.close-requires
close-requires c = drop-small c.requires

pub cut-requires : goal.cut-requires
cut-requires c = (drop_before c.requires, close_low (drop_low c.requires) c.close.ensures)

pub free_block-requires : goal.free_block-requires
free_block-requires c = drop_leaves _ _ _ c.close.ensures c.cut.ensures c.requires

pub returns-clause-changed : goal.returns-clause-changed
returns-clause-changed c = rule_d_holds _ _ _ c.close.ensures c.cut.ensures c.free_block.ensures.frees c.free_block.ensures.same
