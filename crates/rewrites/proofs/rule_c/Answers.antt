-- `rule_c`: the copy goes behind the block.
use Rattle.splices.proofs.Chained.{close_low}
use Rattle.rewrites.proofs.Turns.{copied_after, copy_low, copy_small, one_copyable, one-small, rule_c_holds}
use Rattle.rewrites.proofs.rule_c.Goals as goal

pub copy_block-copy-requires : goal.copy_block-copy-requires
copy_block-copy-requires c = one_copyable c.requires

pub close-requires : goal.close-requires
close-requires c = one-small c.requires

pub start-requires : goal.start-requires
start-requires c = copy_small c.requires c.copy_block-copy.new.held _ c.copy_block-copy.ensures.made

pub close-requires-2 : goal.close-requires-2
close-requires-2 c = copy_small c.requires c.copy_block-copy.new.held _ c.copy_block-copy.ensures.made

pub put_in-requires : goal.put_in-requires
put_in-requires c =
    let made = c.copy_block-copy.ensures in
    (copied_after c.requires c.copy_block-copy.new.held _ made.made made.same _ c.close.ensures, close_low (copy_low c.requires c.copy_block-copy.new.held _ made.made) c.close-2.ensures)

pub returns-clause-changed : goal.returns-clause-changed
returns-clause-changed c =
    rule_c_holds c.requires c.copy_block-copy.new.held _ c.copy_block-copy.ensures.made _ _ _ c.close.ensures c.start.ensures c.close-2.ensures c.put_in.ensures
