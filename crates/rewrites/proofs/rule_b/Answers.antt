-- `rule_b`: the older block goes before the contents of the newer one.
use Rattle.splices.proofs.Chained.{port_low}
use Rattle.rewrites.proofs.Turns.{newer_small, rule_b-holds, two_before, two_newer, two-older, two-small}
use Rattle.rewrites.proofs.rule_b.Goals as goal

pub start-requires : goal.start-requires
start-requires c = search (newer_small, two-small)

pub move_block-requires : goal.move_block-requires
move_block-requires c = (two_before c.requires, search (port_low, two_newer, two-older), search (two-older, two_newer))

pub returns-clause-changed : goal.returns-clause-changed
returns-clause-changed c = rule_b-holds _ _ _ _ c.start.ensures c.move_block.ensures
