-- `rule_a`: the older block goes behind the contents of the newer one, which is then opened.
use Rattle.splices.proofs.Chained.{spliced_cell, spliced_close, spliced_port}
use Rattle.rewrites.proofs.Turns.{newer_small, rule_a_holds, two_before, two-last, two_leaves, two_newer, two-older, two-small}
use Rattle.rewrites.proofs.rule_a.Goals as goal

pub last_port-last-requires : goal.last_port-last-requires
last_port-last-requires c = two_leaves c.requires

pub move_block-requires : goal.move_block-requires
move_block-requires c = (two_before c.requires, two-last c.requires _ c.last_port-last.ensures, two-older c.requires)

pub close-requires : goal.close-requires
close-requires c = search (two-small, newer_small)

pub unwrap-requires : goal.unwrap-requires
unwrap-requires c = (
  spliced_port c.move_block.ensures (two_before c.requires),
  search (spliced_close, two-older, two_newer),
  spliced_cell c.move_block.ensures (two_newer c.requires),
)

pub returns-clause-changed : goal.returns-clause-changed
returns-clause-changed c =
    rule_a_holds _ _ _ _ _ c.last_port-last.ensures c.close.ensures c.move_block.ensures c.unwrap.ensures
