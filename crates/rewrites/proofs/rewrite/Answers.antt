-- `rewrite`: the operator leaves the plan, then its rule is made.
use Rattle.std.proofs.Common.{rules}
use Rattle.rewrites.proofs.Rewriting.{finds_a, finds_b, finds_c, finds_d, makes_a, makes_b, makes_c, makes_d, newer_lent, operator_lent}
use Rattle.rewrites.proofs.rewrite.Goals as goal

pub remove_operator-requires : goal.remove_operator-requires
remove_operator-requires c = (newer_lent c.requires.rewrites, operator_lent c.requires.rewrites)

pub rule_a-requires : goal.rule_a-requires
rule_a-requires c = finds_a c.requires.rewrites c.remove_operator.ensures c.in-A.is

pub rule_b-requires : goal.rule_b-requires
rule_b-requires c = finds_b c.requires.rewrites c.remove_operator.ensures c.in-B.is

pub rule_c-requires : goal.rule_c-requires
rule_c-requires c = search (rules, finds_c c.requires.rewrites c.remove_operator.ensures)

pub rule_d-requires : goal.rule_d-requires
rule_d-requires c = search (rules, finds_d c.requires.rewrites c.remove_operator.ensures)

pub returns-in-A-clause-rewritten : goal.returns-in-A-clause-rewritten
returns-in-A-clause-rewritten c = λ f q q' r. makes_a r c.remove_operator.ensures c.in-A.is c.rule_a.ensures.changed

pub returns-in-B-clause-rewritten : goal.returns-in-B-clause-rewritten
returns-in-B-clause-rewritten c = λ f q q' r. makes_b r c.remove_operator.ensures c.in-B.is c.rule_b.ensures.changed

pub returns-in-C-clause-rewritten : goal.returns-in-C-clause-rewritten
returns-in-C-clause-rewritten c = λ f q q' r. makes_c r c.remove_operator.ensures c.in-C.is c.rule_c.ensures.changed

pub returns-in-D-clause-rewritten : goal.returns-in-D-clause-rewritten
returns-in-D-clause-rewritten c = λ f q q' r. makes_d r c.remove_operator.ensures c.in-D.is c.rule_d.ensures.changed
