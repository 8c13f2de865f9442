-- `check_list`: the words that fit and the least that is used early tell what the list is.
use Rattle.std.proofs.Common.{refl, sym, ◌∙◌, arith}
use Rattle.words_check.proofs.Verdict.{all_right, earliest_within, list_long, no_count, one_wrong, too_many}
use Rattle.words_check.proofs.check_list.Goals as goal

pub returns-in_default-clause-told : goal.returns-in_default-clause-told
returns-in_default-clause-told c = (0, refl, no_count _ (sym c.number_at.ensures ∙ c.in_default.is))

pub returns-then-count-gt-MOST-clause-told : goal.returns-then-count-gt-MOST-clause-told
returns-then-count-gt-MOST-clause-told c = (256, refl, too_many _ (sym c.number_at.ensures ∙ c.in-Some.is) c.if-count-gt-MOST.true)

pub shelve-fit-requires : goal.shelve-fit-requires
shelve-fit-requires c =
    record { few = c.if-count-gt-MOST.false; counted = list_long _ (sym c.number_at.ensures ∙ c.in-Some.is); room = c.requires }

pub overflow_cast-result-then-fault-fit : goal.overflow_cast-result-then-fault-fit
overflow_cast-result-then-fault-fit c =
    omega (arith, earliest_within c.args.list.now c.shelve-fit.new.words _ c.earliest-fault.ensures, c.shelve-fit.ensures.shelved.1)

pub returns-then-fault-fit-clause-told : goal.returns-then-fault-fit-clause-told
returns-then-fault-fit-clause-told c =
    (_, refl, one_wrong _ (sym c.number_at.ensures ∙ c.in-Some.is) c.if-count-gt-MOST.false _ _ c.shelve-fit.ensures.told c.earliest-fault.ensures c.then-fault-fit.either)

pub returns-clause-told : goal.returns-clause-told
returns-clause-told c =
    all_right _ (sym c.number_at.ensures ∙ c.in-Some.is) c.if-count-gt-MOST.false _ _ c.shelve-fit.ensures.told c.earliest-fault.ensures c.if-fault-fit.false c.if-not-whole.false
