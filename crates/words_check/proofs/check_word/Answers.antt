-- `check_word`: the name and the text are found, and each is tested.
use Rattle.std.proofs.Common.{ap, sym, ◌∙◌}
use Rattle.kinds.specs.Limits.{standard}
use Rattle.plan.specs.Read.{acceptable}
use Rattle.stored.proofs.Pairs.{two_counted_found}
use Rattle.words_meaning.proofs.Word.{word_lost}
use Rattle.words_check.specs.Checking.{is_new_name}
use Rattle.words_check.proofs.Fitting.{fit-there, unfit_cut, unfit_name, unfit_text}
use Rattle.words_check.proofs.check_word.Goals as goal

pub returns-in_err-name : goal.returns-in_err-name
returns-in_err-name c = rw c.from_residual.ensures (unfit_cut c.args.shelf.now.list.now _ c.args.at (word_lost _ _ (sym c.two_counted_at.ensures ∙ c.in_err-name.was)))

pub part-requires : goal.part-requires
part-requires c = (two_counted_found _ _ (sym c.two_counted_at.ensures ∙ c.in_ok-name.was)).within

pub returns-then-not-is_new_name : goal.returns-then-not-is_new_name
returns-then-not-is_new_name c =
    unfit_name _ _ _ (sym c.two_counted_at.ensures ∙ c.in_ok-name.was) (c.is_new_name.ensures ∙ ap (is_new_name _) c.part.ensures) c.if-not-is_new_name.true

pub part-requires-2 : goal.part-requires-2
part-requires-2 c = (two_counted_found _ _ (sym c.two_counted_at.ensures ∙ c.in_ok-name.was)).within₂

pub returns-then-not-is_acceptable : goal.returns-then-not-is_acceptable
returns-then-not-is_acceptable c =
    unfit_text _ _ _ (sym c.two_counted_at.ensures ∙ c.in_ok-name.was) (c.is_new_name.ensures ∙ ap (is_new_name _) c.part.ensures)
    (c.is_acceptable.ensures ∙ ap (acceptable standard) c.part-2.ensures) c.if-not-is_acceptable.true

pub returns : goal.returns
returns c =
    fit-there _ _ _ (sym c.two_counted_at.ensures ∙ c.in_ok-name.was) (c.is_new_name.ensures ∙ ap (is_new_name _) c.part.ensures) c.if-not-is_new_name.false
    (c.is_acceptable.ensures ∙ ap (acceptable standard) c.part-2.ensures) c.if-not-is_acceptable.false
