-- `link`: the list's fault comes first.
use Rattle.std.proofs.lemmas.Result.{err_from_is_err_and}
use Rattle.read.proofs.Accepting.{found_counted, found_faulty}
use Rattle.words_link.proofs.Outcomes.{list_bad, text_bad, text_right}
use Rattle.words_shelf.proofs.Reading.{reads_readable}
use Rattle.words_link.proofs.link.Goals as goal

pub returns-in_err-shelf : goal.returns-in_err-shelf
returns-in_err-shelf c =
    let p = err_from_is_err_and c.from_residual.result c.from_residual.ensures.1 in
    let (rank, is, bad) = c.in_err-shelf.ensures.told in
    rw (p.1, p.2, is) (list_bad _ _ _ bad)

pub returns-in_err-survey_text : goal.returns-in_err-survey_text
returns-in_err-survey_text c =
    let p = err_from_is_err_and c.from_residual-in_err-survey_text.result c.from_residual-in_err-survey_text.ensures.1 in
    rw (p.1, p.2) (text_bad _ _ _ _ _ _ c.in_ok-shelf.ensures.told (found_faulty 0 _ c.in_err-survey_text.ensures))

pub link_readable-requires : goal.link_readable-requires
link_readable-requires c = record { few = c.in_ok-shelf.ensures.few; reads = reads_readable _ (found_counted 0 _ c.in_ok-survey_text.ensures).reads }

pub returns : goal.returns
returns c = text_right _ _ _ _ _ _ c.in_ok-shelf.ensures.told (found_counted 0 _ c.in_ok-survey_text.ensures).reads c.link_readable.ensures
