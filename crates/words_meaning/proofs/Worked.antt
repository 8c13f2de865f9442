-- The worked lists hold of the definitions, from the bytes of the list and of the text to the five numbers and every byte of the output.
-- Whoever computes what LINK says elsewhere writes `unfolding worked_lists`, which opens every word named here.
use mathlib.Core.Path.{◌≡◌, refl}
use mathlib.Core.List.{map}
use Rattle.numbers.specs.Rows.{bytes}
use Rattle.plan.proofs.Worked.{read_answer}
use Rattle.stored.proofs.Worked.{storing}
use Rattle.words_meaning.specs.Answers.{link_by, link_read, link_outcome, linked_within}
use Rattle.words_meaning.specs.Linking.{holds, in_place, link_plan, listed, stands_for, used}
use Rattle.words_meaning.specs.Stock.{as_counted, fits, is_name, next_word, right, stock, stocked, word}
use Rattle.words_meaning.specs.Worked.{link_told, link_expected, row_output, stored_list, worked_links}

unfoldable pub worked_lists : map link_told worked_links ≡ map link_expected worked_links
unfolding read_answer storing link_outcome link_by link_read linked_within stock as_counted stocked next_word right fits is_name word used listed holds stands_for link_plan in_place link_told link_expected row_output stored_list worked_links bytes
worked_lists = refl
