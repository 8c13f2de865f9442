-- What linking answers and what it leaves, for every input.
use Rattle.std.specs.Prelude.{ℕ, cond, List, leb, Result, Ok, Err}
use Rattle.kinds.specs.Limits.{Limits}
use Rattle.plan.specs.Outcomes.{Family, GIVES, Outcome, REFUSES}
use Rattle.plan.specs.Plan.{Plan, cells, print}
use Rattle.plan.specs.Read.{sized}
use Rattle.plan.specs.Reading.{FAULT, PLAN, Reading, read_text}
use Rattle.plan.specs.declared.Size.{Size}
use Rattle.numbers.specs.Numbers.{fault_numbers, given_numbers, outshort_numbers, refused_numbers}
use Rattle.numbers.specs.declared.Numbers.{Numbers}
use Rattle.words_meaning.specs.declared.LinkRefusal.{LinkRefusal}
use Rattle.words_meaning.specs.declared.LinkRefusal.TheVariants.{BadWords, Text, Overfull, OutShort}
use Rattle.words_meaning.specs.Linking.{Word, link_plan, stands_for}
use Rattle.words_meaning.specs.Stock.{LIST_FAULT as LIST_FAULT, Stock, WORDS, stock}

-- What linking answers. A refusal has no cells and no length.
abbrev pub LinkAnswer : Type 0
LinkAnswer = Result Size LinkRefusal

abbrev pub link_refusal_numbers : LinkRefusal → Numbers
link_refusal_numbers (BadWords rank) = refused_numbers 26 rank
link_refusal_numbers (Text f) = fault_numbers f
link_refusal_numbers Overfull = refused_numbers 17 0
link_refusal_numbers (OutShort needed) = outshort_numbers needed

abbrev pub link_numbers : LinkAnswer → Numbers
link_numbers (Ok s) = given_numbers s.cells s.length
link_numbers (Err r) = link_refusal_numbers r

abbrev pub link_family : Family LinkRefusal (Unit {0}) Size
link_family = record { out_short = OutShort; given = λ u cells length. sized cells length }

-- A linked plan, where it is not too large. One that is too large is refused without a place, since it stands in no text yet.
unfoldable pub linked_within : Limits → Plan ℕ → Outcome LinkRefusal (Unit {0})
linked_within lim q = cond (leb (cells q) lim.cells) (GIVES tt (cells q) (print q)) (REFUSES Overfull)

-- how many cells the text has before it is linked does not matter
unfoldable pub link_read : Limits → List Word → Reading → Outcome LinkRefusal (Unit {0})
link_read lim ws (FAULT f) = REFUSES (Text f)
link_read lim ws (PLAN p) = linked_within lim (link_plan (stands_for lim.token ws) p)

-- the list's fault comes first
unfoldable pub link_by : Limits → Stock → (text : List ℕ) → Outcome LinkRefusal (Unit {0})
link_by lim (LIST_FAULT rank) text = REFUSES (BadWords rank)
link_by lim (WORDS ws) text = link_read lim ws (read_text lim text)

-- LINK before its output is looked at
unfoldable pub link_outcome : Limits → (list text : List ℕ) → Outcome LinkRefusal (Unit {0})
link_outcome lim list text = link_by lim (stock lim list) text
