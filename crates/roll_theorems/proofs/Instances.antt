-- No word of the roll's theorems is empty: an instance of each, on one roll and on bytes that are no roll. In the roll, P6's text, run to
-- its end, is filed as job 7 and marked done. Behind that, P7's text is filed as job 07, which cannot be marked done.
use Prim.Native.Nat.{ℕ}
use mathlib.Core.Path.{◌≡◌, refl, ap, ap₂}
use mathlib.Core.List.{List, [], ◌∷◌, ◌++◌}
use native.Mathlib.Omega.{arith}
use lib.ListN.{take, replicate}
use Rattle.std.specs.Prelude.{Ok, Err}
use Rattle.numbers.specs.Rows.{bytes}
use Rattle.roll_format.specs.Format.{Entry, says}
use Rattle.roll_rules.proofs.Worked.{rolling}
use Rattle.roll_rules.specs.Rules.{counts_done, counts_filed, done, filed, is_new, newest, standing}
use Rattle.stored.specs.Same.{same}
use Rattle.roll_rules.specs.Answers.{RollAnswer, close_job, edition_1, file, roll_numbers}
use Rattle.roll_rules.specs.declared.RollRefusal.TheVariants.{BadRoll, BadText, Unfinished}
use Rattle.roll_rules.specs.declared.Tally.{Tally}
use Rattle.roll_read.specs.Calls.{Lists}
use Rattle.roll_add.specs.Calls.{Adds}
use Rattle.turnip.specs.RollArrays.{AddsInArray, five_of_roll}
use Rattle.demands.proofs.Instances as demanded
use Rattle.demands.specs.Terms.{READ}
use Rattle.roll_theorems.specs.Terms.{FiledLast, HasText, ListedAs, OneMore, RollReads, TallyOf, Unchanged, Unlisted, entry_end, sections_size, torn_from, whole_in}
use Rattle.roll_theorems.proofs.Cut.{cut_reads}
use Rattle.roll_theorems.proofs.DoneHasText.{done_has_text}
use Rattle.roll_theorems.proofs.Kept.{done_is_last, done_refused, filed_is_last}
use Rattle.roll_theorems.proofs.Listed.{read-refused, reads_listed}
use Rattle.roll_theorems.proofs.RunsFiled.{done_can_be_marked}

abbrev job : List ℕ
job = bytes "7"

abbrev other_job : List ℕ
other_job = bytes "07"

abbrev ended : List ℕ
ended = bytes "[{y}][{x}]"

abbrev p7 : List ℕ
p7 = bytes "[{x}][[{y}]]a"

-- the bytes of the three entries, and a roll of them in a buffer of 70
abbrev first_filed : List ℕ
first_filed = 2 ∷ 0 ∷ 0 ∷ 0 ∷ 1 ∷ 0 ∷ 0 ∷ 0 ∷ job ++ 10 ∷ 0 ∷ 0 ∷ 0 ∷ ended

abbrev then_done : List ℕ
then_done = 1 ∷ 0 ∷ 0 ∷ 0 ∷ 1 ∷ 0 ∷ 0 ∷ 0 ∷ job

abbrev last_filed : List ℕ
last_filed = 2 ∷ 0 ∷ 0 ∷ 0 ∷ 2 ∷ 0 ∷ 0 ∷ 0 ∷ other_job ++ 13 ∷ 0 ∷ 0 ∷ 0 ∷ p7

abbrev buffer : List ℕ
buffer = replicate 70 7

abbrev one : List ℕ
one = 1 ∷ first_filed ++ replicate 46 7

abbrev two : List ℕ
two = 1 ∷ first_filed ++ then_done ++ replicate 37 7

abbrev three : List ℕ
three = 1 ∷ first_filed ++ then_done ++ last_filed ++ replicate 10 7

-- a text with an annotation, and an entry that has it
abbrev annotated : List ℕ
annotated = bytes "{&}"

abbrev annotated_filed : List ℕ
annotated_filed = 2 ∷ 0 ∷ 0 ∷ 0 ∷ 1 ∷ 0 ∷ 0 ∷ 0 ∷ job ++ 3 ∷ 0 ∷ 0 ∷ 0 ∷ annotated

abbrev tally : (filed done : ℕ) → Tally
tally f d = record { filed = f; done = d }

abbrev listed : (entries filed done end : ℕ) → RollAnswer
listed n f d e = Ok (record { entries = n; filed = f; done = d; end = e })

pub calls : Adds (file edition_1 buffer 0 job ended) (tally 0 0) (listed 1 1 0 24) one (tally 1 0)
    × Adds (close_job edition_1 one 24 job) (tally 1 0) (listed 2 1 1 33) two (tally 1 1)
    × Adds (file edition_1 two 33 other_job p7) (tally 1 1) (listed 3 2 1 60) three (tally 2 1)
    × Adds (close_job edition_1 three 60 other_job) (tally 2 1) (Err (Unfinished 33)) three (tally 2 1)
    × Lists (take 60 three) (replicate 4 9) (listed 3 2 1 60) (1 ∷ 24 ∷ 33 ∷ 9 ∷ []) × Lists buffer (replicate 4 9) (Err (BadRoll 0)) (replicate 4 9)
    × Adds (file edition_1 one 24 other_job annotated) (tally 1 0) (Err BadText) one (tally 1 0)
    × Lists (1 ∷ annotated_filed) (replicate 4 9) (Err (BadRoll 1)) (replicate 4 9)
unfolding rolling bytes
calls = (
  record { answer = refl; bytes = refl; filed = refl; done = refl },
  record { answer = refl; bytes = refl; filed = refl; done = refl },
  record { answer = refl; bytes = refl; filed = refl; done = refl },
  record { answer = refl; bytes = refl; filed = refl; done = refl },
  record { answer = refl; places = refl },
  record { answer = refl; places = refl },
  record { answer = refl; bytes = refl; filed = refl; done = refl },
  record { answer = refl; places = refl },
)

-- each entry, with its place
abbrev filing : Entry
filing = record { place = 1; parts = job ∷ ended ∷ [] }

abbrev closing : Entry
closing = record { place = 24; parts = job ∷ [] }

abbrev later : Entry
later = record { place = 33; parts = other_job ∷ p7 ∷ [] }

-- the first of them over the C interface
pub an_adding_in_array : AddsInArray (file edition_1 buffer 0 job ended) (0 ∷ 0 ∷ []) one (1 ∷ 0 ∷ []) (3 ∷ 1 ∷ 1 ∷ 0 ∷ 24 ∷ [])
an_adding_in_array =
    record {
      told = ap (λ r. five_of_roll (roll_numbers r)) calls.0.answer;
      bytes = calls.0.bytes;
      counts = ap₂ (λ f d. f ∷ d ∷ []) calls.0.filed calls.0.done;
    }

-- `RollReads`, of the whole and of a part that is cut in the last entry
pub a_roll : RollReads (take 60 three) (filing ∷ closing ∷ later ∷ []) 60 × RollReads (take 59 three) (filing ∷ closing ∷ []) 33
    × RollReads (take 24 one) (filing ∷ []) 24
unfolding rolling whole_in torn_from entry_end sections_size bytes
a_roll = (refl, cut_reads (take 60 three) {es = filing ∷ closing ∷ later ∷ []} {end = 60} refl 59, refl)

-- `ListedAs` and `Unlisted`
pub a_listing : ListedAs (filing ∷ closing ∷ later ∷ []) 60 (replicate 4 9) (listed 3 2 1 60) (1 ∷ 24 ∷ 33 ∷ 9 ∷ []) × Unlisted (replicate 4 9) (Err (BadRoll 0)) (replicate 4 9)
a_listing = (reads_listed calls.4 (filing ∷ closing ∷ later ∷ []) 60 a_roll.0 (omega arith), read-refused calls.5 (λ e. omega arith))

-- `HasText`: the DONE stands behind its text
pub a_done_with_text : HasText job (filing ∷ []) (later ∷ [])
unfolding says
a_done_with_text = done_has_text (take 60 three) (filing ∷ []) (later ∷ []) closing a_roll.0 job refl

-- `OneMore`, of both kinds of entry; `Unchanged`
pub entries_added : OneMore buffer 0 (job ∷ ended ∷ []) (listed 1 1 0 24) one × OneMore one 24 (job ∷ []) (listed 2 1 1 33) two
entries_added = (filed_is_last buffer 0 job ended calls.0 refl, done_is_last one 24 job calls.1 refl)

pub an_entry-refused : Unchanged three (tally 2 1) (Err (Unfinished 33)) three (tally 2 1)
an_entry-refused = done_refused three 60 other_job calls.3 (λ e. omega arith)

-- `TallyOf`: no jobs at first; then one filed, and done; then another filed
pub tallies : TallyOf (tally 0 0) [] × TallyOf (tally 1 0) (filing ∷ []) × TallyOf (tally 1 1) (filing ∷ closing ∷ []) × TallyOf (tally 2 1) (filing ∷ closing ∷ later ∷ [])
unfolding filed done counts_filed counts_done says is_new standing newest same bytes
tallies = (
  record { jobs_filed = refl; jobs_done = refl },
  record { jobs_filed = refl; jobs_done = refl },
  record { jobs_filed = refl; jobs_done = refl },
  record { jobs_filed = refl; jobs_done = refl },
)

-- `FiledLast`; and a run's DONE text, filed and marked done
pub a_last-filing : FiledLast job ended (filing ∷ []) 1
unfolding standing newest says same bytes
a_last-filing = refl

pub a_run_marked_done : (roll_numbers (listed 2 1 1 33)).number ≡ READ
unfolding bytes
a_run_marked_done =
    done_can_be_marked (demanded.calls).0 (demanded.a_done_run).0 one 24 job a_roll.2 a_last-filing (omega arith) calls.1 refl (λ e. omega arith)
