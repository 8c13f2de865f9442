-- The roll by computing: job 7 with the text `{x}` is filed in a roll of no bytes and then done. Whoever computes elsewhere what is wrong
-- with an entry writes `unfolding weighing`. Whoever computes reading or adding writes `unfolding rolling`. These open every word named
-- here, and the words of reading a text, of rewriting and of what is stored.
use Prim.Native.Nat.{ℕ}
use mathlib.Core.Path.{◌≡◌, refl}
use Rattle.std.specs.Prelude.{None}
use mathlib.Core.List.{List, [], ◌∷◌}
use lib.ListN.{replicate}
use Rattle.kinds.specs.Limits.{standard}
use Rattle.plan.specs.Options.{is_none}
use Rattle.plan.proofs.Worked.{read_answer}
use Rattle.rules.specs.Rewriting.{finished}
use Rattle.rules.proofs.Worked.{running}
use Rattle.stored.proofs.Worked.{storing}
use Rattle.roll_rules.specs.Answers.{ENTRIES, add, add_to, by_rules, close_job, edition_1, file, fill, grown, in_use, judged, listed_as, new_bytes, no_room, places, read_roll, unbroken, unless}
use Rattle.roll_format.specs.Format.{Entry, entry, entry_bytes, then_listed, listing, roll, says, sections, sections_bytes, with_first}
use Rattle.roll_rules.specs.Rules.{after_done, broken, counts_done, counts_filed, digits, done, fault, fault_of, filed, is_finished, is_job, is_new, is_printed, newest, standing, unfinished}

abbrev job : List ℕ
job = 0x37 ∷ []

abbrev text : List ℕ
text = 0x7B ∷ 0x78 ∷ 0x7D ∷ []

abbrev filing : Entry
filing = record { place = 1; parts = job ∷ text ∷ [] }

abbrev closing : Entry
closing = record { place = 17; parts = job ∷ [] }

unfoldable pub weighing : (fault standard [] filing ≡ None) × (fault standard (filing ∷ []) closing ≡ None)
unfolding running read_answer storing fault fault_of says digits is_job is_printed is_finished finished is_none standing newest after_done unfinished
weighing = (refl, refl)

-- the roll in the buffer behind the first of them, and behind both
abbrev one : List ℕ
one = (file edition_1 (replicate 26 0) 0 job text).buffer

abbrev both : List ℕ
both = (close_job edition_1 one 17 job).buffer

unfoldable pub rolling : ((close_job edition_1 one 17 job).answer ≡ listed_as (closing ∷ filing ∷ []) 26)
    × ((read_roll edition_1 both (0 ∷ 0 ∷ 0 ∷ [])).list ≡ 1 ∷ 17 ∷ 0 ∷ []) × (judged edition_1 both ≡ ENTRIES (filing ∷ closing ∷ []) 26)
unfolding weighing read_roll fill places file close_job add add_to in_use judged by_rules unbroken unless no_room broken is_new counts_filed counts_done filed done grown new_bytes entry_bytes sections_bytes roll listing then_listed with_first entry sections
rolling = (refl, refl, refl)
