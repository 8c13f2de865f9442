-- What a call over the C interface did with a roll: what a call of its service did, with the answer told by five numbers.
use Rattle.std.specs.Prelude.{ℕ, ◌≡◌, Bool, List, [], ◌∷◌, get_or, set, Ok, Err}
use Rattle.roll_rules.specs.Answers.{Added, EntryAnswer, close_job, edition_1, entry_number, file, grown, roll_numbers}
use Rattle.roll_rules.specs.declared.RollNumbers.{RollNumbers}

-- the order in which the array has them
abbrev pub five_of_roll : RollNumbers → List ℕ
five_of_roll n = n.number ∷ n.entries ∷ n.filed ∷ n.done ∷ n.place ∷ []

-- one entry: the number, then where its job number and its text stand, and their bytes
abbrev pub entry_five : (number : ℕ) → EntryAnswer → List ℕ
entry_five number (Ok f) = number ∷ f.job ∷ f.job_bytes ∷ f.text ∷ f.text_bytes ∷ []
entry_five number (Err why) = number ∷ 0 ∷ 0 ∷ 0 ∷ 0 ∷ []

abbrev pub five_of_entry : EntryAnswer → List ℕ
five_of_entry a = entry_five (entry_number a) a

-- adding: the tally's two numbers are jobs filed and jobs done
abbrev pub tally_set : List ℕ → (filed done : ℕ) → List ℕ
tally_set tally filed done = set (set tally 0 filed) 1 done

abbrev pub tally_grown : List ℕ → (more_filed more_done : Bool) → List ℕ
tally_grown tally more_filed more_done = tally_set tally (grown more_filed (get_or tally 0 0)) (grown more_done (get_or tally 1 0))

pub record AddsInArray (a : Added) (tally buffer' tally' array : List ℕ) : Type 0 where
  pub told : array ≡ five_of_roll (roll_numbers a.answer)
  pub bytes : buffer' ≡ a.buffer
  pub counts : tally' ≡ tally_grown tally a.more_filed a.more_done

-- the same of a FILED and of a DONE
abbrev pub FilesInArray : (roll : List ℕ) → (used : ℕ) → (job text tally roll' tally' array : List ℕ) → Type 0
FilesInArray roll used job text tally roll' tally' array = AddsInArray (file edition_1 roll used job text) tally roll' tally' array

abbrev pub ClosesInArray : (roll : List ℕ) → (used : ℕ) → (job tally roll' tally' array : List ℕ) → Type 0
ClosesInArray roll used job tally roll' tally' array = AddsInArray (close_job edition_1 roll used job) tally roll' tally' array
