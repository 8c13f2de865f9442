-- What the entries of a roll must obey, and what they add up to. Nothing here looks at the roll's bytes. Earlier entries are given the
-- newest first.
use Rattle.std.specs.Prelude.{ℕ, suc, Bool, true, false, cond, ◌&&◌, List, [], ◌∷◌, leb, ltb, length}
use Rattle.std.specs.Prelude.{Option, None, Some}
use Rattle.plan.specs.Options.{is_none}
use Rattle.plan.specs.Plan.{print}
use Rattle.plan.specs.Reading.{plan_of}
use Rattle.rules.specs.Rewriting.{finished}
use Rattle.kinds.specs.Limits.{Limits}
use Rattle.plan.specs.Read.{acceptable}
use Rattle.stored.specs.Same.{same}
use Rattle.roll_rules.specs.declared.RollRefusal.{RollRefusal}
use Rattle.roll_rules.specs.declared.RollRefusal.TheVariants.{BadRoll, BadJob, BadText, AlreadyDone, Unfiled, Unfinished}
use Rattle.roll_format.specs.Format.{DONE, Entry, EntrySays, FILED, NEITHER, says}

-- a job number: 1 to 10 bytes `0` to `9`
abbrev pub job_limit : ℕ
job_limit = 10

unfoldable pub digits : List ℕ → Bool
digits [] = true
digits (b ∷ bs) = (leb 48 b && leb b 57) && digits bs

unfoldable pub is_job : List ℕ → Bool
is_job job = (ltb 0 (length job) && leb (length job) job_limit) && digits job

-- an acceptable text that is the printed text of its plan, and one whose plan has no ready operator
unfoldable pub is_printed : Limits → List ℕ → Bool
is_printed lim text = acceptable lim text && same text (print (plan_of lim.token text))

unfoldable pub is_finished : Limits → List ℕ → Bool
is_finished lim text = acceptable lim text && finished (plan_of lim.token text)

-- how a job stands: no FILED, or its last FILED's place and text, or its DONE's place
pub data JobStanding : Type 0 where
  UNFILED : JobStanding
  FILED_AT : (place : ℕ) → (text : List ℕ) → JobStanding
  DONE_AT : (place : ℕ) → JobStanding

unfoldable pub newest : (job : List ℕ) → (place : ℕ) → EntrySays → JobStanding → JobStanding
newest job place (FILED j t) older = cond (same j job) (FILED_AT place t) older
newest job place (DONE j) older = cond (same j job) (DONE_AT place) older
newest job place NEITHER older = older

unfoldable pub standing : (job : List ℕ) → (earlier : List Entry) → JobStanding
standing job [] = UNFILED
standing job (e ∷ earlier) = newest job e.place (says e.parts) (standing job earlier)

-- a FILED and a DONE are both refused after that job's DONE
unfoldable pub after_done : JobStanding → Option RollRefusal
after_done UNFILED = None
after_done (FILED_AT place text) = None
after_done (DONE_AT place) = Some (AlreadyDone place)

-- DONE is refused unless that job's last FILED text has no ready operator
unfoldable pub unfinished : Limits → JobStanding → Option RollRefusal
unfinished lim UNFILED = Some Unfiled
unfinished lim (FILED_AT place text) = cond (is_finished lim text) None (Some (Unfinished place))
unfinished lim (DONE_AT place) = Some (AlreadyDone place)

-- What is wrong with an entry behind the earlier ones, in the order in which it is asked. Nothing is wrong with an entry that obeys the
-- rules. The reader refuses a roll by the place of an entry with which something is wrong; adding tells what is wrong with a new entry.
unfoldable pub fault_of : Limits → (earlier : List Entry) → (place : ℕ) → EntrySays → Option RollRefusal
fault_of lim earlier place (FILED job text) =
    cond (is_job job) (cond (is_printed lim text) (after_done (standing job earlier)) (Some BadText)) (Some BadJob)
fault_of lim earlier place (DONE job) = cond (is_job job) (unfinished lim (standing job earlier)) (Some BadJob)
fault_of lim earlier place NEITHER = Some (BadRoll place)

unfoldable pub fault : Limits → (earlier : List Entry) → Entry → Option RollRefusal
fault lim earlier e = fault_of lim earlier e.place (says e.parts)

-- the place of the first entry that breaks a rule
unfoldable pub broken : Limits → (earlier es : List Entry) → Option ℕ
broken lim earlier [] = None
broken lim earlier (e ∷ es) = cond (is_none (fault lim earlier e)) (broken lim (e ∷ earlier) es) (Some e.place)

-- jobs with a FILED entry, each once; and jobs with a DONE
unfoldable pub is_new : JobStanding → Bool
is_new UNFILED = true
is_new (FILED_AT place text) = false
is_new (DONE_AT place) = false

unfoldable pub counts_filed : (earlier : List Entry) → EntrySays → Bool
counts_filed earlier (FILED job text) = is_new (standing job earlier)
counts_filed earlier (DONE job) = false
counts_filed earlier NEITHER = false

unfoldable pub counts_done : EntrySays → Bool
counts_done (FILED job text) = false
counts_done (DONE job) = true
counts_done NEITHER = false

unfoldable pub filed : (earlier : List Entry) → ℕ
filed [] = 0
filed (e ∷ earlier) = cond (counts_filed earlier (says e.parts)) (suc (filed earlier)) (filed earlier)

unfoldable pub done : (earlier : List Entry) → ℕ
done [] = 0
done (e ∷ earlier) = cond (counts_done (says e.parts)) (suc (done earlier)) (done earlier)
