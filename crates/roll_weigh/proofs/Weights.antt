-- What an entry weighs, by what the leaves found of it.
use Prim.Native.Nat.{ℕ, ◌≤◌}
use mathlib.Core.Path.{◌≡◌, refl, ap, sym, subst, ◌∙◌}
use mathlib.Core.Bool.{Bool, true, false, cond}
use Rattle.std.specs.Prelude.{None, Some}
use mathlib.Core.List.{List, [], ◌∷◌, reverse}
use native.Mathlib.Omega.{arith}
use Rattle.std.specs.Prelude.{Err}
use lib.ListN.{length}
use Rattle.kinds.specs.Limits.{standard, token_limit}
use Rattle.plan.specs.Plan.{Plan}
use Rattle.plan.specs.Pieces.{Shows, pieces}
use Rattle.plan.proofs.Acceptable.{AcceptableText}
use Rattle.rules.specs.Rewriting.{finished}
use Rattle.finished.specs.ShowsPlan.{ShowsPlan}
use Rattle.roll_format.specs.Format.{Entry, job_in, longest, parts_in, says}
use Rattle.roll_rules.specs.EntriesBefore.{EntriesBefore, HasEntriesBefore}
use Rattle.roll_rules.specs.Rules.{JobStanding, UNFILED, FILED_AT, DONE_AT, after_done, counts_done, counts_filed, fault, fault_of, is_finished, is_job, is_new, is_printed, standing, unfinished}
use Rattle.roll_format.specs.declared.NewEntry.{NewEntry}
use Rattle.roll_format.specs.declared.NewEntry.TheVariants.{Filed, Done}
use Rattle.roll_rules.specs.declared.RollRefusal.TheVariants.{AlreadyDone, BadJob, BadText, Unfiled, Unfinished}
use Rattle.roll_rules.proofs.Rules.{filed-right}
use Rattle.roll_rules.proofs.Texts.{finished_by_plan, printed-text}
use Rattle.roll_standing.specs.Looking.{StandingWithin, standing_told}
use Rattle.roll_standing.specs.declared.StandingAt.{StandingAt}
use Rattle.roll_weigh.specs.Weighed.{Weighed, fine, weighed_at, weighed_done, weighed_filed, weight_told}

-- a FILED

module _ (earlier : List Entry) (job text : List ℕ) {t : Bool} (told : t ≡ is_printed standard text) where
  pub not-printed : t ≡ false → Err BadText ≡ weighed_filed earlier job text
  unfolding weighed_filed
  not-printed h = sym (ap (λ (b : Bool). weight_told (cond b (after_done (standing job earlier)) (Some BadText)) (is_new (standing job earlier)) false) (sym told ∙ h))

  module _ (h : t ≡ true) where
    filed_by : (s : JobStanding) → s ≡ standing job earlier → weight_told (after_done s) (is_new s) false ≡ weighed_filed earlier job text
    unfolding weighed_filed
    filed_by s is =
        ap (λ (x : JobStanding). weight_told (after_done x) (is_new x) false) is
        ∙ sym (ap (λ (b : Bool). weight_told (cond b (after_done (standing job earlier)) (Some BadText)) (is_new (standing job earlier)) false) (sym told ∙ h))

    pub filed_new : UNFILED ≡ standing job earlier → fine true false ≡ weighed_filed earlier job text
    unfolding after_done is_new
    filed_new is = filed_by UNFILED is

    pub filed_again : {place : ℕ} {older : List ℕ} → FILED_AT place older ≡ standing job earlier → fine false false ≡ weighed_filed earlier job text
    unfolding after_done is_new
    filed_again {place} {older} is = filed_by (FILED_AT place older) is

    pub filed_after : {place : ℕ} → DONE_AT place ≡ standing job earlier → Err (AlreadyDone place) ≡ weighed_filed earlier job text
    unfolding after_done is_new
    filed_after {place} is = filed_by (DONE_AT place) is

-- a DONE

module _ (earlier : List Entry) (job : List ℕ) where
  done_by : (s : JobStanding) → s ≡ standing job earlier → weight_told (unfinished standard s) false true ≡ weighed_done earlier job
  unfolding weighed_done
  done_by s is = ap (λ (x : JobStanding). weight_told (unfinished standard x) false true) is

  pub done_unfiled : UNFILED ≡ standing job earlier → Err Unfiled ≡ weighed_done earlier job
  unfolding unfinished
  done_unfiled is = done_by UNFILED is

  pub done_again : {place : ℕ} → DONE_AT place ≡ standing job earlier → Err (AlreadyDone place) ≡ weighed_done earlier job
  unfolding unfinished
  done_again {place} is = done_by (DONE_AT place) is

  module _ {place : ℕ} {text : List ℕ} (is : FILED_AT place text ≡ standing job earlier) {u : Bool} (b : u ≡ is_finished standard text) where
    by_text : weight_told (cond u None (Some (Unfinished place))) false true ≡ weighed_done earlier job
    unfolding unfinished
    by_text = ap (λ (x : Bool). weight_told (cond x None (Some (Unfinished place))) false true) b ∙ done_by (FILED_AT place text) is

    pub done-finished : u ≡ true → fine false true ≡ weighed_done earlier job
    done-finished f = sym (ap (λ (x : Bool). weight_told (cond x None (Some (Unfinished place))) false true) f) ∙ by_text

    pub done-unfinished : u ≡ false → Err (Unfinished place) ≡ weighed_done earlier job
    done-unfinished f = sym (ap (λ (x : Bool). weight_told (cond x None (Some (Unfinished place))) false true) f) ∙ by_text

-- what was found of how the job stands; the text of a FILED of the roll was accepted already: it shows a plan, and is finished where
-- that plan is

pub stood : (roll job : List ℕ) {s x : StandingAt} (es : List Entry) → s ≡ x → standing_told roll s ≡ standing job (reverse es) → standing_told roll x ≡ standing job (reverse es)
stood roll job es is told = ap (standing_told roll) (sym is) ∙ told

pub stood_within : (roll : List ℕ) {s x : StandingAt} → s ≡ x → StandingWithin roll s → StandingWithin roll x
stood_within roll is w = subst (StandingWithin roll) is w

-- a place of the roll can be told
pub place-fits : {roll : List ℕ} {upto at : ℕ} → HasEntriesBefore roll upto → at ≤ length roll → at ≤ longest
place-fits b h = omega (arith, b.before.short)

module _ {roll : List ℕ} (job : List ℕ) {at : ℕ} {text : List ℕ} where
  filed-text : (es : List Entry) {upto : ℕ} → EntriesBefore roll es upto → FILED_AT at text ≡ standing job (reverse es) → AcceptableText standard text
  filed-text es b is = (printed-text standard text (filed-right standard job es b.obeyed (sym is)).its_text).0

  pub filed_shows : {upto : ℕ} (b : HasEntriesBefore roll upto) → FILED_AT at text ≡ standing job (reverse b.es) → ShowsPlan text
  filed_shows b is = let a = filed-text b.es b.before is in record { short = a.short; plan = a.plan; fits = a.fits; shows = a.shows }

  pub filed-finished : (es : List Entry) {upto : ℕ} → EntriesBefore roll es upto → FILED_AT at text ≡ standing job (reverse es)
      → {f : Bool} → ((p : Plan ℕ) → Shows token_limit 0 text (pieces p) → f ≡ finished p) → f ≡ is_finished standard text
  filed-finished es b is h =
      let a = filed-text es b is in h a.plan a.shows ∙ sym (finished_by_plan standard text a.accepted)

-- either kind

no_job_in : (earlier : List Entry) (place : ℕ) (e : NewEntry) → is_job (job_in e) ≡ false → Err BadJob ≡ weighed_at earlier place (parts_in e)
unfolding weighed_at fault fault_of says
no_job_in earlier place (Filed job text) h = sym (rw h refl)
no_job_in earlier place (Done job) h = sym (rw h refl)

module _ (earlier : List Entry) (place : ℕ) (e : NewEntry) {job : List ℕ} (its : job ≡ job_in e) {t : Bool} (told : t ≡ is_job job) where
  so : {b : Bool} → t ≡ b → is_job (job_in e) ≡ b
  so h = sym (ap is_job its) ∙ sym told ∙ h

  pub no_job : t ≡ false → Err BadJob ≡ weighed_at earlier place (parts_in e)
  no_job h = no_job_in earlier place e (so h)

  -- what the entry was found to be
  pub weighs_filed : t ≡ true → {j x : List ℕ} → job_in e ≡ j → parts_in e ≡ j ∷ x ∷ [] → {r : Weighed} → r ≡ weighed_filed earlier j x
      → r ≡ weighed_at earlier place (parts_in e)
  unfolding weighed_at weighed_filed fault fault_of says counts_filed counts_done
  weighs_filed h {j} {x} its_job its_parts is =
      let right : is_job j ≡ true = sym (ap is_job its_job) ∙ so h in
      let same : weighed_filed earlier j x ≡ weighed_at earlier place (j ∷ x ∷ []) = sym (rw right refl) in
      is ∙ same ∙ ap (weighed_at earlier place) (sym its_parts)

  pub weighs_done : t ≡ true → {j : List ℕ} → job_in e ≡ j → parts_in e ≡ j ∷ [] → {r : Weighed} → r ≡ weighed_done earlier j
      → r ≡ weighed_at earlier place (parts_in e)
  unfolding weighed_at weighed_done fault fault_of says counts_filed counts_done
  weighs_done h {j} its_job its_parts is =
      let right : is_job j ≡ true = sym (ap is_job its_job) ∙ so h in
      let same : weighed_done earlier j ≡ weighed_at earlier place (j ∷ []) = sym (rw right refl) in
      is ∙ same ∙ ap (weighed_at earlier place) (sym its_parts)
