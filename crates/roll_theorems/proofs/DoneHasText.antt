-- No job reads as done without its text.
use Prim.Native.Nat.{ℕ}
use mathlib.Core.Path.{◌≡◌, refl, ap, ap₂, sym, ◌∙◌}
use mathlib.Core.Bool.{Bool, true, false, cond}
use Rattle.std.specs.Prelude.{Option, None, Some}
use mathlib.Core.List.{List, [], ◌∷◌, ◌++◌, append_assoc, reverse, reverse-append, reverse-cons, reverse-reverse, reverse_aux}
use native.Mathlib.Omega.{arith}
use Rattle.kinds.specs.Limits.{cell_limit}
use Rattle.plan.specs.Plan.{bare}
use Rattle.rules.specs.Rewriting.{finished}
use Rattle.kinds.specs.Limits.{standard}
use Rattle.rules.proofs.Rewrites.{finished-relabel, finished_when}
use Rattle.kinds.proofs.Tests.{never}
use Rattle.roll_format.specs.Format.{DONE, Entry, EntrySays, FILED, NEITHER, says}
use Rattle.stored.specs.Same.{same}
use Rattle.roll_rules.specs.Rules.{DONE_AT, FILED_AT, JobStanding, after_done, broken, fault_of, is_finished, newest, standing, unfinished}
use Rattle.roll_rules.specs.declared.RollRefusal.{RollRefusal}
use Rattle.roll_rules.specs.declared.RollRefusal.TheVariants.{AlreadyDone}
use Rattle.roll_rules.proofs.Rules.{done_fine, entry_fine, filed_fine, finished_when_fine, first_fine, said_fine}
use Rattle.stored.proofs.Same.{same_equal, same_self}
use Rattle.demands.specs.Terms.{Bare, NoRuleApplies, Reads}
use Rattle.roll_theorems.specs.Terms.{HasText, NoneOf, RollReads, of_job}
use Rattle.roll_rules.proofs.Sound.{reads_before}
use Rattle.roll_rules.proofs.Texts.{finished-text}

-- the entry by which a job stands filed: it is the newest of that job
record FiledBy (job : List ℕ) (earlier : List Entry) (text : List ℕ) : Type 0 where
  newer : List Entry
  filing : Entry
  older : List Entry
  split : earlier ≡ newer ++ filing ∷ older
  files : says filing.parts ≡ FILED job text
  silent : NoneOf job newer

filing-of : (job : List ℕ) (earlier : List Entry) {place : ℕ} {text : List ℕ} → standing job earlier ≡ FILED_AT place text → FiledBy job earlier text
unfolding standing newest of_job
filing-of job [] e = never cc
filing-of job (e ∷ earlier) {place} {text} h = go (says e.parts) refl h (filing-of job earlier)
  where
    skip : of_job job (says e.parts) ≡ false → FiledBy job earlier text → FiledBy job (e ∷ earlier) text
    skip other f =
        record { newer = e ∷ f.newer; filing = f.filing; older = f.older; split = ap (e ∷◌) f.split; files = f.files; silent = (other, f.silent) }

    by_filed : (j t : List ℕ) → says e.parts ≡ FILED j t → (b : Bool) → same j job ≡ b → cond b (FILED_AT e.place t) (standing job earlier) ≡ FILED_AT place text
        → (standing job earlier ≡ FILED_AT place text → FiledBy job earlier text) → FiledBy job (e ∷ earlier) text
    by_filed j t is true so h older =
        let text_is : t ≡ text = cc in
        record { newer = []; filing = e; older = earlier; split = refl; files = is ∙ ap₂ FILED (same_equal j job so) text_is; silent = tt }
    by_filed j t is false so h older = skip (ap (of_job job) is ∙ so) (older h)

    by_done : (j : List ℕ) → says e.parts ≡ DONE j → (b : Bool) → same j job ≡ b → cond b (DONE_AT e.place) (standing job earlier) ≡ FILED_AT place text
        → (standing job earlier ≡ FILED_AT place text → FiledBy job earlier text) → FiledBy job (e ∷ earlier) text
    by_done j is true so h older = never cc
    by_done j is false so h older = skip (ap (of_job job) is ∙ so) (older h)

    go : (s : EntrySays) → says e.parts ≡ s → newest job e.place s (standing job earlier) ≡ FILED_AT place text
        → (standing job earlier ≡ FILED_AT place text → FiledBy job earlier text) → FiledBy job (e ∷ earlier) text
    go (FILED j t) is h older = by_filed j t is (same j job) refl h older
    go (DONE j) is h older = by_done j is (same j job) refl h older
    go NEITHER is h older = skip (ap (of_job job) is) (older h)

-- nothing of a job stands behind its DONE
silent_after : (job : List ℕ) (earlier after : List Entry) {place : ℕ} → standing job earlier ≡ DONE_AT place → broken standard earlier after ≡ None → NoneOf job after
unfolding standing of_job newest after_done unfinished
silent_after job earlier [] stands h = tt
silent_after job earlier (e ∷ after) {place} stands h =
    let (fine, more) = first_fine standard earlier e after h in
    let differs = other (says e.parts) (said_fine standard earlier e fine refl) in
    (differs, silent_after job (e ∷ earlier) after (still (says e.parts) differs) more)
  where
    not_same : (j : List ℕ) (wrong : JobStanding → Option RollRefusal) → wrong (DONE_AT place) ≡ Some (AlreadyDone place) → wrong (standing j earlier) ≡ None
        → (b : Bool) → same j job ≡ b → b ≡ false
    not_same j wrong after fine false so = refl
    not_same j wrong after fine true so =
        let clash : Some (AlreadyDone place) ≡ None = sym after ∙ ap wrong (sym stands ∙ ap (λ k. standing k earlier) (sym (same_equal j job so))) ∙ fine in never cc

    other : (s : EntrySays) → fault_of standard earlier e.place s ≡ None → of_job job s ≡ false
    other (FILED j t) fine = not_same j after_done refl (filed_fine standard earlier e.place j t fine).2 (same j job) refl
    other (DONE j) fine = not_same j (unfinished standard) refl (done_fine standard earlier e.place j fine).1 (same j job) refl
    other NEITHER fine = refl

    still : (s : EntrySays) → of_job job s ≡ false → newest job e.place s (standing job earlier) ≡ DONE_AT place
    still (FILED j t) differs = rw differs stands
    still (DONE j) differs = rw differs stands
    still NEITHER differs = stands

-- a text that stands filed and finished
record FinishedText (text : List ℕ) : Type 0 where
  plan : Bare
  reads : Reads cell_limit text plan
  finished : NoRuleApplies plan

finished_reads : (text : List ℕ) → is_finished standard text ≡ true → FinishedText text
finished_reads text e =
    let (a, stuck) = finished-text standard text e in
    record {
      plan = bare a.plan;
      reads = record { within = omega arith; placed = a.plan; accepted = a.accepted; same = refl };
      finished = (finished_when (bare a.plan)).0 (finished-relabel (λ l. tt) a.plan ∙ stuck);
    }

none_of_reverse : (job : List ℕ) (es acc : List Entry) → NoneOf job es → NoneOf job acc → NoneOf job (reverse_aux es acc)
none_of_reverse job [] acc h a = a
none_of_reverse job (e ∷ es) acc (one, more) a = none_of_reverse job es (e ∷ acc) more (one, a)

turned : (before newer older : List Entry) (f : Entry) → reverse before ≡ newer ++ f ∷ older → before ≡ reverse older ++ f ∷ reverse newer
turned before newer older f e =
    sym (reverse-reverse before) ∙ ap reverse e ∙ reverse-append newer (f ∷ older) ∙ ap (◌++ reverse newer) (reverse-cons f older) ∙ append_assoc (reverse older) (f ∷ []) (reverse newer)

stands_done : (job : List ℕ) (e : Entry) (earlier : List Entry) → says e.parts ≡ DONE job → standing job (e ∷ earlier) ≡ DONE_AT e.place
unfolding standing newest
stands_done job e earlier is = ap (λ s. newest job e.place s (standing job earlier)) is ∙ rw (same_self job) refl

-- a theorem of the roll
pub done_has_text : (roll : List ℕ) (before after : List Entry) (e : Entry) {end : ℕ} → RollReads roll (before ++ e ∷ after) end → (job : List ℕ) → says e.parts ≡ DONE job
    → HasText job before after
done_has_text roll before after e r job is =
    let (fine, later) = entry_fine standard before e after (reads_before roll r).obeyed in
    let (its_job, may) = done_fine standard (reverse before) e.place job (said_fine standard (reverse before) e fine is) in
    let (place, text, stands, finished) = finished_when_fine standard (standing job (reverse before)) may in
    let f = filing-of job (reverse before) stands in
    let t = finished_reads text finished in
    record {
      earlier = reverse f.older;
      filing = f.filing;
      between = reverse f.newer;
      split = turned before f.newer f.older f.filing f.split;
      text = text;
      files = f.files;
      plan = t.plan;
      reads = t.reads;
      finished = t.finished;
      none_between = none_of_reverse job f.newer [] f.silent tt;
      none_after = silent_after job (e ∷ reverse before) after (stands_done job e (reverse before) is) later;
    }
