-- A run's DONE text, filed, can be marked done; a run's QUOTA or FULL text cannot. Said of RUN's own answers.
use Prim.Native.Nat.{ℕ, ◌+◌, ◌≤◌, ◌<◌}
use mathlib.Core.Path.{◌≡◌, refl, ap, sym, ◌∙◌}
use mathlib.Core.Logic.{◌≢◌, ◌↔◌}
use mathlib.Core.Bool.{Bool, true, false, cond}
use Rattle.std.specs.Prelude.{None, Some, Option}
use mathlib.Core.List.{List, [], ◌∷◌, ◌++◌, reverse, reverse-append}
use native.Mathlib.Omega.{arith}
use native.Mathlib.Decide.{dec_lt}
use borrow.Author.Tests.{le-ltb}
use lib.ListN.{length, take}
use Rattle.kinds.specs.Limits.{cell_limit}
use Rattle.plan.specs.Plan.{print}
use Rattle.rules.specs.Rewriting.{finished}
use Rattle.answers.specs.Run.{RunAnswer, run_numbers}
use Rattle.kinds.specs.Limits.{standard}
use Rattle.plan.proofs.Plans.{print-relabel}
use Rattle.rules.proofs.Rewrites.{finished-relabel, finished_when}
use Rattle.kinds.proofs.Tests.{never, false_is_not_true}
use Rattle.roll_rules.specs.Answers.{Added, ENTRIES, Edition, Judged, REFUSED, RollAnswer, add, add_to, by_rules, close_job, edition_1, file, in_use, judged, new_bytes, new_entry, roll_numbers, roll_refusal_number, unbroken}
use Rattle.roll_format.specs.Format.{Entry, Listing, longest, roll, says}
use Rattle.roll_rules.proofs.Adding.{entry_made, fault-first, room_last, roll-first}
use Rattle.roll_rules.proofs.Rules.{filed-right}
use Rattle.stored.proofs.Same.{same_self}
use Rattle.stored.specs.Same.{same}
use Rattle.roll_rules.specs.Rules.{DONE_AT, FILED_AT, JobStanding, UNFILED, after_done, broken, fault, fault_of, is_finished, is_job, is_printed, newest, standing, unfinished}
use Rattle.roll_rules.specs.declared.RollRefusal.TheVariants.{BadJob, BadText, Unfinished, AlreadyDone, BadRoll, TooLong}
use Rattle.roll_rules.specs.declared.Tally.{Tally}
use Rattle.run.specs.Calls.{Runs}
use Rattle.roll_add.specs.Calls.{Adds}
use Rattle.demands.specs.Terms.{Bare, NoRuleApplies, READ, Reads, Rewritten, Unrefused, lent, saved}
use Rattle.demands.specs.Terms as demanded
use Rattle.demands.proofs.Endings.{done_exactly_when, reads_rewrites_prints, text_reads_back}
use Rattle.demands.proofs.Meanings.{reads_with_more, sound_cells}
use Rattle.demands.proofs.Meanings as meanings
use Rattle.roll_theorems.specs.Terms.{NOROOM, UNFINISHED, BADTEXT, FiledLast, RollReads}
use Rattle.roll_theorems.proofs.Kept.{filed_is_last}
use Rattle.roll_rules.specs.declared.RollRefusal.{RollRefusal}
use Rattle.roll_rules.proofs.Texts.{finished_by_plan, printed_by_plan}
use Rattle.roll_rules.proofs.Sound.{reads_before}
use lib.Dec.{ltb}

-- a text that is its plan's printed text
module _ {text : List ℕ} {q : Bare} (reads : Reads cell_limit text q) where
  pub printed_is : text ≡ print q → is_printed standard text ≡ true
  printed_is e =
      let prints : print reads.placed ≡ text = sym (print-relabel (λ l. tt) reads.placed) ∙ ap print reads.same ∙ sym e in
      printed_by_plan standard text reads.accepted ∙ ap (same text) prints ∙ same_self text

  pub is_finished_when : (is_finished standard text ≡ true) ↔ NoRuleApplies q
  is_finished_when =
      let told : is_finished standard text ≡ finished reads.placed = finished_by_plan standard text reads.accepted in
      let alike : finished q ≡ finished reads.placed = ap finished (sym reads.same) ∙ finished-relabel (λ l. tt) reads.placed in
      (λ e. (finished_when q).0 (alike ∙ sym told ∙ e), λ stuck. told ∙ sym alike ∙ (finished_when q).1 stuck)

-- closing a job whose last entry is a FILED asks of its text only that it is finished, and then for room
module _ (buffer : List ℕ) (used : ℕ) (job text : List ℕ) {es : List Entry} {end place : ℕ} (reads : RollReads (take used buffer) es end) (last : FiledLast job text es place)
    (short : length buffer ≤ longest) {tally : Tally} {b : RollAnswer} {buffer' : List ℕ} {tally' : Tally} (call : Adds (close_job edition_1 buffer used job) tally b buffer' tally') where
  its_job : is_job job ≡ true
  its_job = (filed-right standard job es (reads_before (take used buffer) reads).obeyed last).its_job

  wrong_by : fault standard (reverse es) (new_entry end (job ∷ [])) ≡ cond (is_finished standard text) None (Some (Unfinished place))
  unfolding fault fault_of says unfinished
  wrong_by = rw (its_job, last) refl

  told : {x : Added} → add_to edition_1 buffer (ENTRIES es end) (job ∷ []) ≡ x → b ≡ x.answer
  unfolding close_job add in_use
  told e =
      let used_is : in_use edition_1 buffer used ≡ ENTRIES es end = rw (le-ltb longest (length buffer) short) reads in
      call.answer ∙ ap (λ (x : Added). x.answer) (ap (λ j. add_to edition_1 buffer j (job ∷ [])) used_is ∙ e)

  finished_closes : is_finished standard text ≡ true → (roll_numbers b).number ≢ NOROOM → (roll_numbers b).number ≡ READ
  finished_closes e room = go (dec_lt (length buffer) (end + length (new_bytes edition_1 end (job ∷ []))))
    where
      fine : fault standard (reverse es) (new_entry end (job ∷ [])) ≡ None
      fine = wrong_by ∙ rw e refl

      go : Dec (length buffer < end + length (new_bytes edition_1 end (job ∷ []))) → (roll_numbers b).number ≡ READ
      go (no h) = ap (λ (x : RollAnswer). (roll_numbers x).number) (told (entry_made edition_1 buffer (job ∷ []) es end fine (omega arith)))
      go (yes h) =
          absurd (room (ap (λ (x : RollAnswer). (roll_numbers x).number) (told (room_last edition_1 buffer (job ∷ []) es end fine h))))

  unfinished_stays : is_finished standard text ≡ false → ((roll_numbers b).number ≡ UNFINISHED) × ((roll_numbers b).place ≡ place)
  unfinished_stays e =
      let wrong : fault standard (reverse es) (new_entry end (job ∷ [])) ≡ Some (Unfinished place) = wrong_by ∙ rw e refl in
      let so = told (fault-first edition_1 buffer (job ∷ []) es end wrong) in
      (ap (λ (x : RollAnswer). (roll_numbers x).number) so, ap (λ (x : RollAnswer). (roll_numbers x).place) so)

-- what was filed is its job's last entry
-- a theorem of the roll
pub filed_stands_last : (buffer : List ℕ) (used : ℕ) (job text : List ℕ) {tally : Tally} {a : RollAnswer} {buffer' : List ℕ} {tally' : Tally}
    → (call : Adds (file edition_1 buffer used job text) tally a buffer' tally') → (added : (roll_numbers a).number ≡ READ)
    → let o = filed_is_last buffer used job text call added in
    FiledLast job text (o.es ++ new_entry o.end (job ∷ text ∷ []) ∷ []) (new_entry o.end (job ∷ text ∷ [])).place
unfolding standing newest says
filed_stands_last buffer used job text call added =
    let o = filed_is_last buffer used job text call added in
    ap (standing job) (reverse-append o.es (new_entry o.end (job ∷ text ∷ []) ∷ [])) ∙ rw (same_self job) refl

-- filing a printed text is refused for other reasons, if at all
refused-roll : (ed : Edition) (bytes : List ℕ) {q : RollRefusal} → judged ed bytes ≡ REFUSED q → roll_refusal_number q ≢ BADTEXT
unfolding judged by_rules unbroken
refused-roll ed bytes {q} e = by_length (ltb longest (length bytes)) e
  where
    by_rule : (l : Listing) (x : Option ℕ) → unbroken x l ≡ REFUSED q → roll_refusal_number q ≢ BADTEXT
    by_rule l None e n = never cc
    by_rule l (Some p) e n = let is : BadRoll p ≡ q = cc in omega (arith, ap roll_refusal_number is, n)

    by_bytes : (x : Option Listing) → by_rules ed.limits x ≡ REFUSED q → roll_refusal_number q ≢ BADTEXT
    by_bytes None e n = let is : BadRoll 0 ≡ q = cc in omega (arith, ap roll_refusal_number is, n)
    by_bytes (Some l) e n = by_rule l (broken ed.limits [] l.entries) e n

    by_length : (t : Bool) → cond t (REFUSED TooLong) (by_rules ed.limits (roll ed.first bytes)) ≡ REFUSED q → roll_refusal_number q ≢ BADTEXT
    by_length true e n = let is : TooLong ≡ q = cc in omega (arith, ap roll_refusal_number is, n)
    by_length false e n = by_bytes (roll ed.first bytes) e n

module _ (buffer : List ℕ) (used : ℕ) (job text : List ℕ) (printed : is_printed standard text ≡ true) where
  by_fault : (earlier : List Entry) (place : ℕ) {q : RollRefusal} → fault standard earlier (record { place = place; parts = job ∷ text ∷ [] }) ≡ Some q → roll_refusal_number q ≢ BADTEXT
  unfolding fault fault_of says after_done
  by_fault earlier place {q} e = go (is_job job) (is_printed standard text) (standing job earlier) printed e
    where
      go : (a t : Bool) (s : JobStanding) → t ≡ true → cond a (cond t (after_done s) (Some BadText)) (Some BadJob) ≡ Some q → roll_refusal_number q ≢ BADTEXT
      go false t s p e n = let is : BadJob ≡ q = cc in omega (arith, ap roll_refusal_number is, n)
      go true false s p e n = false_is_not_true p
      go true true UNFILED p e n = never cc
      go true true (FILED_AT x y) p e n = never cc
      go true true (DONE_AT x) p e n = let is : AlreadyDone x ≡ q = cc in omega (arith, ap roll_refusal_number is, n)

  not_badtext : (j : Judged) → ((q : RollRefusal) → j ≡ REFUSED q → roll_refusal_number q ≢ BADTEXT)
      → (roll_numbers (add_to edition_1 buffer j (job ∷ text ∷ [])).answer).number ≢ BADTEXT
  not_badtext (REFUSED q) other = rw (roll-first edition_1 buffer (job ∷ text ∷ []) q) (other q refl)
  not_badtext (ENTRIES es end) other = go (fault standard (reverse es) (new_entry end (job ∷ text ∷ []))) refl (dec_lt (length buffer) (end + length (new_bytes edition_1 end (job ∷ text ∷ []))))
    where
      go : (x : Option RollRefusal) → fault standard (reverse es) (new_entry end (job ∷ text ∷ [])) ≡ x → Dec (length buffer < end + length (new_bytes edition_1 end (job ∷ text ∷ [])))
          → (roll_numbers (add_to edition_1 buffer (ENTRIES es end) (job ∷ text ∷ [])).answer).number ≢ BADTEXT
      go (Some q) e d = rw (fault-first edition_1 buffer (job ∷ text ∷ []) es end e) (by_fault (reverse es) _ e)
      go None e (yes h) = rw (room_last edition_1 buffer (job ∷ text ∷ []) es end e h) (λ n. omega (arith, n))
      go None e (no h) = rw (entry_made edition_1 buffer (job ∷ text ∷ []) es end e (omega arith)) (λ n. omega (arith, n))

  printed-not-refused : {tally : Tally} {a : RollAnswer} {buffer' : List ℕ} {tally' : Tally} → Adds (file edition_1 buffer used job text) tally a buffer' tally' → (roll_numbers a).number ≢ BADTEXT
  unfolding file add in_use
  printed-not-refused call n =
      by_length (ltb longest (length buffer)) (sym (ap (λ (x : RollAnswer). (roll_numbers x).number) call.answer) ∙ n)
    where
      by_length : (t : Bool)
          → (roll_numbers (add_to edition_1 buffer (cond t (REFUSED TooLong) (judged edition_1 (take used buffer))) (job ∷ text ∷ [])).answer).number ≡ BADTEXT
          → ⊥
      by_length true e = not_badtext (REFUSED TooLong) (λ q is n. let same : TooLong ≡ q = cc in omega (arith, ap roll_refusal_number same, n)) e
      by_length false e = not_badtext (judged edition_1 (take used buffer)) (λ q is. refused-roll edition_1 (take used buffer) is) e

-- the text that a run saved
module _ {text : List ℕ} {quota : ℕ} {memory out : List ℕ} {r : RunAnswer} {memory' out' : List ℕ} (call : Runs text quota memory out r memory' out') (unrefused : Unrefused (run_numbers r)) where
  its : (q : Bare) × Rewritten (lent memory) text (run_numbers r).steps q × (saved (run_numbers r) out' ≡ print q)
  its = reads_rewrites_prints call unrefused

  reads : Reads cell_limit (saved (run_numbers r) out') its.0
  reads = let back = text_reads_back call unrefused its.1 in let few = sound_cells (meanings.reads_sound back) in reads_with_more cell_limit few.1 (omega arith) back

  -- a theorem of the roll
  pub saved-is_printed : is_printed standard (saved (run_numbers r) out') ≡ true
  saved-is_printed = printed_is reads its.2

  saved-finished : ((run_numbers r).number ≡ demanded.DONE) ↔ (is_finished standard (saved (run_numbers r) out') ≡ true)
  saved-finished =
      let d = done_exactly_when call unrefused its.1 in
      let f = is_finished_when reads in
      (λ e. f.1 (d.0 e), λ e. d.1 (f.0 e))

  -- its text is not refused as one
  -- a theorem of the roll
  pub run_can_be_filed : (buffer : List ℕ) (used : ℕ) (job : List ℕ) {tally : Tally} {a : RollAnswer} {buffer' : List ℕ} {tally' : Tally}
      → Adds (file edition_1 buffer used job (saved (run_numbers r) out')) tally a buffer' tally' → (roll_numbers a).number ≢ BADTEXT
  run_can_be_filed buffer used job filing = printed-not-refused buffer used job (saved (run_numbers r) out') saved-is_printed filing

  -- in every roll where it is the last that was filed of a job:
  module _ (buffer : List ℕ) (used : ℕ) (job : List ℕ) {es : List Entry} {end place : ℕ} (reads_so : RollReads (take used buffer) es end) (last : FiledLast job (saved (run_numbers r) out') es place)
      (short : length buffer ≤ longest) {tally : Tally} {b : RollAnswer} {buffer' : List ℕ} {tally' : Tally} (closing : Adds (close_job edition_1 buffer used job) tally b buffer' tally') where
    -- a DONE text can be marked done, where there is room
    -- a theorem of the roll
    pub done_can_be_marked : (run_numbers r).number ≡ demanded.DONE → (roll_numbers b).number ≢ NOROOM → (roll_numbers b).number ≡ READ
    done_can_be_marked e = finished_closes buffer used job (saved (run_numbers r) out') reads_so last short closing (saved-finished.0 e)

    -- and no other can
    -- a theorem of the roll
    pub others_cannot : (run_numbers r).number ≢ demanded.DONE → ((roll_numbers b).number ≡ UNFINISHED) × ((roll_numbers b).place ≡ place)
    others_cannot e = unfinished_stays buffer used job (saved (run_numbers r) out') reads_so last short closing (go (is_finished standard (saved (run_numbers r) out')) refl)
      where
        go : (t : Bool) → is_finished standard (saved (run_numbers r) out') ≡ t → is_finished standard (saved (run_numbers r) out') ≡ false
        go true h = absurd (e (saved-finished.1 h))
        go false h = h
