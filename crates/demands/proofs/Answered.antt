-- Demand 1, sentence by sentence: every call is answered, bad text is refused by the table, and what a refusal leaves.
-- The statements are about an answer's five numbers and what the call left, for all inputs, and stand in the order of the sentences.
-- Every public law here is a theorem of the demands.
use Prim.Native.Nat.{ℕ, ◌≤◌, ◌<◌}
use mathlib.Core.Path.{◌≡◌, refl, ap, subst}
use mathlib.Core.Logic.{◌↔◌, ◌≢◌, ◌⊎◌, inl, inr}
use mathlib.Core.List.{List}
use native.Mathlib.Omega.{arith}
use lib.ListN.{length, length-replicate, get_or, get_or-replicate}
use Rattle.std.specs.Prelude.{Ok, Err}
use Rattle.kinds.specs.Limits.{cell_limit, standard}
use Rattle.plan.specs.declared.ReadRefusal.{ReadRefusal}
use Rattle.plan.specs.declared.ReadRefusal.TheVariants.{NotRead, OutShort as PastOutput}
use Rattle.plan.specs.declared.Unread.TheVariants.{Overfull, Text}
use Rattle.plan.specs.Outcomes.{cleared}
use Rattle.plan.specs.Plan.{print}
use Rattle.plan.specs.Read.{ReadAnswer, read_family, read_outcome}
use Rattle.plan.proofs.Accepting.{one_refusal}
use Rattle.plan.proofs.Outcomes.{written}
use Rattle.kinds.proofs.Tests.{never}
use Rattle.numbers.specs.declared.Numbers.{Numbers}
use Rattle.numbers.specs.Numbers.{read_numbers, read_refusal_numbers}
use Rattle.numbers.proofs.Told.{read_refusal_number_is, same-read_refusal}
use Rattle.answers.specs.declared.RunRefusal.{RunRefusal}
use Rattle.answers.specs.declared.RunRefusal.TheVariants.{BadArena, NotRead as RunNotRead, OutShort}
use Rattle.answers.specs.Run.{RunAnswer, run_family, run_numbers, run_outcome, run_refusal_numbers}
use Rattle.answers.proofs.Runs.{one_refusal as one_run_refusal}
use Rattle.read.specs.Calls.{ReadsOut}
use Rattle.run.specs.Calls.{Runs}
use Rattle.demands.specs.Table.{ReadRefuses, RunRefuses, row_18, rows_11_to_17}
use Rattle.demands.specs.Terms.{Bare, FULL, IsRefusal, READ, lent}
use Rattle.demands.proofs.Cases.{ReadCase, RunCase, bad_text, ended, is_read, out_short, read_case, run_case}
use Rattle.demands.proofs.Meanings.{ends_same, reads_not-refused, reads_not_unreadable, reads_one}
use Rattle.demands.proofs.Numbers.{ending-at_most, run_refusal_number_is, same_run_refusal}

-- "Any text, quota, memory and output length gets an answer." The contracts ask nothing of the caller, and this is what meets them;
pub every_read-answered : (text out : List ℕ) → (r : ReadAnswer) × (out' : List ℕ) × ReadsOut text out r out'
every_read-answered text out = let (r, out', did) = written read_family (read_outcome standard text) out in (r, out', record { wrote = did })

pub every_run_answered : (text : List ℕ) (quota : ℕ) (memory out : List ℕ)
    → (r : RunAnswer) × (memory' : List ℕ) × (out' : List ℕ) × Runs text quota memory out r memory' out'
every_run_answered text quota memory out =
    let (r, out', did) = written run_family (run_outcome standard (lent memory) quota text) out in
    (r, cleared memory, out', record { wrote = did; zeroed = refl })

-- its number is one of the table: READ, or DONE, QUOTA or FULL, or a refusal's.
pub read_number : {text out : List ℕ} {r : ReadAnswer} {out' : List ℕ} → ReadsOut text out r out' → ((read_numbers r).number ≡ READ) ⊎ IsRefusal read_refusal_numbers (read_numbers r)
read_number {text} {out} call = go (read_case call)
  where
    go : {r : ReadAnswer} {out' : List ℕ} → ReadCase text out r out' → ((read_numbers r).number ≡ READ) ⊎ IsRefusal read_refusal_numbers (read_numbers r)
    go (bad_text {u} h) = inr (NotRead u, refl)
    go (out_short {p} h short) = inr (PastOutput (length (print p)), refl)
    go (is_read h fits) = inl refl

pub run_number : {text : List ℕ} {quota : ℕ} {memory out : List ℕ} {r : RunAnswer} {memory' out' : List ℕ}
    → Runs text quota memory out r memory' out' → ((run_numbers r).number ≤ FULL) ⊎ IsRefusal run_refusal_numbers (run_numbers r)
run_number {text} {quota} {memory} {out} call = go (run_case call)
  where
    go : {r : RunAnswer} {out' : List ℕ} → RunCase (lent memory) quota text out r out' → ((run_numbers r).number ≤ FULL) ⊎ IsRefusal run_refusal_numbers (run_numbers r)
    go (bad_text {x} h) = inr (x, refl)
    go (out_short {q = q} h short) = inr (OutShort (length (print q)), refl)
    go (ended {e} h fits) = inl (ending-at_most e)

-- "Bad text is refused with a number and a place;" each refusal exactly when its row of the table says, with that row's place.
pub read-refused : {text out : List ℕ} {r : ReadAnswer} {out' : List ℕ} → ReadsOut text out r out'
    → (x : ReadRefusal) → ReadRefuses text out x ↔ (read_numbers r ≡ read_refusal_numbers x)
read-refused {text} {out} {r} call x = (λ h. ap read_numbers (to (read_case call) h), λ h. from (read_case call) (same-read_refusal r x h))
  where
    to : {r : ReadAnswer} {out' : List ℕ} {x : ReadRefusal} → ReadCase text out r out' → ReadRefuses text out x → r ≡ Err x
    to (bad_text h) (rows_11_to_17 row) = ap (λ u. Err (NotRead u)) (one_refusal standard cell_limit text h row)
    to (bad_text h) (row_18 g short) = reads_not_unreadable g h
    to (out_short h short) (rows_11_to_17 row) = reads_not_unreadable h row
    to (out_short h short) (row_18 g short') = ap (λ (p : Bare). Err (PastOutput (length (print p)))) (reads_one h g)
    to (is_read h fits) (rows_11_to_17 row) = reads_not_unreadable h row
    to (is_read h fits) (row_18 g short) = absurd (omega (arith, ap (λ (p : Bare). length (print p)) (reads_one h g)))

    from : {r : ReadAnswer} {out' : List ℕ} → ReadCase text out r out' → r ≡ Err x → ReadRefuses text out x
    from (bad_text {u} h) e =
        let same : NotRead u ≡ x = cc in
        subst (ReadRefuses text out) same (rows_11_to_17 h)
    from (out_short {p} h short) e =
        let same : PastOutput (length (print p)) ≡ x = cc in
        subst (ReadRefuses text out) same (row_18 h short)
    from (is_read h fits) e = never cc

-- of the table's rows 12 is RUN's alone
pub read_never_bad_arena : (r : ReadAnswer) → (read_numbers r).number ≢ 12
read_never_bad_arena (Ok s) e = omega arith
read_never_bad_arena (Err x) e = (read_refusal_number_is x).no_arena e

pub run_refused : {text : List ℕ} {quota : ℕ} {memory out : List ℕ} {r : RunAnswer} {memory' out' : List ℕ}
    → Runs text quota memory out r memory' out' → (x : RunRefusal) → RunRefuses (lent memory) quota text out x ↔ (run_numbers r ≡ run_refusal_numbers x)
run_refused {text} {quota} {memory} {out} {r} call x =
    (λ h. ap run_numbers (to (run_case call) h), λ h. from (run_case call) (same_run_refusal r x h))
  where
    n : ℕ
    n = lent memory

    to : {r : RunAnswer} {out' : List ℕ} {x : RunRefusal} → RunCase n quota text out r out' → RunRefuses n quota text out x → r ≡ Err x
    to (bad_text h) (rows_11_to_17 row) = ap Err (one_run_refusal standard n quota text h row)
    to (bad_text h) (row_18 g short) = reads_not-refused g.reads h
    to (out_short h short) (rows_11_to_17 row) = reads_not-refused h.reads row
    to (out_short h short) (row_18 g short') = ap (λ (q : Bare). Err (OutShort (length (print q)))) (ends_same h g)
    to (ended h fits) (rows_11_to_17 row) = reads_not-refused h.reads row
    to (ended h fits) (row_18 g short) = absurd (omega (arith, ap (λ (q : Bare). length (print q)) (ends_same h g)))

    from : {r : RunAnswer} {out' : List ℕ} → RunCase n quota text out r out' → r ≡ Err x → RunRefuses n quota text out x
    from (bad_text {x = y} h) e =
        let same : y ≡ x = cc in
        subst (RunRefuses n quota text out) same (rows_11_to_17 h)
    from (out_short {q = q} h short) e =
        let same : OutShort (length (print q)) ≡ x = cc in
        subst (RunRefuses n quota text out) same (row_18 h short)
    from (ended h fits) e = never cc

-- "a refusal reports no steps," and no cells and no length;
pub read_refusal_reports_no_steps : (r : ReadAnswer) → IsRefusal read_refusal_numbers (read_numbers r) → let n = read_numbers r in (n.steps ≡ 0) × (n.cells ≡ 0) × (n.length ≡ 0)
read_refusal_reports_no_steps r (x, h) = rw h (nothing x)
  where
    nothing : (x : ReadRefusal) → let n = read_refusal_numbers x in (n.steps ≡ 0) × (n.cells ≡ 0) × (n.length ≡ 0)
    nothing (NotRead (Text f)) = (refl, refl, refl)
    nothing (NotRead (Overfull at)) = (refl, refl, refl)
    nothing (PastOutput needed) = (refl, refl, refl)

pub run_refusal_reports_no_steps : (r : RunAnswer) → IsRefusal run_refusal_numbers (run_numbers r) → let n = run_numbers r in (n.steps ≡ 0) × (n.cells ≡ 0) × (n.length ≡ 0)
run_refusal_reports_no_steps r (x, h) = rw h (nothing x)
  where
    nothing : (x : RunRefusal) → let n = run_refusal_numbers x in (n.steps ≡ 0) × (n.cells ≡ 0) × (n.length ≡ 0)
    nothing BadArena = (refl, refl, refl)
    nothing (RunNotRead (Text f)) = (refl, refl, refl)
    nothing (RunNotRead (Overfull at)) = (refl, refl, refl)
    nothing (OutShort needed) = (refl, refl, refl)

-- "changes no output byte"
pub read_refusal_changes_no_output_byte : {text out : List ℕ} {r : ReadAnswer} {out' : List ℕ} → ReadsOut text out r out' → IsRefusal read_refusal_numbers (read_numbers r) → out' ≡ out
read_refusal_changes_no_output_byte {text} {out} call h = go (read_case call) h
  where
    go : {r : ReadAnswer} {out' : List ℕ} → ReadCase text out r out' → IsRefusal read_refusal_numbers (read_numbers r) → out' ≡ out
    go (bad_text g) h = refl
    go (out_short g short) h = refl
    go (is_read g fits) (x, h) = absurd (omega (arith, (read_refusal_number_is x).over, ap (λ (v : Numbers). v.number) h))

pub run_refusal_changes_no_output_byte : {text : List ℕ} {quota : ℕ} {memory out : List ℕ} {r : RunAnswer} {memory' out' : List ℕ}
    → Runs text quota memory out r memory' out' → IsRefusal run_refusal_numbers (run_numbers r) → out' ≡ out
run_refusal_changes_no_output_byte {text} {quota} {memory} {out} call h = go (run_case call) h
  where
    go : {r : RunAnswer} {out' : List ℕ} → RunCase (lent memory) quota text out r out' → IsRefusal run_refusal_numbers (run_numbers r) → out' ≡ out
    go (bad_text g) h = refl
    go (out_short g short) h = refl
    go (ended {e} g fits) (x, h) = absurd (omega (arith, ending-at_most e, (run_refusal_number_is x).over, ap (λ (v : Numbers). v.number) h))

-- "and leaves the work memory zeroed, like every other call." As many numbers as before, and each of them 0.
pub memory-zeroed : {text : List ℕ} {quota : ℕ} {memory out : List ℕ} {r : RunAnswer} {memory' out' : List ℕ}
    → Runs text quota memory out r memory' out'
    → (length memory' ≡ length memory) × ((i other : ℕ) → i < length memory → get_or memory' i other ≡ 0)
unfolding cleared
memory-zeroed {memory = memory} call =
    rw call.zeroed (length-replicate (length memory) 0, λ i other h. get_or-replicate (length memory) i 0 other h)
