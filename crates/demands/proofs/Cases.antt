-- What a call can have been, by its answer and its output together. Every demand goes by these cases, so no other proof opens a
-- service's definition.
use Prim.Native.Nat.{ℕ, ◌≤◌, ◌<◌}
use mathlib.Core.Path.{◌≡◌, refl, ap, sym, subst, ◌∙◌}
use mathlib.Core.Logic.{◌≢◌}
use mathlib.Core.List.{List, ◌++◌}
use native.Mathlib.Omega.{arith}
use lib.ListN.{length, drop}
use lib.Seq.{take-append_seam}
use Rattle.std.specs.Prelude.{Ok, Err}
use Rattle.kinds.specs.Limits.{cell_limit, standard}
use Rattle.plan.specs.declared.ReadRefusal.TheVariants.{NotRead, OutShort as PastOutput}
use Rattle.plan.specs.declared.Unread.{Unread}
use Rattle.plan.specs.Outcomes.{GIVES, Outcome, write}
use Rattle.plan.specs.Plan.{Plan, bare, cells, print}
use Rattle.plan.specs.Read.{ReadAnswer, as_read, read_family, read_outcome, sized}
use Rattle.plan.specs.Reading.{ACCEPTED, Acceptance, UNREAD, accept}
use Rattle.plan.specs.Refusals.{Unreadable}
use Rattle.plan.proofs.Accepting.{unread_iff}
use Rattle.plan.proofs.Outcomes.{write_gives}
use Rattle.plan.proofs.Plans.{cells-relabel, print-relabel}
use Rattle.rules.specs.declared.Ending.{Ending}
use Rattle.rules.specs.Running.{Ran as Run, RAN, run_plan}
use Rattle.rules.proofs.Runs.{run_relabel}
use Rattle.numbers.specs.Numbers.{read_numbers}
use Rattle.numbers.proofs.Told.{read_refusal_number_is}
use Rattle.answers.specs.declared.RunRefusal.{RunRefusal}
use Rattle.answers.specs.declared.RunRefusal.TheVariants.{OutShort}
use Rattle.answers.specs.Run.{HowRan, Refuses, RunAnswer, as_run, ran, run_family, run_numbers, run_outcome}
use Rattle.answers.proofs.Runs.{RunsCase, accepts, refuses, runs_accepted, runs_case}
use Rattle.read.specs.Calls.{ReadsOut}
use Rattle.run.specs.Calls.{Runs}
use Rattle.demands.specs.Terms.{Bare, Ends, OUTSHORT, Reads, Rewritten, Unrefused, lent, saved}
use Rattle.demands.proofs.Meanings.{ends_one, ends_rewritten, ends_same, reads_not-refused, rewritten_one}
use Rattle.demands.proofs.Numbers.{ending-at_most, run_refusal_number_is}

pub data ReadCase (text out : List ℕ) : ReadAnswer → List ℕ → Type 0 where
  bad_text : {u : Unread} → Unreadable standard cell_limit text u → ReadCase text out (Err (NotRead u)) out
  out_short : {p : Bare} → Reads cell_limit text p → length out < length (print p)
      → ReadCase text out (Err (PastOutput (length (print p)))) out
  is_read : {p : Bare} → Reads cell_limit text p → length (print p) ≤ length out
      → ReadCase text out (Ok (sized (cells p) (length (print p)))) (print p ++ drop (length (print p)) out)

pub data RunCase (n quota : ℕ) (text out : List ℕ) : RunAnswer → List ℕ → Type 0 where
  bad_text : {x : RunRefusal} → Refuses standard n text x → RunCase n quota text out (Err x) out
  out_short : {e : Ending} {steps : ℕ} {q : Bare} → Ends n quota text e steps q → length out < length (print q)
      → RunCase n quota text out (Err (OutShort (length (print q)))) out
  ended : {e : Ending} {steps : ℕ} {q : Bare} → Ends n quota text e steps q → length (print q) ≤ length out
      → RunCase n quota text out (Ok (ran e steps (cells q) (length (print q)))) (print q ++ drop (length (print q)) out)

module _ (n : ℕ) (within : n ≤ cell_limit) (text : List ℕ) {p : Plan ℕ} (h : accept standard n text ≡ ACCEPTED p) where
  reads_bare : Reads n text (bare p)
  reads_bare = record { within = within; placed = p; accepted = h; same = refl }

  ends_bare : (quota : ℕ) {e : Ending} {steps : ℕ} {q : Plan ℕ} → run_plan n quota p ≡ RAN e steps q → Ends n quota text e steps (bare q)
  ends_bare quota g = record { plan = bare p; reads = reads_bare; ran = run_relabel (λ l. tt) n quota p g }

as_read-bare : (p : Plan ℕ) → as_read (ACCEPTED p) ≡ GIVES tt (cells (bare p)) (print (bare p))
unfolding as_read
as_read-bare p = rw (cells-relabel (λ l. tt {0}) p, print-relabel (λ l. tt {0}) p)

as_run-bare : (e : Ending) (steps : ℕ) (q : Plan ℕ)
    → as_run (RAN e steps q) ≡ GIVES (record { ending = e; steps = steps }) (cells (bare q)) (print (bare q))
unfolding as_run
as_run-bare e steps q = rw (cells-relabel (λ l. tt {0}) q, print-relabel (λ l. tt {0}) q)

read_cases : (text out : List ℕ)
    → let w = write read_family (read_outcome standard text) out in ReadCase text out w.answer w.output
unfolding read_outcome as_read write
read_cases text out = by_reading (accept standard cell_limit text) refl
  where
    by_reading : (x : Acceptance) → accept standard cell_limit text ≡ x
        → let w = write read_family (as_read x) out in ReadCase text out w.answer w.output
    by_reading (UNREAD u) h = bad_text ((unread_iff standard cell_limit text u).0 h)
    by_reading (ACCEPTED p) h =
        let reads = reads_bare cell_limit (omega arith) text h in
        subst (λ o. let w = write read_family o out in ReadCase text out w.answer w.output) (sym (as_read-bare p))
        (write_gives read_family tt _ (print (bare p)) out (ReadCase text out) (out_short reads) (is_read reads))

run_cases : (n quota : ℕ) (text out : List ℕ)
    → let w = write run_family (run_outcome standard n quota text) out in RunCase n quota text out w.answer w.output
unfolding write as_run
run_cases n quota text out = by_outcome (runs_case standard n quota text)
  where
    by_run : (p : Plan ℕ) → n ≤ cell_limit → accept standard n text ≡ ACCEPTED p → (y : Run ℕ) → run_plan n quota p ≡ y
        → let w = write run_family (as_run y) out in RunCase n quota text out w.answer w.output
    by_run p few h (RAN e steps q) g =
        let ends = ends_bare n few text h quota g in
        subst (λ o. let w = write run_family o out in RunCase n quota text out w.answer w.output) (sym (as_run-bare e steps q))
        (write_gives run_family (record { ending = e; steps = steps }) _ (print (bare q)) out (RunCase n quota text out) (out_short ends) (ended ends))

    by_outcome : {o : Outcome RunRefusal HowRan} → RunsCase standard n quota text o
        → let w = write run_family o out in RunCase n quota text out w.answer w.output
    by_outcome (refuses row) = bad_text row
    by_outcome (accepts {p} few h) = by_run p few h (run_plan n quota p) refl

pub read_case : {text out : List ℕ} {r : ReadAnswer} {out' : List ℕ} → ReadsOut text out r out' → ReadCase text out r out'
read_case {text} {out} call = rw (call.wrote.answer, call.wrote.output) (read_cases text out)

pub run_case : {text : List ℕ} {quota : ℕ} {memory out : List ℕ} {r : RunAnswer} {memory' out' : List ℕ}
    → Runs text quota memory out r memory' out' → RunCase (lent memory) quota text out r out'
run_case {text} {quota} {memory} {out} call = rw (call.wrote.answer, call.wrote.output) (run_cases (lent memory) quota text out)

-- what a run gives when it ends so
ends_gives : {n quota : ℕ} {text : List ℕ} {e : Ending} {steps : ℕ} {q : Bare} → Ends n quota text e steps q
    → run_outcome standard n quota text ≡ GIVES (record { ending = e; steps = steps }) (cells q) (print q)
unfolding as_run
ends_gives {n} {quota} {text} {e} {steps} {q} ends =
    runs_accepted standard n quota text ends.reads.within ends.reads.accepted ∙ by_run (run_plan n quota ends.reads.placed) refl
  where
    by_run : (y : Run ℕ) → run_plan n quota ends.reads.placed ≡ y → as_run y ≡ as_run (RAN e steps q)
    by_run (RAN e' steps' q') h =
        as_run-bare e' steps' q' ∙ ap as_run (ends_one (ends_bare n ends.reads.within text ends.reads.accepted quota h) ends)

-- an unrefused run, by the definition: how it ended, what it told and what it left
pub record EndedRun (n quota : ℕ) (text out : List ℕ) (r : RunAnswer) (out' : List ℕ) : Type 0 where
  pub ending : Ending
  pub steps : ℕ
  pub result : Bare
  pub ends : Ends n quota text ending steps result
  pub told : r ≡ Ok (ran ending steps (cells result) (length (print result)))
  pub left : out' ≡ print result ++ drop (length (print result)) out
  pub fits : length (print result) ≤ length out

-- an unrefused READ, by the definition: what it read, what it told and what it left
pub record TextRead (text out : List ℕ) (r : ReadAnswer) (out' : List ℕ) : Type 0 where
  pub plan : Bare
  pub reads : Reads cell_limit text plan
  pub told : r ≡ Ok (sized (cells plan) (length (print plan)))
  pub left : out' ≡ print plan ++ drop (length (print plan)) out

pub text-read : {text out : List ℕ} {r : ReadAnswer} {out' : List ℕ} → ReadsOut text out r out' → Unrefused (read_numbers r) → TextRead text out r out'
text-read {text} {out} call h = go (read_case call) h
  where
    go : {r : ReadAnswer} {out' : List ℕ} → ReadCase text out r out' → Unrefused (read_numbers r) → TextRead text out r out'
    go (bad_text {u} g) h = absurd (omega (arith, (read_refusal_number_is (NotRead u)).over))
    go (out_short g short) h = absurd (omega arith)
    go (is_read {p} g fits) h = record { plan = p; reads = g; told = refl; left = refl }

pub read-saved : {text out : List ℕ} {r : ReadAnswer} {out' : List ℕ} (x : TextRead text out r out') → saved (read_numbers r) out' ≡ print x.plan
read-saved {out = out} x = rw (x.told, x.left) (take-append_seam (print x.plan) (drop (length (print x.plan)) out))

module _ {text : List ℕ} {quota : ℕ} {memory out : List ℕ} {r : RunAnswer} {memory' out' : List ℕ}
    (call : Runs text quota memory out r memory' out') where
  pub run_ended : Unrefused (run_numbers r) → EndedRun (lent memory) quota text out r out'
  run_ended h = go (run_case call) h
    where
      go : {r : RunAnswer} {out' : List ℕ} → RunCase (lent memory) quota text out r out' → Unrefused (run_numbers r) → EndedRun (lent memory) quota text out r out'
      go (bad_text {x} g) h = absurd (omega (arith, (run_refusal_number_is x).over))
      go (out_short g short) h = absurd (omega arith)
      go (ended {e} {steps} {q} g fits) h =
          record { ending = e; steps = steps; result = q; ends = g; told = refl; left = refl; fits = fits }

  -- a run of a text that reads is refused only for its output
  pub read_unrefused : {p : Bare} → Reads (lent memory) text p → (run_numbers r).number ≢ OUTSHORT → Unrefused (run_numbers r)
  read_unrefused {p} reads h = go (run_case call) h
    where
      go : {r : RunAnswer} {out' : List ℕ} → RunCase (lent memory) quota text out r out' → (run_numbers r).number ≢ OUTSHORT → Unrefused (run_numbers r)
      go (bad_text g) h = reads_not-refused reads g
      go (out_short g short) h = absurd (h refl)
      go (ended {e} g fits) h = omega (arith, ending-at_most e)

  -- a run that is known to end so, with room for the text
  pub ends_unrefused : {e : Ending} {steps : ℕ} {q : Bare} → Ends (lent memory) quota text e steps q → length (print q) ≤ length out → Unrefused (run_numbers r)
  ends_unrefused {q = q} ends room = go (run_case call)
    where
      go : {r : RunAnswer} {out' : List ℕ} → RunCase (lent memory) quota text out r out' → Unrefused (run_numbers r)
      go (bad_text g) = reads_not-refused ends.reads g
      go (out_short g short) = absurd (omega (arith, ap (λ (p : Bare). length (print p)) (ends_same g ends)))
      go (ended {e} g fits) = omega (arith, ending-at_most e)

module _ {n quota : ℕ} {text out : List ℕ} {r : RunAnswer} {out' : List ℕ} (x : EndedRun n quota text out r out') where
  pub ended-saved : saved (run_numbers r) out' ≡ print x.result
  ended-saved = rw (x.told, x.left) (take-append_seam (print x.result) (drop (length (print x.result)) out))

  pub ended_rewritten : Rewritten n text (run_numbers r).steps x.result
  ended_rewritten = rw x.told (ends_rewritten x.ends)

  -- what so many rewrites make of the text's plan is one plan
  pub ended_plan : {q : Bare} → Rewritten n text (run_numbers r).steps q → x.result ≡ q
  ended_plan h = rewritten_one ended_rewritten h

  -- what it gives
  pub ended_gives : run_outcome standard n quota text
      ≡ GIVES (record { ending = x.ending; steps = x.steps }) (cells x.result) (saved (run_numbers r) out')
  ended_gives = rw ended-saved (ends_gives x.ends)
