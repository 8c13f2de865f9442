-- RUN, part by part. What the run in the memory ended with is what the definition's run of the accepted plan gives, since no run looks at a
-- label. That plan is never too long to be printed. What is printed is what the definition writes.
use Prim.Native.Nat.{ℕ, ◌*◌, ◌≤◌, ◌<◌}
use mathlib.Core.Path.{◌≡◌, refl, ap, ap₂, sym, ◌∙◌, subst}
use mathlib.Core.List.{List}
use native.Mathlib.Omega.{arith}
use native.Mathlib.Nat.{le_trans, mul-le-mul_left}
use lib.ListN.{length, replicate}
use Rattle.kinds.specs.Limits.{cell_limit, cell_numbers, standard, text_limit, token_limit}
use Rattle.std.specs.Prelude.{Err, Ok}
use Rattle.kinds.specs.declared.Cell.{Cell}
use Rattle.plan.specs.Plan.{Plan, bare, cells, print}
use Rattle.plan.specs.Reading.{ACCEPTED, accept, read}
use Rattle.rules.specs.Running.{Ran as Run, RAN, run_plan}
use Rattle.plan.specs.Outcomes.{GIVES, Wrote, cleared}
use Rattle.answers.specs.Run.{RunAnswer, as_run, bad_arena, quarter, ran, run_family, run_read, run_outcome, text_too_long}
use Rattle.plan.specs.declared.TextFault.TheVariants.{TooLong}
use Rattle.plan.specs.declared.Unread.{Unread}
use Rattle.plan.specs.declared.Unread.TheVariants.{Text}
use Rattle.plan.specs.declared.Size.{Size}
use Rattle.answers.specs.declared.RunRefusal.TheVariants.{BadArena, NotRead, OutShort}
use Rattle.plan.proofs.Outcomes.{wrote_fits, wrote_refused, wrote_short}
use Rattle.plan.proofs.Plans.{cells-relabel, print-relabel}
use Rattle.plan.proofs.ReadBack.{print-bound, read_accepted}
use Rattle.rules.proofs.Runs.{run_allowed, run_cells, run_relabel}
use Rattle.plan.proofs.Accepting.{accept_short, accepted_text}
use Rattle.answers.proofs.Runs.{refuses_refused, runs_short}
use Rattle.read.specs.Accepted.{acceptance_told}
use Rattle.read.proofs.Accepting.{told_plan, told_unread}
use Rattle.kinds.specs.Written.{put_at}
use Rattle.kinds.proofs.Putting.{put_front}
use Rattle.memory.specs.Held.{HeldIn, HeldAlike}
use Rattle.memory.specs.Pieces.{PrintsWithin, print_limit}
use Rattle.memory.specs.declared.HeldPlan.{HeldPlan}
use Rattle.engine.specs.Running.{RanAs, RunMade, Runnable, Sized}
use Rattle.engine.specs.declared.Ended.{Ended}
use Rattle.run.specs.Calls.{Runs}
use Rattle.run.specs.Writing.{EndWritten, Printable, TextAccepted}

-- printing

module _ {text : List ℕ} {h : HeldPlan} {e : Ended} (k : Printable text h e) where
  pub prints_at_most : PrintsWithin 0 print_limit text h
  prints_at_most = record { plan = k.plan; held = k.sized.held; fits = omega (arith, k.fits) }

  -- the length as `printed_length` finds it
  module _ {long : ℕ} (is : (t : Plan ℕ) → HeldIn text h t → long ≡ length (print t)) (out : List ℕ) where
    pub prints_in : long ≤ length out → PrintsWithin 0 (length out) text h
    prints_in l = record { plan = k.plan; held = k.sized.held; fits = let size = is k.plan k.sized.held in omega arith }

module _ {text : List ℕ} {h : HeldPlan} (e : Ended) {long : ℕ} (is : (t : Plan ℕ) → HeldIn text h t → long ≡ length (print t)) (out : List ℕ) where
  pub writes_short : length out < long → EndWritten text h e out (Err (OutShort long)) out
  unfolding as_run
  writes_short l t s =
      let size = is t s.held in
      subst (λ k. Wrote run_family (as_run (RAN e.ending e.steps t)) out (Err (OutShort k)) out) (sym size)
      (wrote_short run_family out refl (omega arith))

  pub writes_all : {out' : List ℕ} → long ≤ length out → ((t : Plan ℕ) → HeldIn text h t → out' ≡ put_at out 0 (print t))
      → EndWritten text h e out (Ok (ran e.ending e.steps e.size long)) out'
  unfolding as_run
  writes_all l prints t s =
      let size = is t s.held in
      let w = wrote_fits run_family {o = as_run (RAN e.ending e.steps t)} out refl (omega arith) in
      record {
        answer = ap₂ (λ c k. Ok (ran e.ending e.steps c k)) s.sized size ∙ w.answer;
        output = prints t s.held ∙ put_front (print t) out ∙ w.output;
      }

-- the run of the plan that was built is that of the plan that was read

record SameRun (n quota : ℕ) (p : Plan ℕ) (e : Ended) (plan : Plan ℕ) : Type 0 where
  read_plan : Plan ℕ
  runs : run_plan n quota p ≡ RAN e.ending e.steps read_plan
  alike : bare read_plan ≡ bare plan

same_run : (n quota : ℕ) (p : Plan ℕ) (e : Ended) (plan : Plan ℕ) → run_plan n quota (bare p) ≡ RAN e.ending e.steps (bare plan) → SameRun n quota p e plan
same_run n quota p e plan runs = go (run_plan n quota p) refl
  where
    go : (r : Run ℕ) → run_plan n quota p ≡ r → SameRun n quota p e plan
    go (RAN ending steps q) is =
        let there = sym (run_relabel (λ l. tt) n quota p is) ∙ runs in
        let ending_same : ending ≡ e.ending = cc in
        let steps_same : steps ≡ e.steps = cc in
        record { read_plan = q; runs = is ∙ rw (ending_same, steps_same); alike = cc }

module _ {text m : List ℕ} (outer : Cell) {size : ℕ} (k : TextAccepted text m outer.0 size) where
  abbrev n : ℕ
  n = outer.0

  -- what `build_plan` built
  module _ (h : HeldPlan) (built : (p : Plan ℕ) → read token_limit n text ≡ ACCEPTED p → HeldAlike text h p) (kept : h.kept.outer ≡ outer) where
    cell : h.kept.outer.0 ≡ n
    cell = ap (λ (c : Cell). c.0) kept

    plan₁ : Plan ℕ
    plan₁ = (built k.plan k.reads).plan

    sized₁ : Sized text h size plan₁
    unfolding plan₁
    sized₁ =
        let b = built k.plan k.reads in
        record { held = b.held; sized = k.sized ∙ sym (cells-relabel (λ l. tt) k.plan) ∙ ap cells (sym b.alike) ∙ cells-relabel (λ l. tt) b.plan }

    pub built_runnable : Runnable text h size
    built_runnable = record { plan = plan₁; sized = sized₁ }

    -- what the run left
    module _ (quota : ℕ) (h' : HeldPlan) (e : Ended) (made : RunMade text h size quota h' e) where
      end_plan : RanAs text h.kept.outer.0 quota plan₁ h' e
      end_plan = made plan₁ sized₁

      the_run : SameRun n quota k.plan e end_plan.plan
      unfolding plan₁
      the_run =
          same_run n quota k.plan e end_plan.plan
          (subst (λ c. run_plan c quota (bare k.plan) ≡ RAN e.ending e.steps (bare end_plan.plan)) cell
          (subst (λ x. run_plan h.kept.outer.0 quota x ≡ RAN e.ending e.steps (bare end_plan.plan)) (built k.plan k.reads).alike end_plan.runs))

      printed-same : print the_run.read_plan ≡ print end_plan.plan
      printed-same = sym (print-relabel (λ l. tt) the_run.read_plan) ∙ ap print the_run.alike ∙ print-relabel (λ l. tt) end_plan.plan

      cells_same : cells the_run.read_plan ≡ cells end_plan.plan
      cells_same = sym (cells-relabel (λ l. tt) the_run.read_plan) ∙ ap cells the_run.alike ∙ cells-relabel (λ l. tt) end_plan.plan

      pub end_printable : Printable text h' e
      end_printable =
          let accepted = read_accepted token_limit n text k.reads in
          let q = the_run.read_plan in
          let fine = run_allowed n quota k.plan the_run.runs token_limit accepted.fine in
          let few = run_cells n quota k.plan the_run.runs accepted.fits in
          record {
            plan = end_plan.plan;
            sized = end_plan.sized;
            fits = subst (λ x. length x ≤ print_limit) printed-same
                (le_trans (print-bound token_limit q (omega arith) fine) (mul-le-mul_left token_limit (le_trans few k.lent.few)));
          }

      pub end_written : (out : List ℕ) {out' : List ℕ} {r : RunAnswer} → EndWritten text h' e out r out'
          → Wrote run_family (run_read n quota (read token_limit n text)) out r out'
      unfolding run_read as_run
      end_written out {out'} {r} writes =
          let q = the_run.read_plan in
          let w = writes end_plan.plan end_plan.sized in
          let same_outcome : as_run (RAN e.ending e.steps end_plan.plan) ≡ run_read n quota (read token_limit n text) =
          sym (ap (run_read n quota) k.reads ∙ ap as_run the_run.runs
          ∙ ap₂ (GIVES (record { ending = e.ending; steps = e.steps })) cells_same printed-same) in
          subst (λ o. Wrote run_family o out r out') same_outcome w

-- RUN's refusals, where n cells are lent
module _ (text : List ℕ) (n quota : ℕ) (out : List ℕ) where
  pub refused_too_long : text_limit < length text → Wrote run_family (run_outcome standard n quota text) out (Err (NotRead (Text TooLong))) out
  refused_too_long h = wrote_refused run_family out (refuses_refused standard n quota text (text_too_long h))

  pub refused_arena : length text ≤ text_limit → cell_limit < n → Wrote run_family (run_outcome standard n quota text) out (Err BadArena) out
  refused_arena h g = wrote_refused run_family out (refuses_refused standard n quota text (bad_arena h g))

  -- a text that was accepted, or not read
  module _ (short : length text ≤ text_limit) (few : n ≤ cell_limit) where
    pub refused-text : {u : Unread} → Err u ≡ acceptance_told (accept standard n text) → Wrote run_family (run_outcome standard n quota text) out (Err (NotRead u)) out
    unfolding run_read
    refused-text told =
        wrote_refused run_family out
        (runs_short standard n quota text short few
        ∙ ap (run_read n quota) (sym (accept_short standard text n short) ∙ told_unread n text told))

    -- the cells as `Cell::new` makes them
    pub wrote_run : {outer : Cell} {out' : List ℕ} {r : RunAnswer} → outer.0 ≡ n
        → Wrote run_family (run_read outer.0 quota (read token_limit outer.0 text)) out r out' → Wrote run_family (run_outcome standard n quota text) out r out'
    wrote_run {out' = out'} {r} is w =
        subst (λ x. Wrote run_family x out r out') (sym (runs_short standard n quota text short few))
        (subst (λ k. Wrote run_family (run_read k quota (read token_limit k text)) out r out') is w)

-- what a run stands on
pub accepted_cell : (text : List ℕ) (n : ℕ) → length text ≤ text_limit → n ≤ cell_limit → {s : Size} → Ok s ≡ acceptance_told (accept standard n text)
    → {outer : Cell} (m : List ℕ) → outer.0 ≡ n → cell_numbers * n ≤ length m → TextAccepted text m outer.0 s.cells
accepted_cell text n short few told m is lent =
    let found = told_plan n text told in
    rw is
    (record {
      lent = record { room = lent; few = few };
      short = short;
      plan = found.plan;
      reads = (accepted_text standard n text found.accepted).reads;
      sized = sym (ap (λ s. s.cells) found.size);
    })

-- the whole service
pub ran_call : (text : List ℕ) (quota : ℕ) (memory memory₁ memory₂ out out' : List ℕ) (r : RunAnswer) → Wrote run_family (run_outcome standard (quarter (length memory)) quota text) out r out'
    → length memory₁ ≡ length memory → memory₂ ≡ cleared memory₁ → Runs text quota memory out r memory₂ out'
unfolding cleared
ran_call text quota memory memory₁ memory₂ out out' r w long e =
    record { wrote = w; zeroed = e ∙ ap (λ k. replicate k 0) long }
