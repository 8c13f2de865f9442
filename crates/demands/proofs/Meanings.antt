-- Laws of the request's words: a text reads as one plan only, so many rewrites lead to one plan only, and what is read or reached
-- by a run prints as a text that reads back as the same plan.
use Prim.Native.Nat.{ℕ, zero, suc, ◌*◌, ◌≤◌}
use mathlib.Core.Path.{◌≡◌, refl, ap, sym, subst, ◌∙◌}
use mathlib.Core.List.{List}
use native.Mathlib.Nat.{le_trans}
use native.Mathlib.Omega.{arith}
use lib.ListN.{length}
use borrow.Author.Tests.{le-leb}
use Rattle.std.proofs.lemmas.Option.{same_Some}
use Rattle.kinds.specs.Limits.{cell_limit, standard, token_limit}
use Rattle.rules.specs.declared.Ending.{Ending}
use Rattle.plan.specs.declared.Unread.{Unread}
use Rattle.plan.specs.Plan.{Plan, bare, cells, print}
use Rattle.plan.specs.Token.{Allowed}
use Rattle.plan.specs.Reading.{ACCEPTED, HoldsAnnotation, OUTSIDE, accept, fit, read, without_marks}
use Rattle.plan.specs.Refusals.{Unreadable}
use Rattle.rules.specs.Rewriting.{next}
use Rattle.rules.specs.Running.{Leads, Ran, RAN, run_plan}
use Rattle.plan.proofs.Annotations.{print_no_annotation}
use Rattle.plan.proofs.Plans.{cells-relabel, print-relabel}
use Rattle.plan.specs.Pieces.{placed}
use Rattle.plan.proofs.ReadBack.{bare-placed, print-bound, read_accepted}
use Rattle.plan.proofs.Refusals.{accepted_injective, accepted_is_not_unread, read_faultless, row_refused}
use Rattle.rules.proofs.Runs.{Run, ask_go, go, ran_run, run_allowed, run_cells, run_leads, run_relabel, spent, stop}
use Rattle.plan.proofs.Accepting.{accepted_text, accepts, print_accepted, standard_roomy, unread_iff}
use Rattle.answers.specs.declared.RunRefusal.{RunRefusal}
use Rattle.answers.specs.Run.{Refuses, bad_arena, text_refused, text_too_long}
use Rattle.demands.specs.Terms.{Bare, Ends, Reads, Rewritten}

pub reads_one : {n : ℕ} {text : List ℕ} {p q : Bare} → Reads n text p → Reads n text q → p ≡ q
reads_one g h = sym g.same ∙ ap bare (accepted_injective (sym g.accepted ∙ h.accepted)) ∙ h.same

-- and such a text is refused by no row of the table, READ's or RUN's
pub reads_not_unreadable : {A : Type 0} {n : ℕ} {text : List ℕ} {p : Bare} {u : Unread} → Reads n text p → Unreadable standard n text u → A
reads_not_unreadable {n = n} {text} {u = u} g row = accepted_is_not_unread (sym g.accepted ∙ (unread_iff standard n text u).1 row)

pub reads_not-refused : {A : Type 0} {n : ℕ} {text : List ℕ} {p : Bare} {x : RunRefusal} → Reads n text p → Refuses standard n text x → A
reads_not-refused {n = n} {text} g (text_too_long long) = absurd (omega (arith, (accepted_text standard n text g.accepted).short))
reads_not-refused g (bad_arena short over) = absurd (omega (arith, g.within))
reads_not-refused {n = n} {text} g (text_refused short few row) =
    accepted_is_not_unread (sym (accepted_text standard n text g.accepted).reads ∙ row_refused row)

-- more memory, within its limit, reads the same plan
pub reads_with_more : {n : ℕ} {text : List ℕ} {p : Bare} (m : ℕ) → n ≤ m → m ≤ cell_limit → Reads n text p → Reads m text p
unfolding read fit
reads_with_more {n} {text} m more within g =
    let ok = accepted_text standard n text g.accepted in
    let whole = read_faultless token_limit n text ok.reads in
    let again : read token_limit m text ≡ ACCEPTED g.placed =
    ap (fit m) whole.2 ∙ rw (le-leb (cells g.placed) m (le_trans whole.1 more)) in
    record {
      within = within;
      placed = g.placed;
      accepted = accepts standard m text (record { short = ok.short; reads = again });
      same = g.same;
    }

leads_one : (steps : ℕ) (p q q' : Bare) → Leads steps p q → Leads steps p q' → q ≡ q'
leads_one zero p q q' g h = sym g ∙ h
leads_one (suc steps) p q q' g h =
    let same : g.0 ≡ h.0 = same_Some _ _ (sym g.1 ∙ h.1) in
    leads_one steps h.0 q q' (subst (λ r. Leads steps r q) same g.2) h.2

pub rewritten_one : {n steps : ℕ} {text : List ℕ} {q q' : Bare} → Rewritten n text steps q → Rewritten n text steps q' → q ≡ q'
rewritten_one {steps = steps} {q = q} {q' = q'} g h =
    leads_one steps g.plan q q' g.leads (subst (λ p. Leads steps p q') (reads_one h.reads g.reads) h.leads)

-- every plan that a run passed through fits the cells lent
way_fits : {n quota steps : ℕ} {p q : Bare} {e : Ending} → Run n quota p e steps q → cells p ≤ n → (k : ℕ) (r : Bare) → k ≤ steps
    → Leads k p r → cells r ≤ n
way_fits {n} ran h zero r within leads = subst (λ s. cells s ≤ n) leads h
way_fits (stop g) h (suc k) r within leads = absurd (omega arith)
way_fits (spent g) h (suc k) r within leads = absurd (omega arith)
way_fits {n} (go {p = p} {r = s} g ran) h (suc k) r within leads =
    let next_fits = (ask_go n (next p) s).0 g in
    let same : leads.0 ≡ s = same_Some _ _ (sym leads.1 ∙ next_fits.0) in
    way_fits ran next_fits.1 k r (omega arith) (subst (λ t. Leads k t r) same leads.2)

-- A plan that came from reading and rewriting: its tokens are kept ones, and it fits the cells lent.
pub record Sound (n : ℕ) (q : Bare) : Type 0 where
  of : Plan ℕ
  same : bare of ≡ q
  fine : Allowed token_limit of
  fits : cells of ≤ n
  within : n ≤ cell_limit

pub reads_sound : {n : ℕ} {text : List ℕ} {p : Bare} → Reads n text p → Sound n p
reads_sound {n} {text} g =
    let ok = accepted_text standard n text g.accepted in
    let good = read_accepted token_limit n text ok.reads in
    record { of = g.placed; same = g.same; fine = good.fine; fits = good.fits; within = g.within }

-- what was read is printed as the text without its marks
pub reads_printed : {n : ℕ} {text : List ℕ} {p : Bare} → Reads n text p → print p ≡ without_marks OUTSIDE text
reads_printed {n} {text} g =
    let good = read_accepted token_limit n text (accepted_text standard n text g.accepted).reads in
    ap print (sym g.same) ∙ print-relabel (λ l. tt {0}) g.placed ∙ good.printed

module _ {n : ℕ} {q : Bare} (sound : Sound n q) where
  same-cells : cells sound.of ≡ cells q
  same-cells = sym (cells-relabel (λ l. tt {0}) sound.of) ∙ ap cells sound.same

  same_text : print sound.of ≡ print q
  same_text = sym (print-relabel (λ l. tt {0}) sound.of) ∙ ap print sound.same

  pub sound_cells : (cells q ≤ n) × (n ≤ cell_limit)
  sound_cells = (subst (◌≤ n) same-cells sound.fits, sound.within)

  -- a printed plan is at most 64 times its cells
  pub sound_length : length (print q) ≤ token_limit * cells q
  sound_length =
      omega (arith, print-bound token_limit sound.of standard_roomy.block sound.fine, same-cells, ap length same_text)

  -- it holds no annotation
  pub sound_unannotated : HoldsAnnotation (print q) → ⊥
  sound_unannotated = subst (λ t. HoldsAnnotation t → ⊥) same_text (print_no_annotation token_limit sound.of sound.fine)

  -- and reads back as the same plan
  pub sound_back : Reads n (print q) q
  sound_back =
      record {
        within = sound.within;
        placed = placed 0 sound.of;
        accepted =
            ap (accept standard n) (sym same_text)
            ∙ print_accepted standard standard_roomy n sound.within sound.of sound.fine sound.fits;
        same = bare-placed 0 sound.of ∙ sound.same;
      }

ran_injective : {e₁ e₂ : Ending} {steps₁ steps₂ : ℕ} {q₁ q₂ : Bare} → RAN e₁ steps₁ q₁ ≡ RAN e₂ steps₂ q₂ → q₁ ≡ q₂
ran_injective h = cc

module _ {n quota : ℕ} {text : List ℕ} {e : Ending} {steps : ℕ} {q : Bare} (ends : Ends n quota text e steps q) where
  pub ends_rewritten : Rewritten n text steps q
  ends_rewritten = record { plan = ends.plan; reads = ends.reads; leads = run_leads n quota ends.plan ends.ran }

  pub ends_sound : Sound n q
  unfolding reads_sound
  ends_sound = by_run (run_plan n quota ends.reads.placed) refl
    where
      read : Sound n ends.plan
      read = reads_sound ends.reads

      by_run : (y : Ran ℕ) → run_plan n quota ends.reads.placed ≡ y → Sound n q
      by_run (RAN e' steps' q₀) h =
          let ran : run_plan n quota ends.plan ≡ RAN e' steps' (bare q₀) =
          subst (λ p. run_plan n quota p ≡ RAN e' steps' (bare q₀)) ends.reads.same (run_relabel (λ l. tt) n quota ends.reads.placed h) in
          record {
            of = q₀;
            same = ran_injective (sym ran ∙ ends.ran);
            fine = run_allowed n quota ends.reads.placed h token_limit read.fine;
            fits = run_cells n quota ends.reads.placed h read.fits;
            within = read.within;
          }

  -- so many rewrites as the run made, or fewer, lead to a plan that fits the cells lent
  pub ends_way : {k : ℕ} {r : Bare} → k ≤ steps → Rewritten n text k r → cells r ≤ n
  ends_way {k} {r} within h =
      way_fits (ran_run n quota ends.plan ends.ran) (sound_cells (reads_sound ends.reads)).0 k r within
      (subst (λ p. Leads k p r) (reads_one h.reads ends.reads) h.leads)

  -- a run has one end
  pub ends_one : {e' : Ending} {steps' : ℕ} {q' : Bare} → Ends n quota text e' steps' q' → RAN e steps q ≡ RAN e' steps' q'
  ends_one other =
      sym ends.ran ∙ ap (run_plan n quota) (reads_one ends.reads other.reads) ∙ other.ran

  pub ends_same : {e' : Ending} {steps' : ℕ} {q' : Bare} → Ends n quota text e' steps' q' → q ≡ q'
  ends_same other = ran_injective (ends_one other)
