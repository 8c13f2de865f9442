-- Which texts are acceptable: the equivalent that callers use, and what is known of such a text and of its plan.
use Prim.Native.Nat.{ℕ, ◌≤◌}
use mathlib.Core.Path.{◌≡◌, refl, ap, sym, ◌∙◌}
use mathlib.Core.Logic.{◌↔◌}
use mathlib.Core.Bool.{true, false}
use mathlib.Core.List.{List}
use borrow.Author.Tests.{le-leb}
use lib.ListN.{length}
use Rattle.kinds.specs.Limits.{Limits}
use Rattle.plan.specs.declared.Unread.{Unread}
use Rattle.plan.specs.Pieces.{Shows, pieces}
use Rattle.plan.specs.Plan.{Plan, end, cells, print}
use Rattle.plan.specs.Outcomes.{is_given}
use Rattle.plan.specs.Read.{acceptable, as_read, read_outcome}
use Rattle.plan.specs.Reading.{ACCEPTED, Acceptance, OUTSIDE, PLAN, UNREAD, accept, fit, outermost, plan_in, plan_of, read, read_from, without_marks}
use Rattle.plan.specs.Token.{Allowed}
use Rattle.plan.proofs.Accepting.{accepted_text, accepts}
use Rattle.plan.proofs.ReadBack.{read_accepted}
use Rattle.plan.proofs.Refusals.{read_faultless}
use Rattle.kinds.proofs.Tests.{false_is_not_true}

module _ (lim : Limits) (n : ℕ) (text : List ℕ) {p : Plan ℕ} where
  -- a text that is accepted where n cells are lent is within its limit and reads as its plan, which has n cells at most;
  pub accepted_parts : accept lim n text ≡ ACCEPTED p
      → (length text ≤ lim.text) × (read_from lim.token 0 0 outermost end text ≡ PLAN p) × (cells p ≤ n)
  accepted_parts h =
      let t = accepted_text lim n text h in
      (t.short, (read_faultless lim.token n text t.reads).2, (read_accepted lim.token n text t.reads).fits)

  -- and such a text is accepted
  pub parts_accepted : length text ≤ lim.text → read_from lim.token 0 0 outermost end text ≡ PLAN p → cells p ≤ n
      → accept lim n text ≡ ACCEPTED p
  unfolding read fit
  parts_accepted short is few = accepts lim n text (record { short = short; reads = ap (fit n) is ∙ rw (le-leb (cells p) n few) })

-- what is known of an acceptable text and of its plan
pub record AcceptableText (lim : Limits) (text : List ℕ) : Type 0 where
  pub plan : Plan ℕ
  pub accepted : accept lim lim.cells text ≡ ACCEPTED plan
  pub reads : read_from lim.token 0 0 outermost end text ≡ PLAN plan
  pub plan_is : plan_of lim.token text ≡ plan
  pub short : length text ≤ lim.text
  pub fits : cells plan ≤ lim.cells
  pub fine : Allowed lim.token plan
  pub shows : Shows lim.token 0 text (pieces plan)
  pub printed : print plan ≡ without_marks OUTSIDE text

module _ (lim : Limits) (text : List ℕ) where
  pub accepted_acceptable : {p : Plan ℕ} → accept lim lim.cells text ≡ ACCEPTED p → acceptable lim text ≡ true
  unfolding acceptable read_outcome as_read is_given
  accepted_acceptable h = ap (λ x. is_given (as_read x)) h

  pub refused_unacceptable : {u : Unread} → accept lim lim.cells text ≡ UNREAD u → acceptable lim text ≡ false
  unfolding acceptable read_outcome as_read is_given
  refused_unacceptable h = ap (λ x. is_given (as_read x)) h

  pub unacceptable_refused : acceptable lim text ≡ false → (u : Unread) × (accept lim lim.cells text ≡ UNREAD u)
  unacceptable_refused e = go (accept lim lim.cells text) refl
    where
      go : (x : Acceptance) → accept lim lim.cells text ≡ x → (u : Unread) × (accept lim lim.cells text ≡ UNREAD u)
      go (ACCEPTED p) h = false_is_not_true (sym e ∙ accepted_acceptable h)
      go (UNREAD u) h = (u, h)

  pub accepted_plan : {p : Plan ℕ} → accept lim lim.cells text ≡ ACCEPTED p → plan_of lim.token text ≡ p
  unfolding plan_of plan_in
  accepted_plan h = ap plan_in (accepted_parts lim lim.cells text h).1

  pub acceptable_plan : acceptable lim text ≡ true → AcceptableText lim text
  acceptable_plan e = go (accept lim lim.cells text) refl
    where
      go : (x : Acceptance) → accept lim lim.cells text ≡ x → AcceptableText lim text
      go (UNREAD u) h = false_is_not_true (sym (refused_unacceptable h) ∙ e)
      go (ACCEPTED p) h =
          let (short, is, few) = accepted_parts lim lim.cells text h in
          let known = read_accepted lim.token lim.cells text (accepted_text lim lim.cells text h).reads in
          record {
            plan = p;
            accepted = h;
            reads = is;
            plan_is = accepted_plan h;
            short = short;
            fits = few;
            fine = known.fine;
            shows = known.shows;
            printed = known.printed;
          }

  -- "a text of at most 1,048,576 bytes that reads as a plan of at most 4,096 cells"
  -- a theorem of acceptable texts
  pub acceptable_exactly_when : (acceptable lim text ≡ true)
      ↔ ((p : Plan ℕ) × (length text ≤ lim.text) × (read_from lim.token 0 0 outermost end text ≡ PLAN p) × (cells p ≤ lim.cells))
  acceptable_exactly_when = (
    λ e. let a = acceptable_plan e in (a.plan, a.short, a.reads, a.fits),
    λ (p, short, is, few). accepted_acceptable {p = p} (parts_accepted lim lim.cells text short is few),
  )
