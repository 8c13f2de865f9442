-- Request 4: "A text is acceptable when nothing but OUTSHORT could refuse it", and "An output of no bytes gives OUTSHORT and the bytes
-- needed, unless the plan is empty." The output changes no other refusal. And what shuts out two bad versions of READ.
use Prim.Native.Nat.{ℕ, ◌≤◌}
use mathlib.Core.Path.{◌≡◌, refl, ap, sym, ◌∙◌}
use mathlib.Core.Logic.{◌↔◌, ◌≢◌}
use mathlib.Core.Bool.{true, false}
use mathlib.Core.List.{List, []}
use native.Mathlib.Omega.{arith}
use lib.ListN.{length}
use Rattle.std.specs.Prelude.{Ok}
use Rattle.kinds.specs.Limits.{cell_limit, standard}
use Rattle.numbers.specs.declared.Numbers.{Numbers}
use Rattle.plan.specs.declared.ReadRefusal.TheVariants.{NotRead}
use Rattle.plan.specs.declared.Unread.{Unread}
use Rattle.plan.specs.Plan.{bare, block, cells, end, operator, print, relabel, token}
use Rattle.plan.specs.Reading.{OUTSIDE, accept, fit, read_from, read_text, without_marks}
use Rattle.plan.specs.Read.{ReadAnswer, acceptable, sized}
use Rattle.plan.specs.Refusals.{Unreadable}
use Rattle.plan.proofs.Acceptable.{acceptable_plan, accepted_acceptable, refused_unacceptable, unacceptable_refused}
use Rattle.plan.proofs.Accepting.{unread_iff}
use Rattle.numbers.specs.Numbers.{given_numbers, outshort_numbers, read_numbers, read_refusal_numbers, unread_numbers}
use Rattle.numbers.proofs.Told.{read_refusal_number_is, unread_number_is}
use Rattle.read.specs.Calls.{ReadsOut}
use Rattle.demands.specs.Terms.{Bare, IsRefusal, OUTSHORT, Reads, Unrefused, saved}
use Rattle.demands.proofs.Answered.{every_read-answered}
use Rattle.demands.proofs.Cases.{ReadCase, bad_text, is_read, out_short, read_case, read-saved, text-read}
use Rattle.demands.proofs.Meanings.{reads_not_unreadable, reads_one, reads_printed}
use Rattle.demands.proofs.PassedOn.{refused_by_its_text}

-- the equivalent, in the words of the demands; `acceptable_exactly_when` of the definitions' laws spells out the limits
-- a theorem of acceptable texts
pub acceptable_reads : (text : List ℕ) → (acceptable standard text ≡ true) ↔ ((p : Bare) × Reads cell_limit text p)
acceptable_reads text = (
  λ e. let a = acceptable_plan standard text e in (bare a.plan, record { within = omega arith; placed = a.plan; accepted = a.accepted; same = refl }),
  λ (p, reads). accepted_acceptable standard text reads.accepted,
)

-- and one that is not is refused by a row of the table
-- a theorem of acceptable texts
pub unacceptable_exactly_when : (text : List ℕ) → (acceptable standard text ≡ false) ↔ ((u : Unread) × Unreadable standard cell_limit text u)
unacceptable_exactly_when text = (
  λ e. let (u, refused) = unacceptable_refused standard text e in (u, (unread_iff standard cell_limit text u).0 refused),
  λ (u, row). refused_unacceptable standard text ((unread_iff standard cell_limit text u).1 row),
)

-- "nothing but OUTSHORT could refuse it": no call of READ is refused otherwise, whatever its output
-- a theorem of acceptable texts
pub nothing_but_outshort : (text : List ℕ) → (acceptable standard text ≡ true)
    ↔ ((out : List ℕ) (r : ReadAnswer) (out' : List ℕ) → ReadsOut text out r out' → IsRefusal read_refusal_numbers (read_numbers r) → (read_numbers r).number ≡ OUTSHORT)
nothing_but_outshort text = (λ e out r out' call refused. to ((acceptable_reads text).0 e).1 (read_case call) refused, λ h. from h)
  where
    to : {p : Bare} → Reads cell_limit text p → {out : List ℕ} {r : ReadAnswer} {out' : List ℕ} → ReadCase text out r out' → IsRefusal read_refusal_numbers (read_numbers r)
        → (read_numbers r).number ≡ OUTSHORT
    to reads (bad_text g) refused = reads_not_unreadable reads g
    to reads (out_short g short) refused = refl
    to reads (is_read g fits) (x, h) = absurd (omega (arith, (read_refusal_number_is x).over, ap (λ (v : Numbers). v.number) h))

    by_case : {r : ReadAnswer} {out' : List ℕ} → ReadCase text [] r out' → (IsRefusal read_refusal_numbers (read_numbers r) → (read_numbers r).number ≡ OUTSHORT) → acceptable standard text ≡ true
    by_case (bad_text {u} g) h = absurd ((unread_number_is u).no_outshort (h (NotRead u, refl)))
    by_case (out_short g short) h = (acceptable_reads text).1 (_, g)
    by_case (is_read g fits) h = (acceptable_reads text).1 (_, g)

    from : ((out : List ℕ) (r : ReadAnswer) (out' : List ℕ) → ReadsOut text out r out' → IsRefusal read_refusal_numbers (read_numbers r) → (read_numbers r).number ≡ OUTSHORT)
        → acceptable standard text ≡ true
    from h = let (r, out', call) = every_read-answered text [] in by_case (read_case call) (h [] r out' call)

-- only the empty plan is printed as nothing
nothing_printed : (p : Bare) → length (print p) ≤ 0 → p ≡ end
unfolding print
nothing_printed end h = refl
nothing_printed (operator l o p) h = absurd (omega arith)
nothing_printed (token l t p) h = absurd (omega arith)
nothing_printed (block l b p) h = absurd (omega arith)

module _ {text : List ℕ} {p : Bare} (reads : Reads cell_limit text p) where
  -- "An output of no bytes gives OUTSHORT and the bytes needed, unless the plan is empty."
  -- a theorem of acceptable texts
  pub no_bytes-lent : {r : ReadAnswer} {out' : List ℕ} → ReadsOut text [] r out'
      → (p ≢ end → read_numbers r ≡ outshort_numbers (length (print p))) × (p ≡ end → read_numbers r ≡ given_numbers 0 0)
  unfolding print cells
  no_bytes-lent call = go (read_case call)
    where
      go : {r : ReadAnswer} {out' : List ℕ} → ReadCase text [] r out'
          → (p ≢ end → read_numbers r ≡ outshort_numbers (length (print p))) × (p ≡ end → read_numbers r ≡ given_numbers 0 0)
      go (bad_text g) = reads_not_unreadable reads g
      go (out_short {p = q} g short) = (
        λ some. ap (λ (q : Bare). outshort_numbers (length (print q))) (reads_one g reads),
        λ none. absurd (omega (arith, ap (λ (q : Bare). length (print q)) (reads_one g reads ∙ none))),
      )
      go (is_read {p = q} g fits) = (
        λ some. absurd (some (sym (reads_one g reads) ∙ nothing_printed q fits)),
        λ none. ap (λ (q : Bare). given_numbers (cells q) (length (print q))) (reads_one g reads ∙ none),
      )

  -- an output that is long enough gives READ, with the cells and the length
  -- a theorem of acceptable texts
  pub room_lent : {out : List ℕ} {r : ReadAnswer} {out' : List ℕ} → ReadsOut text out r out' → length (print p) ≤ length out
      → r ≡ Ok (sized (cells p) (length (print p)))
  room_lent {out} call room = go (read_case call)
    where
      go : {r : ReadAnswer} {out' : List ℕ} → ReadCase text out r out' → r ≡ Ok (sized (cells p) (length (print p)))
      go (bad_text g) = reads_not_unreadable reads g
      go (out_short g short) = absurd (omega (arith, ap (λ (q : Bare). length (print q)) (reads_one g reads)))
      go (is_read g fits) = ap (λ (q : Bare). Ok (sized (cells q) (length (print q)))) (reads_one g reads)

-- any other refusal stands whatever the output
-- a theorem of acceptable texts
pub refused_whatever_the_output : {text out out₂ : List ℕ} {r s : ReadAnswer} {out' out₂' : List ℕ} → ReadsOut text out r out' → ReadsOut text out₂ s out₂'
    → (u : Unread) → (read_numbers r ≡ unread_numbers u) ↔ (read_numbers s ≡ unread_numbers u)
refused_whatever_the_output call call₂ u = (
  λ told. (refused_by_its_text call₂ u).0 ((refused_by_its_text call u).1 told),
  λ told. (refused_by_its_text call u).0 ((refused_by_its_text call₂ u).1 told),
)

-- A version that refuses all texts: the empty text is never refused, nor is any acceptable text with room for it.
-- a theorem of acceptable texts
pub empty_text-read : {out : List ℕ} {r : ReadAnswer} {out' : List ℕ} → ReadsOut [] out r out' → r ≡ Ok (sized 0 0)
unfolding accept read_text read_from fit cells print relabel
empty_text-read call =
    let reads : Reads cell_limit [] end = record { within = omega arith; placed = end; accepted = refl; same = refl } in
    room_lent reads call (omega arith)

-- A version that prints the text as read: what is saved is the text without its marks, so a text that has any is never printed as read.
-- a theorem of acceptable texts
pub saved-without_marks : {text out : List ℕ} {r : ReadAnswer} {out' : List ℕ} → ReadsOut text out r out' → Unrefused (read_numbers r) → saved (read_numbers r) out' ≡ without_marks OUTSIDE text
saved-without_marks call unrefused = let x = text-read call unrefused in read-saved x ∙ reads_printed x.reads

-- a theorem of acceptable texts
pub marks_never_printed : {text out : List ℕ} {r : ReadAnswer} {out' : List ℕ} → ReadsOut text out r out' → Unrefused (read_numbers r)
    → without_marks OUTSIDE text ≢ text → saved (read_numbers r) out' ≢ text
marks_never_printed call unrefused marked as_read = marked (sym (saved-without_marks call unrefused) ∙ as_read)
