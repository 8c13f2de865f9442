-- Which texts are accepted: those within their limit that read as a plan that fits; each refusal exactly when its row says; and every
-- printed plan is accepted again.
use Prim.Native.Nat.{ℕ, ◌*◌, ◌≤◌, ◌<◌}
use mathlib.Core.Path.{◌≡◌, refl, ap, sym, ◌∙◌, subst}
use mathlib.Core.Bool.{Bool, true, false, cond}
use mathlib.Core.Logic.{◌↔◌}
use mathlib.Core.List.{List}
use native.Mathlib.Omega.{arith}
use native.Mathlib.Nat.{le_trans, mul-le-mul_left}
use lib.ListN.{length}
use lib.Dec.{ltb}
use borrow.Author.Tests.{ltb-true, ltb-false, lt-ltb, le-ltb}
use Rattle.kinds.specs.Limits.{Limits, standard}
use Rattle.plan.specs.declared.TextFault.TheVariants.{TooLong}
use Rattle.plan.specs.declared.Unread.{Unread}
use Rattle.plan.specs.Pieces.{placed}
use Rattle.plan.specs.Plan.{Plan, end, cells, print}
use Rattle.plan.specs.Reading.{ACCEPTED, FAULT, PLAN, UNREAD, accept, fit, outermost, read, read_from, read_text}
use Rattle.plan.specs.Refusals.{Unreadable, bad_text, too_long}
use Rattle.plan.specs.Token.{Allowed}
use Rattle.plan.proofs.ReadBack.{print-bound, read-print}
use Rattle.plan.proofs.Refusals.{fit_accepted, refused-row, row_refused, unread_injective}
use Rattle.kinds.proofs.Tests.{never}

module _ (lim : Limits) (text : List ℕ) where
  pub text_too_long : lim.text < length text → read_text lim text ≡ FAULT TooLong
  unfolding read_text
  text_too_long h = rw (lt-ltb lim.text (length text) h)

  pub text_short : length text ≤ lim.text → read_text lim text ≡ read_from lim.token 0 0 outermost end text
  unfolding read_text
  text_short h = rw (le-ltb lim.text (length text) h)

  -- a text that reads is within its limit
  pub reads_short : {p : Plan ℕ} → read_text lim text ≡ PLAN p → (length text ≤ lim.text) × (read_from lim.token 0 0 outermost end text ≡ PLAN p)
  unfolding read_text
  reads_short {p} e = go (ltb lim.text (length text)) refl e
    where
      go : (s : Bool) → ltb lim.text (length text) ≡ s → cond s (FAULT TooLong) (read_from lim.token 0 0 outermost end text) ≡ PLAN p
          → (length text ≤ lim.text) × (read_from lim.token 0 0 outermost end text ≡ PLAN p)
      go true u h = never cc
      go false u h = (ltb-false _ _ u, h)

  pub accept_short : (n : ℕ) → length text ≤ lim.text → accept lim n text ≡ read lim.token n text
  unfolding accept read
  accept_short n h = ap (fit n) (text_short h)

-- an accepted text is short enough, and reads
pub record AcceptedText (lim : Limits) (n : ℕ) (text : List ℕ) (p : Plan ℕ) : Type 0 where
  pub short : length text ≤ lim.text
  pub reads : read lim.token n text ≡ ACCEPTED p

module _ (lim : Limits) (n : ℕ) (text : List ℕ) where
  pub accepted_text : {p : Plan ℕ} → accept lim n text ≡ ACCEPTED p → AcceptedText lim n text p
  unfolding accept
  accepted_text e =
      let short = (reads_short lim text (fit_accepted n (read_text lim text) e).0).0 in
      record { short = short; reads = sym (accept_short lim text n short) ∙ e }

  pub accepts : {p : Plan ℕ} → AcceptedText lim n text p → accept lim n text ≡ ACCEPTED p
  accepts a = accept_short lim text n a.short ∙ a.reads

  refused_unreadable : {u : Unread} → accept lim n text ≡ UNREAD u → Unreadable lim n text u
  unfolding accept read_text fit read
  refused_unreadable {u} e = go (ltb lim.text (length text)) refl e
    where
      go : (s : Bool) → ltb lim.text (length text) ≡ s
          → fit n (cond s (FAULT TooLong) (read_from lim.token 0 0 outermost end text)) ≡ UNREAD u → Unreadable lim n text u
      go true t h = subst (Unreadable lim n text) (unread_injective h) (too_long (ltb-true _ _ t))
      go false t h = bad_text (ltb-false _ _ t) (refused-row lim.token n text h)

  unreadable_refused : {u : Unread} → Unreadable lim n text u → accept lim n text ≡ UNREAD u
  unfolding accept fit
  unreadable_refused (too_long h) = ap (fit n) (text_too_long lim text h)
  unreadable_refused (bad_text h row) = accept_short lim text n h ∙ row_refused row

  -- a text is refused with 11, 13 to 17 or 21 to 25 exactly when the row says, and no other row then does
  pub unread_iff : (u : Unread) → (accept lim n text ≡ UNREAD u) ↔ Unreadable lim n text u
  unread_iff u = (refused_unreadable, unreadable_refused)

  pub one_refusal : {u v : Unread} → Unreadable lim n text u → Unreadable lim n text v → u ≡ v
  one_refusal g h = unread_injective (sym (unreadable_refused g) ∙ unreadable_refused h)

-- limits under which every printed plan is short enough to be read
pub record Roomy (lim : Limits) : Type 0 where
  pub block : 2 ≤ lim.token
  pub plan : lim.token * lim.cells ≤ lim.text

pub standard_roomy : Roomy standard
standard_roomy = record { block = omega arith; plan = omega arith }

-- a printed plan is never too long, and with its own cells lent never over them
pub print_accepted : (lim : Limits) → Roomy lim → (n : ℕ) → n ≤ lim.cells → (p : Plan ℕ) → Allowed lim.token p → cells p ≤ n
    → accept lim n (print p) ≡ ACCEPTED (placed 0 p)
print_accepted lim roomy n lent p fine fits =
    accepts lim n (print p)
    (record {
      short = omega (arith, print-bound lim.token p roomy.block fine, mul-le-mul_left lim.token (le_trans fits lent), roomy.plan);
      reads = read-print lim.token n p fine fits;
    })
