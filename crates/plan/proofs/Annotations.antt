-- Annotations mean nothing: no printed text holds one, and a text from which its marks are taken out reads as it did.
use Prim.Native.Nat.{ℕ, suc, ◌<◌, ◌≤◌}
use mathlib.Core.Path.{◌≡◌, refl, ap, sym, ◌∙◌, subst}
use mathlib.Core.Bool.{true, false}
use mathlib.Core.Logic.{◌≢◌}
use mathlib.Core.List.{List, [], ◌∷◌, ◌++◌, append_assoc, append-nil}
use native.Mathlib.Omega.{arith}
use lib.ListN.{length, get_or}
use Rattle.plan.specs.Plan.{Operator, op_a, op_b, op_c, op_d, Plan, end, operator, token, block, letter, print, close_bracket, open_brace, close_brace}
use Rattle.plan.specs.Token.{Allowed, allowed, ampersand, annotation}
use Rattle.plan.specs.Reading.{ACCEPTED, HoldsAnnotation, OUTSIDE, accept, without_marks}
use Rattle.plan.specs.Pieces.{placed}
use Rattle.kinds.specs.Limits.{Limits}
use Rattle.plan.specs.Read.{as_read, read_outcome}
use Rattle.plan.proofs.MayHold.{opening}
use Rattle.plan.proofs.ReadBack.{cells-placed, print-placed, read_accepted}
use Rattle.plan.proofs.Accepting.{Roomy, accepted_text, print_accepted}
use Rattle.plan.proofs.Taken.{byte_not_held, permitted_taken}
use Rattle.kinds.proofs.Tests.{false_is_not_true}
use Rattle.plan.proofs.Tokens.{allowed-parts, annotation-of}

-- no `{` is followed by a `&`, byte by byte
abbrev Clear : List ℕ → Type 0
Clear [] = Unit {0}
Clear (b ∷ bs) = (b ≡ open_brace → annotation bs ≡ false) × Clear bs

clear_nowhere : (bs : List ℕ) → Clear bs → HoldsAnnotation bs → ⊥
unfolding annotation
clear_nowhere bs c (before, rest, e) = go before (subst Clear e c)
  where
    go : (before : List ℕ) → Clear (before ++ open_brace ∷ ampersand ∷ rest) → ⊥
    go [] c = false_is_not_true (sym (c.0 refl))
    go (b ∷ before) c = go before c.1

-- bytes of which none is a `{`
clear_past : (t us : List ℕ) → ((i : ℕ) → i < length t → get_or t i 0 ≢ open_brace) → Clear us → Clear (t ++ us)
clear_past [] us none c = c
clear_past (b ∷ t) us none c = (λ e. absurd (none 0 (omega arith) e), clear_past t us (λ i h. none (suc i) (omega arith)) c)

-- a token's text holds none
no_brace_inside : (limit : ℕ) (t : List ℕ) → allowed limit t ≡ true → (i : ℕ) → i < length t → get_or t i 0 ≢ open_brace
no_brace_inside limit t a i h =
    subst (λ us. get_or us i 0 ≢ open_brace) (append-nil t)
    (byte_not_held open_brace (omega arith) (sym (opening open_brace refl)) t [] (permitted_taken t (allowed-parts limit t a).2) i h)

no_brace_letter : (o : Operator) → letter o ≢ open_brace
unfolding letter
no_brace_letter op_a e = omega arith
no_brace_letter op_b e = omega arith
no_brace_letter op_c e = omega arith
no_brace_letter op_d e = omega arith

module _ {L : Type 0} (limit : ℕ) where
  clear_print : (p : Plan L) → Allowed limit p → (us : List ℕ) → Clear us → Clear (print p ++ us)
  unfolding print
  clear_print end h us c = c
  clear_print (operator l o p) h us c = (λ e. absurd (no_brace_letter o e), clear_print p h us c)
  clear_print (token l t p) h us c =
      let later : Clear (close_brace ∷ (print p ++ us)) = (λ e. absurd (omega arith), clear_print p h.1 us c) in
      rw (append_assoc t (close_brace ∷ print p) us) (
        λ e. annotation-of limit t (close_brace ∷ (print p ++ us)) h.0.fine ∙ h.0.own,
        clear_past t (close_brace ∷ (print p ++ us)) (no_brace_inside limit t h.0.fine) later,
      )
  clear_print (block l b p) h us c =
      let later : Clear (close_bracket ∷ (print p ++ us)) = (λ e. absurd (omega arith), clear_print p h.1 us c) in
      rw (append_assoc (print b) (close_bracket ∷ print p) us)
      (λ e. absurd (omega arith), clear_print b h.0 (close_bracket ∷ (print p ++ us)) later)

  -- no printed text holds an annotation
  -- a theorem of annotations
  pub print_no_annotation : (p : Plan L) → Allowed limit p → HoldsAnnotation (print p) → ⊥
  print_no_annotation p h = clear_nowhere (print p) (rw append-nil at (clear_print p h [] tt))

-- a text that is accepted reads without its marks as the same plan
-- a theorem of annotations
pub accept-without_marks : (lim : Limits) → Roomy lim → (n : ℕ) → n ≤ lim.cells → (text : List ℕ) {p : Plan ℕ} → accept lim n text ≡ ACCEPTED p
    → accept lim n (without_marks OUTSIDE text) ≡ ACCEPTED (placed 0 p)
accept-without_marks lim roomy n lent text {p} h =
    let good = read_accepted lim.token n text (accepted_text lim n text h).reads in
    ap (accept lim n) (sym good.printed) ∙ print_accepted lim roomy n lent p good.fine good.fits

-- a theorem of annotations
pub reads_without_marks : (lim : Limits) → Roomy lim → (text : List ℕ) {p : Plan ℕ} → accept lim lim.cells text ≡ ACCEPTED p
    → read_outcome lim (without_marks OUTSIDE text) ≡ read_outcome lim text
unfolding read_outcome as_read
reads_without_marks lim roomy text {p} h =
    rw (accept-without_marks lim roomy lim.cells (omega arith) text h, h, cells-placed 0 p, print-placed 0 p)
