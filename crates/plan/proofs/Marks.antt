-- A text without its marks, piece by piece: what is kept of a byte and of a token, and that nothing is kept of a mark.
use Prim.Native.Nat.{ℕ}
use mathlib.Core.Path.{◌≡◌, refl, ap, sym, ◌∙◌}
use mathlib.Core.Bool.{true, false, cond}
use mathlib.Core.Logic.{◌≢◌}
use mathlib.Core.List.{List, [], ◌∷◌, ◌++◌, append_assoc}
use borrow.Author.Tests.{ne_eqb}
use Rattle.plan.specs.Plan.{open_brace, close_brace}
use Rattle.plan.specs.Token.{KeptToken, annotation}
use Rattle.plan.specs.Reading.{Class, OPERATOR, OPEN, CLOSE, BRACE, BLANK, BAD, Mark, blank, an_annotation, OUTSIDE, IN_TOKEN, IN_ANNOTATION, class, enter, leave, mark, without_marks}
use Rattle.plan.specs.Refusals.{Begins}
use Rattle.plan.proofs.Classes.{class_byte, clash, not_brace}
use Rattle.kinds.proofs.Tests.{false_is_not_true}
use Rattle.plan.proofs.Tokens.{NoBrace, allowed_no_brace, annotation-of}

-- what begins with another byte than a `{` or a blank is no mark
no_mark : (c : Class) (rest : List ℕ) → c ≢ BRACE → c ≢ BLANK → mark c rest ≡ false
unfolding mark
no_mark (OPERATOR o) rest h k = refl
no_mark OPEN rest h k = refl
no_mark CLOSE rest h k = refl
no_mark BRACE rest h k = absurd (h refl)
no_mark BLANK rest h k = absurd (k refl)
no_mark BAD rest h k = refl

pub kept : (b : ℕ) (bs : List ℕ) → class b ≢ BRACE → class b ≢ BLANK → without_marks OUTSIDE (b ∷ bs) ≡ b ∷ without_marks OUTSIDE bs
unfolding without_marks enter
kept b bs h k = rw (no_mark (class b) bs h k, not_brace b h)

in_token : (t bs : List ℕ) → NoBrace t → without_marks IN_TOKEN (t ++ close_brace ∷ bs) ≡ t ++ close_brace ∷ without_marks OUTSIDE bs
unfolding without_marks leave
in_token [] bs h = refl
in_token (b ∷ t) bs h = rw (ne_eqb b close_brace h.0, in_token t bs h.1)

in_annotation : (t bs : List ℕ) → NoBrace t → without_marks IN_ANNOTATION (t ++ close_brace ∷ bs) ≡ without_marks OUTSIDE bs
unfolding without_marks leave
in_annotation [] bs h = refl
in_annotation (b ∷ t) bs h =
    ap (λ e. without_marks (cond e OUTSIDE IN_ANNOTATION) (t ++ close_brace ∷ bs)) (ne_eqb b close_brace h.0) ∙ in_annotation t bs h.1

brace : (b : ℕ) → class b ≡ BRACE → b ≡ open_brace
brace b c = rw c at (class_byte b)

pub token_kept : (limit b : ℕ) (t bs : List ℕ) → class b ≡ BRACE → KeptToken limit t
    → without_marks OUTSIDE (b ∷ (t ++ close_brace ∷ bs)) ≡ open_brace ∷ (t ++ close_brace ∷ without_marks OUTSIDE bs)
unfolding without_marks enter mark
token_kept limit b t bs c n =
    rw (c, annotation-of limit t (close_brace ∷ bs) n.fine, n.own, brace b c)
    (ap (open_brace ∷◌) (in_token t bs (allowed_no_brace limit t n.fine)))

pub mark_dropped : {limit b : ℕ} {m : List ℕ} (bs : List ℕ) → Mark limit b m → without_marks OUTSIDE (b ∷ (m ++ bs)) ≡ without_marks OUTSIDE bs
unfolding without_marks enter mark
mark_dropped {b = b} bs (blank c) = rw (c, not_brace b (λ z. clash (sym c ∙ z) tt))
mark_dropped {limit} {b} bs (an_annotation t c a e) =
    rw (append_assoc t (close_brace ∷ []) bs, c, annotation-of limit t (close_brace ∷ bs) a, e, brace b c)
    (in_annotation t bs (allowed_no_brace limit t a))

-- its first bytes tell it
pub mark_told : {limit b : ℕ} {m : List ℕ} (bs : List ℕ) → Mark limit b m → mark (class b) (m ++ bs) ≡ true
unfolding mark
mark_told bs (blank c) = rw c
mark_told {limit} bs (an_annotation t c a e) =
    rw c (ap annotation (append_assoc t (close_brace ∷ []) bs) ∙ annotation-of limit t (close_brace ∷ bs) a ∙ e)

-- it is no item
pub mark_begins_none : {limit b : ℕ} {m : List ℕ} (bs : List ℕ) → Mark limit b m → Begins (class b) (m ++ bs) → ⊥
unfolding mark
mark_begins_none bs (blank c) g = rw c at g
mark_begins_none bs (an_annotation t c a e) g = false_is_not_true (sym (rw c at g) ∙ (rw c at (mark_told bs (an_annotation t c a e))))
