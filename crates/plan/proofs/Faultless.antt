-- Bytes without a fault behind bytes without a fault hold no fault together. And how many bytes blocks, items and the
-- text without its marks take at the least.
use Prim.Native.Nat.{ℕ, suc, ◌+◌, ◌≤◌, ◌<◌}
use mathlib.Core.Path.{◌≡◌, refl, ap, sym, ◌∙◌, subst}
use mathlib.Core.Logic.{◌≢◌}
use mathlib.Core.List.{List, [], ◌∷◌, ◌++◌, append_assoc}
use native.Mathlib.Omega.{arith}
use native.Mathlib.Nat.{zero-add, suc-add}
use native.Mathlib.Numerals.{add-one}
use lib.ListN.{length, get_or, take, length-append}
use lib.Seq.{take-suc}
use Rattle.plan.specs.Plan.{open_brace, close_brace}
use Rattle.plan.specs.Reading.{BRACE, BLANK, Region, OUTSIDE, IN_TOKEN, IN_ANNOTATION, class, enter, leave, mark, without_marks}
use Rattle.plan.specs.Refusals.{Faultless, nothing, a_mark, an_operator, a_token, opens, closes}
use Rattle.plan.proofs.Marks.{kept, mark_dropped, token_kept}
use Rattle.plan.proofs.Classes.{clash}
use Rattle.kinds.proofs.Tests.{cond_cases}

pub faultless_then : {limit d e f j k : ℕ} {xs ys : List ℕ} → Faultless limit d xs e j → Faultless limit e ys f k
    → Faultless limit d (xs ++ ys) f (j + k)
faultless_then nothing g = rw zero-add g
faultless_then {ys = ys} (a_mark {m = m} {bs = bs} h f) g = rw (append_assoc m bs ys) (a_mark h (faultless_then f g))
faultless_then (an_operator c h) g = rw suc-add (an_operator c (faultless_then h g))
faultless_then {ys = ys} (a_token {bs = bs} t c a h) g =
    rw (suc-add, append_assoc t (close_brace ∷ bs) ys) (a_token t c a (faultless_then h g))
faultless_then (opens c h) g = rw suc-add (opens c (faultless_then h g))
faultless_then (closes c h) g = closes c (faultless_then h g)

-- no token and no mark stands across the seam behind xs
abbrev Seamless : List ℕ → Type 0
Seamless xs = (us : List ℕ) → without_marks OUTSIDE (xs ++ us) ≡ without_marks OUTSIDE xs ++ without_marks OUTSIDE us

-- one piece more before them, of which `stays` is kept
seam : (front stays bs : List ℕ) → ((us : List ℕ) → without_marks OUTSIDE (front ++ us) ≡ stays ++ without_marks OUTSIDE us)
    → Seamless bs → Seamless (front ++ bs)
seam front stays bs h s us =
    ap (without_marks OUTSIDE) (append_assoc front bs us) ∙ h (bs ++ us) ∙ ap (stays ++◌) (s us)
    ∙ sym (append_assoc stays (without_marks OUTSIDE bs) (without_marks OUTSIDE us)) ∙ ap (◌++ without_marks OUTSIDE us) (sym (h bs))

byte_seam : (b : ℕ) (bs : List ℕ) → class b ≢ BRACE → class b ≢ BLANK → Seamless bs → Seamless (b ∷ bs)
byte_seam b bs h g = seam (b ∷ []) (b ∷ []) bs (λ us. kept b us h g)

pub marks_then : {limit d e k : ℕ} {xs : List ℕ} → Faultless limit d xs e k → Seamless xs
unfolding without_marks
marks_then nothing = λ us. refl
marks_then (a_mark {b = b} {m = m} {bs = bs} h f) = seam (b ∷ m) [] bs (λ us. mark_dropped us h) (marks_then f)
marks_then (an_operator {b = b} {bs = bs} c h) = byte_seam b bs (λ z. clash (sym c ∙ z) tt) (λ z. clash (sym c ∙ z) tt) (marks_then h)
marks_then {limit} (a_token {b = b} {bs = bs} t c a h) =
    let whole = seam (b ∷ (t ++ close_brace ∷ [])) (open_brace ∷ (t ++ close_brace ∷ [])) bs
    (λ us. rw (append_assoc t (close_brace ∷ []) us, append_assoc t (close_brace ∷ []) (without_marks OUTSIDE us)) (token_kept limit b t us c a)) (marks_then h) in
    subst (λ us. Seamless (b ∷ us)) (append_assoc t (close_brace ∷ []) bs) whole
marks_then (opens {b = b} {bs = bs} c h) = byte_seam b bs (λ z. clash (sym c ∙ z) tt) (λ z. clash (sym c ∙ z) tt) (marks_then h)
marks_then (closes {b = b} {bs = bs} c h) = byte_seam b bs (λ z. clash (sym c ∙ z) tt) (λ z. clash (sym c ∙ z) tt) (marks_then h)

-- no more blocks open and no more items begun than there are bytes
pub faultless_bounds : {limit d e k : ℕ} {xs : List ℕ} → Faultless limit d xs e k → (e ≤ d + length xs) × (k ≤ length xs)
faultless_bounds nothing = omega arith
faultless_bounds (a_mark {m = m} {bs = bs} h f) = omega (arith, faultless_bounds f, length-append m bs)
faultless_bounds (an_operator c h) = omega (arith, faultless_bounds h)
faultless_bounds (a_token {bs = bs} t c a h) = omega (arith, faultless_bounds h, length-append t (close_brace ∷ bs))
faultless_bounds (opens c h) = omega (arith, faultless_bounds h)
faultless_bounds (closes c h) = omega (arith, faultless_bounds h)

pub without_marks-length : (s : Region) (bs : List ℕ) → length (without_marks s bs) ≤ length bs
unfolding without_marks
without_marks-length s [] = omega arith
without_marks-length IN_TOKEN (b ∷ bs) = omega (arith, without_marks-length (leave b IN_TOKEN) bs)
without_marks-length IN_ANNOTATION (b ∷ bs) = omega (arith, without_marks-length (leave b IN_ANNOTATION) bs)
without_marks-length OUTSIDE (b ∷ bs) =
    let passed : length (without_marks (enter b IN_ANNOTATION) bs) ≤ suc (length bs) = omega (arith, without_marks-length (enter b IN_ANNOTATION) bs) in
    let kept : length (b ∷ without_marks (enter b IN_TOKEN) bs) ≤ suc (length bs) = omega (arith, without_marks-length (enter b IN_TOKEN) bs) in
    cond_cases (λ (us : List ℕ). length us ≤ suc (length bs)) (mark (class b) bs) (λ _. passed) (λ _. kept)

-- a text that is as long without its marks has none
pub without_marks-same : (s : Region) (bs : List ℕ) → length (without_marks s bs) ≡ length bs → without_marks s bs ≡ bs
unfolding without_marks
without_marks-same s [] e = refl
without_marks-same IN_TOKEN (b ∷ bs) e = ap (b ∷◌) (without_marks-same (leave b IN_TOKEN) bs (omega arith))
without_marks-same IN_ANNOTATION (b ∷ bs) e = absurd (omega (arith, without_marks-length (leave b IN_ANNOTATION) bs))
without_marks-same OUTSIDE (b ∷ bs) e =
    let kept = without_marks-same (enter b IN_TOKEN) bs in
    let few = without_marks-length (enter b IN_ANNOTATION) bs in
    cond_cases (λ (us : List ℕ). length us ≡ suc (length bs) → us ≡ b ∷ bs) (mark (class b) bs) (λ _ h. absurd (omega arith))
    (λ _ h. ap (b ∷◌) (kept (omega arith))) e

-- one byte more of a text
pub take-one : (text : List ℕ) (at : ℕ) → at < length text → take (at + 1) text ≡ take at text ++ get_or text at 0 ∷ []
take-one text at h = ap (λ k. take k text) (add-one at) ∙ take-suc text at 0 h
