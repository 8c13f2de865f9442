-- What has been taken of a token, character by character: whole characters that a token may hold. It changes nothing of what is permitted
-- after it, holds no brace, and is what an allowed token holds.
use Prim.Native.Nat.{ℕ, zero, suc, ◌+◌, ◌-◌, ◌≤◌, ◌<◌}
use mathlib.Core.Path.{◌≡◌, refl, ap, sym, ◌∙◌}
use mathlib.Core.Logic.{◌≢◌}
use mathlib.Core.Bool.{true, false}
use mathlib.Core.List.{List, [], ◌∷◌, ◌++◌, append_assoc, append-nil}
use native.Mathlib.Numerals.{sub-one}
use native.Mathlib.Decide.{dec_le}
use native.Mathlib.Omega.{arith}
use lib.ListN.{length, get_or, take, drop, length-append, length-drop, take-append-drop, get_or-append}
use lib.Seq.{get_or-append-add, length-take-le}
use borrow.Author.Tests.{le-leb}
use Rattle.std.specs.Prelude.{Some}
use Rattle.plan.specs.Token.{character, whole, may_hold, permits, all_permitted, allowed}
use Rattle.kinds.proofs.Tests.{false_is_not_true}
use Rattle.plan.proofs.Tokens.{permits-parts}
use Rattle.plan.proofs.Utf8.{character-bytes, character_frame, character-one, character_width}

-- whole characters that a token may hold
pub data Taken : List ℕ → Type 0 where
  none_yet : Taken []
  further : (u c : List ℕ) {x : ℕ} → Taken u → character c ≡ Some (whole x (length c)) → may_hold x ≡ true → Taken (u ++ c)

own_length : (bs : List ℕ) {x w : ℕ} → character bs ≡ Some (whole x w) → length (take w bs) ≡ w
own_length bs {x} {w} e = length-take-le w bs (character_width bs e).1

-- a character's own bytes are that character, whatever comes after them
own_bytes :
    (bs rest : List ℕ) {x w : ℕ} → character bs ≡ Some (whole x w) →
    character (take w bs ++ rest) ≡ Some (whole x (length (take w bs)))
own_bytes bs rest {x} {w} e = character_frame (take w bs) (drop w bs) rest (rw (take-append-drop, own_length bs e) e)

pub extended : (bs rest : List ℕ) {x w : ℕ} → character bs ≡ Some (whole x w) → character (bs ++ rest) ≡ Some (whole x w)
extended bs rest {x} {w} e =
    rw (← append_assoc, take-append-drop, own_length bs e) at (own_bytes bs (drop w bs ++ rest) e)

pub scanned_step :
    (u v : List ℕ) {x w : ℕ} → Taken u → character v ≡ Some (whole x w) → may_hold x ≡ true → Taken (u ++ take w v)
scanned_step u v {x} {w} s e h = further u (take w v) s (rw append-nil at (own_bytes v [] e)) h

-- what has been taken does not matter for what is permitted after it: the rest of a character, a character, any number
passed_over : (c rest : List ℕ) → all_permitted (length c) (c ++ rest) ≡ all_permitted 0 rest
unfolding all_permitted
passed_over [] rest = refl
passed_over (b ∷ c) rest = passed_over c rest

one_passed :
    (c rest : List ℕ) {x : ℕ} → character c ≡ Some (whole x (length c)) → may_hold x ≡ true →
    all_permitted 0 (c ++ rest) ≡ all_permitted 0 rest
unfolding all_permitted permits
one_passed [] rest e h = absurd (omega (arith, character_width [] e))
one_passed (b ∷ c) rest e h = rw (extended (b ∷ c) rest e, h, sub-one) (passed_over c rest)

scanned_passed : (u rest : List ℕ) → Taken u → all_permitted 0 (u ++ rest) ≡ all_permitted 0 rest
scanned_passed _ rest none_yet = refl
scanned_passed _ rest (further u c s e h) = rw append_assoc (scanned_passed u (c ++ rest) s ∙ one_passed c rest e h)

pub scanned_allowed :
    (limit : ℕ) (u : List ℕ) → Taken u → 1 ≤ length u → length u + 2 ≤ limit → allowed limit u ≡ true
unfolding allowed all_permitted
scanned_allowed limit u s some_bytes fits =
    rw (le-leb _ _ some_bytes, le-leb _ _ fits) (rw append-nil at (scanned_passed u [] s))

-- the bytes of a character already looked at matter no more
past_skip : (skip : ℕ) (bs : List ℕ) → all_permitted skip bs ≡ all_permitted 0 (drop skip bs)
unfolding all_permitted
past_skip zero bs = refl
past_skip (suc skip) [] = refl
past_skip (suc skip) (b ∷ bs) = past_skip skip bs

-- the next character is taken too, and then the rest, if that can be
taken_on : (u t : List ℕ) → Taken u → all_permitted 0 t ≡ true
    → ((u' t' : List ℕ) → length t' < length t → Taken u' → all_permitted 0 t' ≡ true → Taken (u' ++ t')) → Taken (u ++ t)
unfolding all_permitted
taken_on u [] s e rest = rw append-nil s
taken_on u (b ∷ bs) s e rest =
    let c = permits-parts (character (b ∷ bs)) (λ width. all_permitted width bs) e in
    let w = c.1 in
    let wide = character_width (b ∷ bs) c.2 in
    let one : w ≡ suc (w - 1) = omega arith in
    let behind : drop w (b ∷ bs) ≡ drop (w - 1) bs = ap (λ n. drop n (b ∷ bs)) one in
    let fine : all_permitted 0 (drop w (b ∷ bs)) ≡ true = ap (all_permitted 0) behind ∙ sym (past_skip (w - 1) bs) ∙ c.4 in
    let longer = rest (u ++ take w (b ∷ bs)) (drop w (b ∷ bs)) (omega (arith, length-drop w (b ∷ bs)))
    (scanned_step u (b ∷ bs) s c.2 c.3) fine in
    rw (append_assoc, take-append-drop) at longer

taken_then : (k : ℕ) (u t : List ℕ) → length t ≤ k → Taken u → all_permitted 0 t ≡ true → Taken (u ++ t)
taken_then zero u t short s e = taken_on u t s e (λ u' t' shorter. absurd (omega arith))
taken_then (suc k) u t short s e = taken_on u t s e (λ u' t' shorter. taken_then k u' t' (omega arith))

-- the bytes that an allowed token holds
pub permitted_taken : (t : List ℕ) → all_permitted 0 t ≡ true → Taken t
permitted_taken t e = taken_then (length t) [] t (omega arith) none_yet e

-- a byte that is a character which a token may not hold is not among what has been taken
one-not_held : (c : List ℕ) {x : ℕ} → character c ≡ Some (whole x (length c)) → may_hold x ≡ true
    → (b : ℕ) → b < 128 → may_hold b ≡ false → (i : ℕ) → i < length c → get_or c i 0 ≢ b
one-not_held [] e h b low unheld i l z = absurd (omega arith)
one-not_held (a ∷ c) {x} e h b low unheld zero l z =
    let one = character-one a c e (omega arith) in
    let x_is : x ≡ b = one.0 ∙ z in
    false_is_not_true (sym unheld ∙ (rw x_is at h))
one-not_held (a ∷ c) e h b low unheld (suc i) l z =
    let high = character-bytes a c e (suc i) (omega arith) l in
    absurd (omega (arith, high, z))

taken_not_held : (b : ℕ) → b < 128 → may_hold b ≡ false → (u : List ℕ) → Taken u → (i : ℕ) → i < length u → get_or u i 0 ≢ b
taken_not_held b low unheld _ none_yet i l z = absurd (omega arith)
taken_not_held b low unheld _ (further u c s e h) i l z =
    elim (dec_le (length u) i) [
      | yes p ↦
          let there : length u + (i - length u) ≡ i = omega arith in
          let in_c : get_or (u ++ c) i 0 ≡ get_or c (i - length u) 0 =
          ap (λ k. get_or (u ++ c) k 0) (sym there) ∙ get_or-append-add u c (i - length u) 0 in
          one-not_held c e h b low unheld (i - length u) (omega (arith, length-append u c)) (sym in_c ∙ z)
      | no p ↦
          let before : i < length u = omega arith in
          taken_not_held b low unheld u s i before (sym (get_or-append u c 0 i before) ∙ z)
    ]

-- the same of the bytes that it stands before
pub byte_not_held : (b : ℕ) → b < 128 → may_hold b ≡ false → (u v : List ℕ) → Taken u → (i : ℕ) → i < length u → get_or (u ++ v) i 0 ≢ b
byte_not_held b low unheld u v s i l z = taken_not_held b low unheld u s i l (sym (get_or-append u v 0 i l) ∙ z)
