-- The table of a token's faults. Each stands before the first `}`. An allowed token has none. There is only one first fault, and it is the
-- one that the reader comes upon. What has been taken of a token (Taken.antt) holds no fault, so the first one stands behind it.
use Prim.Native.Nat.{ℕ, zero, suc, ◌+◌, ◌-◌, ◌≤◌, ◌<◌}
use mathlib.Core.Path.{◌≡◌, refl, ap, ap₂, sym, ◌∙◌, subst}
use mathlib.Core.Logic.{◌≢◌, ◌⊎◌, inl, inr, ◌↔◌}
use mathlib.Core.Bool.{Bool, true, false, cond}
use Rattle.std.specs.Prelude.{Option, None, Some}
use mathlib.Core.List.{List, [], ◌∷◌, ◌++◌, append_assoc}
use native.Mathlib.Decide.{dec_le}
use native.Mathlib.Nat.{add-zero, sub-zero}
use native.Mathlib.Omega.{arith}
use lib.Dec.{eqb, ltb}
use lib.ListN.{length, get_or, take, drop, length-append, length-drop, take-append-drop}
use lib.Seq.{length-take-le, drop_at, drop-append-add, get_or_at, get_or-append-add, get_or-drop}
use borrow.Author.Tests.{eqb-true, eqb-false, ne_eqb, ltb-true, ltb-false}
use Rattle.plan.specs.declared.Character.{Character}
use Rattle.plan.specs.declared.TokenFault.{TokenFault}
use Rattle.plan.specs.declared.TokenFault.TheVariants.{Empty, Long, BadUtf8, Forbidden, InnerBrace}
use Rattle.plan.specs.Plan.{open_brace, close_brace}
use Rattle.plan.specs.Token.{all_permitted, character, may_hold, token_text, whole}
use Rattle.plan.specs.TokenFaults.{NoneBefore, CharacterAt, first, behind, NeverHeld, FaultAt, nothing_between, token_too_long, text_ends, no_character, never_held, inner_brace, FirstFault, Met, met, unheld, meet, first_fault}
use Rattle.plan.specs.Pieces.{Found}
use Rattle.plan.proofs.MayHold.{beyond, closing, control, late_control, opening, printing, replacement}
use Rattle.plan.proofs.Options.{Each, some_is_not_none}
use Rattle.kinds.proofs.Tests.{false_is_not_true, never}
use Rattle.plan.proofs.Tokens.{allowed-parts, token_text-at, token_text_finds}
use Rattle.plan.proofs.Taken.{Taken, none_yet, further, byte_not_held, extended, permitted_taken, scanned_allowed, scanned_step}
use Rattle.plan.proofs.Utf8.{character-bytes, character_high, character_low, character-one, character_width, same_character}

-- what no token may hold, its braces aside, is what `may_hold` refuses
never_may_hold : (v : ℕ) → NeverHeld v → may_hold v ≡ false
never_may_hold v (inl h) = sym (control v h)
never_may_hold v (inr (inl h)) = sym (late_control v h.0 h.1)
never_may_hold v (inr (inr h)) = sym (replacement v h)

unheld_never : (v : ℕ) → may_hold v ≡ false → v ≢ open_brace → v ≢ close_brace → NeverHeld v
unheld_never v h o c = go (ltb v 0x20) refl (ltb v 0x7F) refl (ltb 0x9F v) refl (eqb v 0xFFFD) refl
  where
    go : (a : Bool) → ltb v 0x20 ≡ a → (b : Bool) → ltb v 0x7F ≡ b → (c : Bool) → ltb 0x9F v ≡ c → (d : Bool) → eqb v 0xFFFD ≡ d → NeverHeld v
    go true a b b' d d' e e' = inl (ltb-true _ _ a)
    go false a true b d d' e e' = false_is_not_true (sym h ∙ sym (printing v o c (ltb-false _ _ a) (ltb-true _ _ b)))
    go false a false b false d e e' = inr (inl (ltb-false _ _ b, ltb-false _ _ d))
    go false a false b true d true e = inr (inr (eqb-true _ _ e))
    go false a false b true d false e = false_is_not_true (sym h ∙ sym (beyond v (ltb-true _ _ d) (eqb-false _ _ e)))

-- every fault stands before the first `}`, an empty token's at it

-- no byte of a character other than a `}` is a `}`
character_no_brace : (bs : List ℕ) {v width : ℕ} → character bs ≡ Some (whole v width) → v ≢ close_brace → NoneBefore bs width
character_no_brace [] e n i l z = absurd (omega (arith, character_width [] e))
character_no_brace (b ∷ bs) e n zero l z = n ((character-one b bs e (omega arith)).0 ∙ z)
character_no_brace (b ∷ bs) e n (suc i) l z = absurd (omega (arith, character-bytes b bs e (suc i) (omega arith) l))

character-at_before : {bs : List ℕ} {j : ℕ} → CharacterAt bs j → NoneBefore bs j
character-at_before first i l = absurd (omega arith)
character-at_before {bs} (behind {i} s e n) k l =
    elim (dec_le i k) [
      | yes p ↦ λ z. character_no_brace (drop i bs) e n (k - i) (omega arith)
          (get_or-drop i bs (k - i) 0 ∙ ap (λ m. get_or bs m 0) (let there : i + (k - i) ≡ k = omega arith in there) ∙ z)
      | no p ↦ character-at_before s k (omega arith)
    ]

-- a theorem of tokens' faults
pub stands_before : {limit : ℕ} {bs : List ℕ} {j : ℕ} {f : TokenFault} → FaultAt limit bs j f → NoneBefore bs j
stands_before (nothing_between e) = λ i l. absurd (omega arith)
stands_before (token_too_long at l n) = λ i h. n i (omega arith)
stands_before (text_ends at l n) = n
stands_before (no_character s l e) = character-at_before s
stands_before (never_held s e h) = character-at_before s
stands_before (inner_brace l n e) = n

empty_first : {limit : ℕ} {bs : List ℕ} {j : ℕ} {f : TokenFault} → FaultAt limit bs j f → f ≡ Empty → j ≡ 0
empty_first (nothing_between e) h = refl
empty_first (token_too_long at l n) h = never cc
empty_first (text_ends at l n) h = never cc
empty_first (no_character s l e) h = never cc
empty_first (never_held s e n) h = never cc
empty_first (inner_brace l n e) h = never cc

-- behind one character the next begins, and none within it
one_behind : (c rest : List ℕ) {x : ℕ} → character c ≡ Some (whole x (length c)) → {j : ℕ} → CharacterAt (c ++ rest) j
    → (j ≡ 0) ⊎ ((length c ≤ j) × CharacterAt rest (j - length c))
one_behind c rest e first = inl refl
one_behind c rest {x} e (behind {i} {v} {width = w} s is n) = go (one_behind c rest e s)
  where
    go : (i ≡ 0) ⊎ ((length c ≤ i) × CharacterAt rest (i - length c)) → (i + w ≡ 0) ⊎ ((length c ≤ i + w) × CharacterAt rest (i + w - length c))
    go (inl h) =
        let same : Some (whole v w) ≡ Some (whole x (length c)) = sym (rw h at is) ∙ extended c rest e in
        let wide : w ≡ length c = (same_character same).1 in
        let here : 0 ≡ i + w - length c = omega arith in
        inr (omega arith, subst (CharacterAt rest) here first)
    go (inr (l, s')) =
        let there : length c + (i - length c) ≡ i = omega arith in
        let dropped : drop (i - length c) rest ≡ drop i (c ++ rest) =
        sym (drop-append-add c rest (i - length c)) ∙ ap (λ k. drop k (c ++ rest)) there in
        let here : i - length c + w ≡ i + w - length c = omega arith in
        inr (omega arith, subst (CharacterAt rest) here (behind s' (ap character dropped ∙ is) n))

taken_behind : {u : List ℕ} → Taken u → (v : List ℕ) {j : ℕ} → CharacterAt (u ++ v) j → length u ≤ j → CharacterAt v (j - length u)
taken_behind none_yet v {j} s l = subst (CharacterAt v) (let same : j ≡ j - 0 = omega arith in same) s
taken_behind (further u c t e h) v {j} s l =
    let joined = length-append u c in
    let s' = taken_behind t (c ++ v) (rw append_assoc at s) (omega (arith, joined)) in
    go (one_behind c v e s')
  where
    go : (j - length u ≡ 0) ⊎ ((length c ≤ j - length u) × CharacterAt v (j - length u - length c)) → CharacterAt v (j - length (u ++ c))
    go (inl z) = absurd (omega (arith, l, length-append u c, character_width c e))
    go (inr (m, r)) =
        let same : j - length u - length c ≡ j - length (u ++ c) = omega (arith, length-append u c) in
        subst (CharacterAt v) same r

-- where a character begins in what was taken, it is one that a token may hold
taken_at : {u : List ℕ} → Taken u → (v : List ℕ) {j : ℕ} → CharacterAt (u ++ v) j → j < length u
    → (x : ℕ) × (w : ℕ) × (character (drop j (u ++ v)) ≡ Some (whole x w)) × (may_hold x ≡ true)
taken_at none_yet v s l = absurd (omega arith)
taken_at (further u c {x} t e h) v {j} s l =
    let s' = rw append_assoc at s in
    elim (dec_le (length u) j) [
      | yes p ↦ go p (one_behind c v e (taken_behind t (c ++ v) s' p))
      | no p ↦ rw append_assoc (taken_at t (c ++ v) s' (omega arith))
    ]
  where
    go : length u ≤ j → (j - length u ≡ 0) ⊎ ((length c ≤ j - length u) × CharacterAt v (j - length u - length c))
        → (y : ℕ) × (w : ℕ) × (character (drop j (u ++ c ++ v)) ≡ Some (whole y w)) × (may_hold y ≡ true)
    go p (inl z) =
        let here : length u ≡ j = omega arith in
        let dropped : drop j (u ++ c ++ v) ≡ c ++ v = ap (drop j) (append_assoc u c v) ∙ drop_at u (c ++ v) j here in
        (x, length c, ap character dropped ∙ extended c v e, h)
    go p (inr m) = absurd (omega (arith, length-append u c, m.0, l))

-- what was taken of a token holds no brace, and no fault except a byte that is too many
module _ {u : List ℕ} (t : Taken u) (v : List ℕ) where
  none_taken : (b : ℕ) → b < 128 → may_hold b ≡ false → {j : ℕ} → j < length u → get_or (u ++ v) j 0 ≢ b
  none_taken b low h {j} l = byte_not_held b low h u v t j l

  none_in_taken : NoneBefore (u ++ v) (length u)
  none_in_taken i l = none_taken close_brace (omega arith) (sym (closing close_brace refl)) l

  within : {limit j : ℕ} {g : TokenFault} → FaultAt limit (u ++ v) j g → j < length u → (j ≡ limit - 2) × (g ≡ Long)
  within (nothing_between e) l = absurd (none_in_taken 0 l (ap (λ bs. get_or bs 0 0) e))
  within (token_too_long at l' n) l = (at, refl)
  within (text_ends at l' n) l = absurd (omega (arith, at, l, length-append u v))
  within (no_character s l' e) l = let c = taken_at t v s l in never (cc)
  within (never_held {v = y} s e h) l =
      let c = taken_at t v s l in
      let same : c.0 ≡ y = (same_character (sym c.2 ∙ e)).0 in
      false_is_not_true (sym (never_may_hold y h) ∙ (rw same at c.3))
  within (inner_brace l' n e) l = absurd (none_taken open_brace (omega arith) (sym (opening open_brace refl)) l e)

-- the fault of a character at which a token cannot go on
unfoldable fault_of : Option Character → TokenFault
fault_of None = BadUtf8
fault_of (Some c) = unheld c.value

not_braces : (v : ℕ) → NeverHeld v → (v ≢ open_brace) × (v ≢ close_brace)
not_braces v (inl h) = (λ z. omega arith, λ z. omega arith)
not_braces v (inr (inl h)) = (λ z. omega arith, λ z. omega arith)
not_braces v (inr (inr h)) = (λ z. omega arith, λ z. omega arith)

pub forbidden_unheld : (v : ℕ) → v ≢ open_brace → v ≢ close_brace → Forbidden ≡ unheld v
unfolding unheld
forbidden_unheld v o c = rw (ne_eqb _ _ c, ne_eqb _ _ o)

brace_unheld : unheld close_brace ≡ Empty
unfolding unheld
brace_unheld = refl

pub open_unheld : unheld open_brace ≡ InnerBrace
unfolding unheld
open_unheld = refl

-- the byte behind what was taken
next_byte : (u v : List ℕ) {j : ℕ} → j ≡ length u → get_or (u ++ v) j 0 ≡ get_or v 0 0
next_byte u v h = ap (λ k. get_or (u ++ v) k 0) (h ∙ sym (add-zero (length u))) ∙ get_or-append-add u v 0 0

-- a character with a value below 128 is that byte
pub low_byte : (v : List ℕ) {x w : ℕ} → x < 128 → character v ≡ Some (whole x w) → get_or v 0 0 ≡ x
low_byte [] low e = absurd (omega (arith, character_width [] e))
low_byte (b ∷ v) low e =
    elim (dec_le 128 b) [
      | yes p ↦ absurd (omega (arith, character_high b v e p))
      | no p ↦ sym (character-one b v e (omega arith)).0
    ]

low_fault : (v : List ℕ) → 0 < length v → (b : ℕ) → b < 128 → get_or v 0 0 ≡ b → fault_of (character v) ≡ unheld b
unfolding fault_of
low_fault [] l b low e = absurd (omega arith)
low_fault (a ∷ v) l b low e = rw (e, character_low b v low)

-- behind what was taken one fault stands at the next byte at most, unless the token is too long there
module _ {u : List ℕ} (t : Taken u) (v : List ℕ) (some_byte : 0 < length v) where
  here : {limit j : ℕ} {g : TokenFault} → (j ≡ limit - 2 → get_or v 0 0 ≡ close_brace) → FaultAt limit (u ++ v) j g → j ≡ length u
      → g ≡ fault_of (character v)
  unfolding fault_of
  here short (nothing_between e) h =
      sym (low_fault v some_byte close_brace (omega arith) (sym (next_byte u v h) ∙ ap (λ bs. get_or bs 0 0) e) ∙ brace_unheld)
  here short (token_too_long {i = j} at l n) h = absurd (n j (omega arith) (next_byte u v h ∙ short at))
  here short (text_ends at l n) h = absurd (omega (arith, at, h, some_byte, length-append u v))
  here short (no_character {i = j} s l e) h =
      ap fault_of (sym e ∙ ap character (drop_at u v j (sym h)))
  here short (never_held {i = j} {v = x} s e n) h =
      let other = not_braces x n in
      forbidden_unheld x other.0 other.1 ∙ ap fault_of (sym e ∙ ap character (drop_at u v j (sym h)))
  here short (inner_brace l n e) h = sym (low_fault v some_byte open_brace (omega arith) (sym (next_byte u v h) ∙ e) ∙ open_unheld)

-- the first fault

first_of : {limit i : ℕ} {bs : List ℕ} {f : TokenFault} → FaultAt limit bs i f → ((j : ℕ) (g : TokenFault) → FaultAt limit bs j g → i ≤ j)
    → ((j : ℕ) (g : TokenFault) → FaultAt limit bs j g → j ≡ i → (f ≡ g) ⊎ (f ≡ Long)) → FirstFault limit bs i f
first_of {limit} {i} {bs} {f} stands none_before others = record { stands = stands; before_others = λ {j} {g} a. go j g a }
  where
    go : (j : ℕ) (g : TokenFault) → FaultAt limit bs j g → (i < j) ⊎ ((i ≡ j) × ((f ≡ g) ⊎ (f ≡ Long)))
    go j g a =
        let after = none_before j g a in
        elim (dec_le (suc i) j) [
          | yes p ↦ inl p
          | no p ↦ let same : j ≡ i = omega arith in inr (sym same, others j g a same)
        ]

-- a fault in what was taken is at the limit, so none stands before what is not behind it
none_below : {limit i : ℕ} {u : List ℕ} → Taken u → (v : List ℕ) → i ≤ length u → i ≤ limit - 2 → (j : ℕ) (g : TokenFault)
    → FaultAt limit (u ++ v) j g → i ≤ j
none_below {limit} {i} t v near few j g a =
    elim (dec_le i j) [
      | yes p ↦ p
      | no p ↦ absurd (let w = within t v a (omega arith) in omega (arith, w.0))
    ]

long_first : {limit : ℕ} {u : List ℕ} → Taken u → (v : List ℕ) → limit - 2 ≤ length u → limit - 2 < length (u ++ v)
    → NoneBefore (u ++ v) (suc (limit - 2)) → FirstFault limit (u ++ v) (limit - 2) Long
long_first t v far l n = first_of (token_too_long refl l n) (none_below t v far (omega arith)) (λ j g a same. inr refl)

-- the fault at the byte behind what was taken, if that is within the limit
module _ {limit : ℕ} {u : List ℕ} (t : Taken u) (v : List ℕ) (few : length u ≤ limit - 2) where
  next-first : 0 < length v → (length u ≡ limit - 2 → get_or v 0 0 ≡ close_brace) → {f : TokenFault} → FaultAt limit (u ++ v) (length u) f
      → FirstFault limit (u ++ v) (length u) f
  next-first some_byte short stands =
      first_of stands (none_below t v (omega arith) few)
      (λ j g a same. inl (here t v some_byte short stands refl ∙ sym (here t v some_byte (λ far. short (sym same ∙ far)) a same)))

-- a character that a token may hold is no `}`
held_no_brace : (x : ℕ) → may_hold x ≡ true → x ≢ close_brace
held_no_brace x h z = false_is_not_true (closing x z ∙ h)

-- the next character begins behind what was taken
taken_begins : {u : List ℕ} → Taken u → (v : List ℕ) → CharacterAt (u ++ v) (length u)
taken_begins none_yet v = first
taken_begins (further u c {x} t e h) v =
    let s = behind (taken_begins t (c ++ v)) (ap character (drop_at u (c ++ v) (length u) refl) ∙ extended c v e) (held_no_brace x h) in
    rw (append_assoc, length-append) s

-- Each way in which a token that goes on behind what was taken of it fails, and the first fault then.
module _ {limit : ℕ} {u : List ℕ} (t : Taken u) (few : length u ≤ limit - 2) where
  pub ends_first : FirstFault limit (u ++ []) (length u) Long
  ends_first =
      first_of (text_ends (omega (arith, length-append u [])) few (none_in_taken t [])) (none_below t [] (omega arith) few) (λ j g a same. inr refl)

  pub over_first : (v : List ℕ) → length u ≡ limit - 2 → 0 < length v → get_or v 0 0 ≢ close_brace → FirstFault limit (u ++ v) (length u) Long
  over_first v full some_byte other =
      subst (λ i. FirstFault limit (u ++ v) i Long) (sym full)
      (long_first t v (omega arith) (omega (arith, length-append u v))
      (λ i l. elim (dec_le (length u) i) [
        | yes p ↦ let same : i ≡ length u = omega arith in λ z. other (sym (next_byte u v same) ∙ z)
        | no p ↦ none_in_taken t v i (omega arith)
      ]))

  -- the character is good, and reaches over the last byte that there may be
  pub reaching_first : (v : List ℕ) {x w : ℕ} → character v ≡ Some (whole x w) → may_hold x ≡ true → limit - 2 < length u + w
      → FirstFault limit (u ++ v) (limit - 2) Long
  reaching_first v {x} {w} e h far =
      let longer = scanned_step u v t e h in
      let wide = length-take-le w v (character_width v e).1 in
      let joined = length-append u (take w v) in
      subst (λ bs. FirstFault limit bs (limit - 2) Long) (append_assoc u (take w v) (drop w v) ∙ ap (u ++◌) (take-append-drop w v))
      (long_first longer (drop w v) (omega (arith, joined, wide)) (omega (arith, joined, wide, length-append (u ++ take w v) (drop w v)))
      (λ i l. none_in_taken longer (drop w v) i (omega (arith, joined, wide))))

  pub malformed_first : (v : List ℕ) → 0 < length v → length u < limit - 2 → character v ≡ None → FirstFault limit (u ++ v) (length u) BadUtf8
  malformed_first v some_byte room e =
      next-first t v few some_byte (λ far. absurd (omega arith))
      (no_character (taken_begins t v) (omega (arith, length-append u v)) (ap character (drop_at u v (length u) refl) ∙ e))

  pub unheld-first : (v : List ℕ) {x w : ℕ} → length u < limit - 2 → character v ≡ Some (whole x w) → may_hold x ≡ false → x ≢ close_brace
      → FirstFault limit (u ++ v) (length u) (unheld x)
  unheld-first v {x} {w} room e h other =
      next-first t v few some_byte (λ far. absurd (omega arith)) (go (eqb x open_brace) refl)
    where
      some_byte : 0 < length v
      some_byte = omega (arith, character_width v e)

      go : (o : Bool) → eqb x open_brace ≡ o → FaultAt limit (u ++ v) (length u) (unheld x)
      go true o =
          let is : x ≡ open_brace = eqb-true _ _ o in
          let byte = next_byte u v refl ∙ low_byte v (omega arith) (rw is at e) in
          subst (FaultAt limit (u ++ v) (length u)) (sym (ap unheld is ∙ open_unheld))
          (inner_brace (omega (arith, some_byte, length-append u v)) (none_in_taken t v) byte)
      go false o =
          let is : x ≢ open_brace = eqb-false _ _ o in
          subst (FaultAt limit (u ++ v) (length u)) (forbidden_unheld x is other)
          (never_held (taken_begins t v) (ap character (drop_at u v (length u) refl) ∙ e) (unheld_never x h is other))

pub nothing_first : (limit : ℕ) (rest : List ℕ) → FirstFault limit (close_brace ∷ rest) 0 Empty
nothing_first limit rest =
    next-first {limit = limit} none_yet (close_brace ∷ rest) (omega arith) (omega arith) (λ far. refl) (nothing_between refl)

-- a theorem of tokens' faults
pub first_unique : {limit i j : ℕ} {bs : List ℕ} {f g : TokenFault} → FirstFault limit bs i f → FirstFault limit bs j g → (i ≡ j) × (f ≡ g)
first_unique {limit} {i} {j} {bs} {f} {g} a b = go (a.before_others b.stands) (b.before_others a.stands)
  where
    go : (i < j) ⊎ ((i ≡ j) × ((f ≡ g) ⊎ (f ≡ Long))) → (j < i) ⊎ ((j ≡ i) × ((g ≡ f) ⊎ (g ≡ Long))) → (i ≡ j) × (f ≡ g)
    go (inl x) (inl y) = absurd (omega arith)
    go (inl x) (inr y) = absurd (omega (arith, y.0))
    go (inr x) (inl y) = absurd (omega (arith, x.0))
    go (inr (x, inl e)) (inr y) = (x, e)
    go (inr (x, inr e)) (inr (y, inl e')) = (x, sym e')
    go (inr (x, inr e)) (inr (y, inr e')) = (x, e ∙ sym e')

-- an allowed token has no fault
found_faultless : {limit j : ℕ} {bs t : List ℕ} {f : TokenFault} → Found limit bs t → FaultAt limit bs j f → ⊥
found_faultless {limit} {j} {bs} {t} {f} found a =
    elim (dec_le (suc (length t)) j) [
      | yes p ↦ stands_before a (length t) p (ap (λ us. get_or us (length t) 0) found.splits ∙ get_or_at t close_brace found.rest 0 (length t) refl)
      | no p ↦ elim (dec_le (length t) j) [
        | yes q ↦ at_brace (omega arith)
        | no q ↦ let w = within taken (close_brace ∷ found.rest) a' (omega arith) in omega (arith, w.0, parts.1)
      ]
    ]
  where
    parts : (1 ≤ length t) × (length t + 2 ≤ limit) × (all_permitted 0 t ≡ true)
    parts = allowed-parts limit t found.fine

    taken : Taken t
    taken = permitted_taken t parts.2

    a' : FaultAt limit (t ++ close_brace ∷ found.rest) j f
    a' = subst (λ us. FaultAt limit us j f) found.splits a

    at_brace : j ≡ length t → ⊥
    at_brace same =
        let is = here taken (close_brace ∷ found.rest) (omega arith) (λ far. refl) a' same in
        let empty = is ∙ low_fault (close_brace ∷ found.rest) (omega arith) close_brace (omega arith) refl ∙ brace_unheld in
        omega (arith, empty_first a' empty, parts.0)

pub fault_no_token : {limit i : ℕ} {bs : List ℕ} {f : TokenFault} → FaultAt limit bs i f → token_text limit bs ≡ None
fault_no_token {limit} {i} {bs} a = go (token_text limit bs) (token_text_finds limit bs)
  where
    go : (o : Option (List ℕ)) → Each (Found limit bs) o → o ≡ None
    go None found = refl
    go (Some t) found = absurd (found_faultless found a)

-- what the reader comes upon

abbrev Meets : (limit : ℕ) → List ℕ → Met → Type 0
Meets limit bs m = FirstFault limit bs m.byte m.fault

-- within a character that reaches over the last byte that there may be
met_within : (i left skip : ℕ) (bs : List ℕ) → left < skip → skip ≤ length bs → NoneBefore bs skip → first_fault i left skip bs ≡ met (i + left) Long
unfolding first_fault
met_within i left skip [] l h n = absurd (omega arith)
met_within i zero skip (b ∷ bs) l h n = rw (ne_eqb b close_brace (n 0 (omega arith)), add-zero)
met_within i (suc left) zero (b ∷ bs) l h n = absurd (omega arith)
met_within i (suc left) (suc skip) (b ∷ bs) l h n =
    met_within (suc i) left skip bs (omega arith) (omega arith) (λ k m. n (suc k) (omega arith))
    ∙ ap (λ k. met k Long) (let same : suc i + left ≡ i + suc left = omega arith in same)

-- behind a character
met_behind : (i left skip : ℕ) (bs : List ℕ) → skip ≤ left → skip ≤ length bs → first_fault i left skip bs ≡ first_fault (i + skip) (left - skip) 0 (drop skip bs)
unfolding first_fault
met_behind i left zero bs l h = rw (add-zero, sub-zero)
met_behind i zero (suc skip) bs l h = absurd (omega arith)
met_behind i (suc left) (suc skip) [] l h = absurd (omega arith)
met_behind i (suc left) (suc skip) (b ∷ bs) l h =
    met_behind (suc i) left skip bs (omega arith) (omega arith)
    ∙ ap₂ (λ k m. first_fault k m 0 (drop skip bs)) (let same : suc i + skip ≡ i + suc skip = omega arith in same) (let same : left - skip ≡ suc left - suc skip = omega arith in same)

-- where bytes that are no allowed token's go on with a `}`, it is the first of them
closes_first : {limit : ℕ} (u : List ℕ) (b : ℕ) (bs : List ℕ) → Taken u → length u ≤ limit - 2 → token_text limit (u ++ b ∷ bs) ≡ None
    → b ≡ close_brace → FirstFault limit (u ++ b ∷ bs) (length u) Empty
closes_first {limit} [] b bs t few bad e = rw e (nothing_first limit bs)
closes_first {limit} (a ∷ u) b bs t few bad e =
    let fine = scanned_allowed limit (a ∷ u) t (omega arith) (omega arith) in
    absurd (some_is_not_none (sym (token_text-at limit (a ∷ u) bs fine) ∙ ap (λ c. token_text limit (a ∷ u ++ c ∷ bs)) (sym e) ∙ bad))

abbrev MeetsFrom : (limit : ℕ) → (u v : List ℕ) → Type 0
MeetsFrom limit u v =
    Taken u → length u ≤ limit - 2 → token_text limit (u ++ v) ≡ None → Meets limit (u ++ v) (first_fault (length u) (limit - 2 - length u) 0 v)

-- one character on, if what comes then meets its first fault
module _ {limit : ℕ} (u : List ℕ) (b : ℕ) (bs : List ℕ) (rest : (u' v' : List ℕ) → length v' ≤ length bs → MeetsFrom limit u' v')
    (t : Taken u) (few : length u ≤ limit - 2) (bad : token_text limit (u ++ b ∷ bs) ≡ None) where
  abbrev v : List ℕ
  v = b ∷ bs

  held : {x w : ℕ} (left : ℕ) → limit - 2 - length u ≡ suc left → character v ≡ Some (whole x w) → may_hold x ≡ true
      → Meets limit (u ++ v) (first_fault (suc (length u)) left (w - 1) bs)
  held {x} {w} left has e h =
      elim (dec_le w (suc left)) [
        | yes p ↦
            let there = rest u' v' (omega (arith, length-drop w v, wide.0)) (scanned_step u v t e h) (omega (arith, joined)) (ap (token_text limit) whole ∙ bad) in
            subst (λ us. Meets limit us (first_fault (suc (length u)) left (w - 1) bs)) whole (subst (Meets limit (u' ++ v')) (sym (same p)) there)
        | no p ↦
            let far : suc (length u) + left ≡ limit - 2 = omega arith in
            let over : first_fault (suc (length u)) left (w - 1) bs ≡ met (limit - 2) Long =
            met_within (suc (length u)) left (w - 1) bs (omega arith) (omega (arith, wide.1))
            (λ i l. character_no_brace v e (held_no_brace x h) (suc i) (omega arith))
            ∙ ap (λ k. met k Long) far in
            subst (Meets limit (u ++ v)) (sym over) (reaching_first t few v e h (omega arith))
      ]
    where
      wide : (1 ≤ w) × (w ≤ length v)
      wide = character_width v e

      u' : List ℕ
      u' = u ++ take w v

      v' : List ℕ
      v' = drop w v

      whole : u' ++ v' ≡ u ++ v
      whole = append_assoc u (take w v) (drop w v) ∙ ap (u ++◌) (take-append-drop w v)

      joined : length u' ≡ length u + w
      joined = length-append u (take w v) ∙ ap (length u +◌) (length-take-le w v wide.1)

      same : w ≤ suc left → first_fault (suc (length u)) left (w - 1) bs ≡ first_fault (length u') (limit - 2 - length u') 0 v'
      same p =
          let one : w ≡ suc (w - 1) = omega (arith, wide.0) in
          let at : suc (length u) + (w - 1) ≡ length u' = omega (arith, joined, wide.0) in
          let room : left - (w - 1) ≡ limit - 2 - length u' = omega (arith, joined, wide.0) in
          let after : drop (w - 1) bs ≡ v' = ap (λ n. drop n v) (sym one) in
          met_behind (suc (length u)) left (w - 1) bs (omega arith) (omega (arith, wide.1))
          ∙ ap₂ (λ i n. first_fault i n 0 (drop (w - 1) bs)) at room ∙ ap (first_fault (length u') (limit - 2 - length u') 0) after

  by_character : (left : ℕ) → limit - 2 - length u ≡ suc left → (c : Option Character) → character v ≡ c
      → Meets limit (u ++ v) (meet (length u) c (λ width. first_fault (suc (length u)) left width bs))
  unfolding meet
  by_character left has None e = malformed_first t few v (omega arith) (omega arith) e
  by_character left has (Some c) e = go (may_hold x) refl (eqb x close_brace) refl
    where
      x : ℕ
      x = c.value

      w : ℕ
      w = c.width

      go : (h : Bool) → may_hold x ≡ h → (c : Bool) → eqb x close_brace ≡ c
          → Meets limit (u ++ v) (cond h (first_fault (suc (length u)) left (w - 1) bs) (met (length u) (unheld x)))
      go true h c c' = held left has e h
      go false h true c =
          let is : x ≡ close_brace = eqb-true _ _ c in
          let first_byte : b ≡ close_brace = low_byte v (omega arith) (rw is at e) in
          subst (λ f. FirstFault limit (u ++ v) (length u) f) (sym (ap unheld is ∙ brace_unheld)) (closes_first u b bs t few bad first_byte)
      go false h false c = unheld-first t few v (omega arith) e h (eqb-false _ _ c)

  by_room : (left : ℕ) → limit - 2 - length u ≡ left → Meets limit (u ++ v) (first_fault (length u) left 0 v)
  unfolding first_fault
  by_room zero full = go (eqb b close_brace) refl
    where
      go : (c : Bool) → eqb b close_brace ≡ c → Meets limit (u ++ v) (met (length u) (cond c Empty Long))
      go true c = closes_first u b bs t few bad (eqb-true _ _ c)
      go false c = over_first t few v (omega arith) (omega arith) (eqb-false _ _ c)
  by_room (suc left) has = by_character left has (character v) refl

meets_by : {limit : ℕ} (u v : List ℕ) → ((u' v' : List ℕ) → length v' < length v → MeetsFrom limit u' v') → MeetsFrom limit u v
unfolding first_fault
meets_by u [] rest t few bad = ends_first t few
meets_by {limit} u (b ∷ bs) rest t few bad =
    by_room u b bs (λ u' v' shorter. rest u' v' (omega arith)) t few bad (limit - 2 - length u) refl

meets : (limit k : ℕ) (u v : List ℕ) → length v ≤ k → MeetsFrom limit u v
meets limit zero u v short = meets_by u v (λ u' v' shorter. absurd (omega arith))
meets limit (suc k) u v short = meets_by u v (λ u' v' shorter. meets limit k u' v' (omega arith))

-- What the reading definition gives for bytes that are no allowed token's is the first fault of the table, and nothing else is.
-- a theorem of tokens' faults
pub first-met : (limit : ℕ) (bs : List ℕ) → token_text limit bs ≡ None
    → FirstFault limit bs (first_fault 0 (limit - 2) 0 bs).byte (first_fault 0 (limit - 2) 0 bs).fault
first-met limit bs bad =
    rw (sub-zero) at (meets limit (length bs) [] bs (omega arith) none_yet (omega arith) bad)

-- a theorem of tokens' faults
pub met-first : {limit i : ℕ} {bs : List ℕ} {f : TokenFault} → FirstFault limit bs i f → first_fault 0 (limit - 2) 0 bs ≡ met i f
met-first {limit} {i} {bs} a =
    let same = first_unique (first-met limit bs (fault_no_token a.stands)) a in
    ap₂ met same.0 same.1

-- a `{` opens an allowed token exactly when no fault stands anywhere behind it
-- a theorem of tokens' faults
pub allowed_iff_faultless : (limit : ℕ) (bs : List ℕ) → ((t : List ℕ) × Found limit bs t) ↔ ((i : ℕ) (f : TokenFault) → FaultAt limit bs i f → ⊥)
allowed_iff_faultless limit bs = (λ found i f a. found_faultless found.1 a, λ none_stands. go none_stands (token_text limit bs) refl (token_text_finds limit bs))
  where
    go : ((i : ℕ) (f : TokenFault) → FaultAt limit bs i f → ⊥) → (o : Option (List ℕ)) → token_text limit bs ≡ o → Each (Found limit bs) o
        → (t : List ℕ) × Found limit bs t
    go none_stands None e found = absurd (none_stands _ _ (first-met limit bs e).stands)
    go none_stands (Some t) e found = (t, found)
