-- `character` of Token.antt, written from RFC 3629's section 3, agrees with the table of section 4; and what callers want
-- of it: its width, its bytes, that nothing after it matters.
-- Everything goes through `Spells bs v`: bs are all the bytes of one character, and v is its value. What it holds is linear
-- arithmetic over the bytes, the same for every width, so the rows of the table are left to `omega`.
use Prim.Native.Nat.{ℕ, zero, suc, ◌+◌, ◌*◌, ◌-◌, ◌≤◌, ◌<◌}
use mathlib.Core.Path.{◌≡◌, refl, ap, subst, sym, ◌∙◌}
use mathlib.Core.Bool.{Bool, true, false, cond, ◌&&◌, ◌||◌, and-eq-true_iff}
use Rattle.std.specs.Prelude.{Option, None, Some}
use mathlib.Core.List.{List, [], ◌∷◌, ◌++◌}
use mathlib.Core.Logic.{◌↔◌, ◌⊎◌, inl, inr, ⊎_map}
use native.Mathlib.Omega.{arith}
use native.Mathlib.Nat.{sub-zero}
use native.Mathlib.Decide.{dec_le}
use lib.ListN.{length, get_or, take, length-take}
use lib.Seq.{take-append_seam, get_or-take}
use lib.Dec.{leb, ltb}
use borrow.Author.Tests.{ltb-true, ltb-false, leb-true, lt-ltb, le-ltb, le-leb}
use Rattle.plan.specs.declared.Character.{Character}
use Rattle.plan.specs.Token.{follows, value, scalar, well_formed, character, whole}
use Rattle.plan.specs.Rfc3629.{Range, Matches, AnyRow, table, Utf8Char}

-- How many bytes follow the first, where the first byte begins and ends, and the least value that is not overlong. A byte
-- alone is a form too, so that no law has a case for it.
data Form : (n from to least : ℕ) → Type 0 where
  one : Form 0 0x00 0x80 0x00
  two : Form 1 0xC0 0xE0 0x80
  three : Form 2 0xE0 0xF0 0x800
  four : Form 3 0xF0 0xF8 0x10000

-- n bytes that each follow another, and take the value from v to u
data Following : (n : ℕ) → List ℕ → (v u : ℕ) → Type 0 where
  done : {v u : ℕ} → v ≡ u → Following 0 [] v u
  next : {n c v u : ℕ} {bs : List ℕ} → (0x80 ≤ c) × (c < 0xC0) → Following n bs (v * 64 + (c - 0x80)) u → Following (suc n) (c ∷ bs) v u

abbrev Scalar : ℕ → Type 0
Scalar v = (v < 0xD800) ⊎ ((0xDFFF < v) × (v ≤ 0x10FFFF))

data Spells : List ℕ → (v : ℕ) → Type 0 where
  spell : {n from to least b v : ℕ} {bs : List ℕ} → Form n from to least → (from ≤ b) × (b < to) → Following n bs (b - from) v → least ≤ v → Scalar v → Spells (b ∷ bs) v

alone : (b : ℕ) → b < 0x80 → Spells (b ∷ []) b
alone b h = spell {b = b} one (omega arith) (done (sub-zero b)) (omega arith) (inl (omega arith))

-- a character has one value and one width
pub same_character : {v w x y : ℕ} → Some (whole v w) ≡ Some (whole x y) → (v ≡ x) × (w ≡ y)
same_character {v} {w} {x} {y} e =
    let c : whole v w ≡ whole x y = cc in
    (ap (λ k. k.value) c, ap (λ k. k.width) c)

-- what the tests of `character` tell

module _ {A : Type 0} (P : A → Type 0) {x y : A} where
  either_way : (t : Bool) → (t ≡ true → P x) → (t ≡ false → P y) → P (cond t x y)
  either_way true f g = f refl
  either_way false f g = g refl

  below_or_not : (b k : ℕ) → (b < k → P x) → (k ≤ b → P y) → P (cond (ltb b k) x y)
  below_or_not b k f g = either_way (ltb b k) (λ t. f (ltb-true b k t)) (λ t. g (ltb-false b k t))

true_follows : (c : ℕ) → follows c ≡ true → (0x80 ≤ c) × (c < 0xC0)
unfolding follows
true_follows c t = let h = (and-eq-true_iff _ _).0 t in (leb-true _ _ h.0, ltb-true _ _ h.1)

true_scalar : (v : ℕ) → scalar v ≡ true → Scalar v
unfolding scalar
true_scalar v = go (ltb v 0xD800) refl
  where
    go : (t : Bool) → ltb v 0xD800 ≡ t → (t || (ltb 0xDFFF v && leb v 0x10FFFF)) ≡ true → Scalar v
    go true t e = inl (ltb-true _ _ t)
    go false t e = let h = (and-eq-true_iff _ _).0 e in inr (ltb-true _ _ h.0, leb-true _ _ h.1)

scalar_true : (v : ℕ) → Scalar v → scalar v ≡ true
unfolding scalar
scalar_true v (inl h) = rw (lt-ltb v 0xD800 h)
scalar_true v (inr h) = rw (le-ltb v 0xD800 (omega arith), lt-ltb 0xDFFF v h.0, le-leb v 0x10FFFF h.1)

-- what is spelled is read, whatever comes after it

length_following : {n v u : ℕ} {bs : List ℕ} → Following n bs v u → length bs ≡ n
length_following (done e) = refl
length_following (next h f) = ap suc (length_following f)

following_value : {n v u : ℕ} {bs : List ℕ} → Following n bs v u → (rest : List ℕ) → value n v (bs ++ rest) ≡ Some u
unfolding value follows
following_value (done e) rest = ap Some e
following_value (next {c = c} h f) rest = rw (le-leb 0x80 c h.0, lt-ltb c 0xC0 h.1) (following_value f rest)

form_character : {n from to least : ℕ} (b : ℕ) (bs : List ℕ) → Form n from to least → (from ≤ b) × (b < to) → character (b ∷ bs) ≡ well_formed (suc n) least (value n (b - from) bs)
unfolding character well_formed value
form_character b bs one h = rw (lt-ltb b 0x80 h.1, sub-zero b, le-leb 0 b h.0, scalar_true b (inl (omega arith)))
form_character b bs two h = rw (le-ltb b 0x80 (omega arith), le-ltb b 0xC0 h.0, lt-ltb b 0xE0 h.1)
form_character b bs three h = rw (le-ltb b 0x80 (omega arith), le-ltb b 0xC0 (omega arith), le-ltb b 0xE0 h.0, lt-ltb b 0xF0 h.1)
form_character b bs four h =
    rw (le-ltb b 0x80 (omega arith), le-ltb b 0xC0 (omega arith), le-ltb b 0xE0 (omega arith), le-ltb b 0xF0 h.0, lt-ltb b 0xF8 h.1)

spells_character : {v : ℕ} {bs : List ℕ} → Spells bs v → (rest : List ℕ) → character (bs ++ rest) ≡ Some (whole v (length bs))
unfolding well_formed
spells_character (spell {least = least} {b = b} {v = v} {bs = bs} f h g l s) rest =
    rw (form_character b (bs ++ rest) f h, following_value g rest, length_following g, le-leb least v l, scalar_true v s)

-- what is read is spelled, by the bytes that it takes; said of the answer itself, so that a test in it can be split

abbrev Valued : (n v : ℕ) → List ℕ → Option ℕ → Type 0
Valued n v bs None = Unit {0}
Valued n v bs (Some u) = (n ≤ length bs) × Following n (take n bs) v u

value_valued : (n v : ℕ) (bs : List ℕ) → Valued n v bs (value n v bs)
unfolding value
value_valued zero v bs = (omega arith, done refl)
value_valued (suc n) v [] = tt
value_valued (suc n) v (c ∷ bs) =
    let v' = v * 64 + (c - 0x80) in
    either_way (Valued (suc n) v (c ∷ bs)) (follows c) (λ t. longer t (value n v' bs) (value_valued n v' bs)) (λ t. tt)
  where
    longer : follows c ≡ true → (o : Option ℕ) → Valued n (v * 64 + (c - 0x80)) bs o → Valued (suc n) v (c ∷ bs) o
    longer t None r = tt
    longer t (Some u) r = (omega arith, next (true_follows c t) r.1)

abbrev SpelledAt : List ℕ → Option Character → Type 0
SpelledAt bs None = Unit {0}
SpelledAt bs (Some c) = (c.width ≤ length bs) × Spells (take c.width bs) c.value

module _ (b : ℕ) (bs : List ℕ) where
  form_reads : {n from to least : ℕ} → Form n from to least → (from ≤ b) × (b < to) → SpelledAt (b ∷ bs) (well_formed (suc n) least (value n (b - from) bs))
  unfolding well_formed
  form_reads {n} {from} {to} {least} f h = go (value n (b - from) bs) (value_valued n (b - from) bs)
    where
      go : (o : Option ℕ) → Valued n (b - from) bs o → SpelledAt (b ∷ bs) (well_formed (suc n) least o)
      go None r = tt
      go (Some v) r =
          either_way
          (SpelledAt (b ∷ bs))
          (leb least v && scalar v)
          (λ t. let t' = (and-eq-true_iff _ _).0 t in (omega arith, spell f h r.1 (leb-true _ _ t'.0) (true_scalar v t'.1)))
          (λ t. tt)

  first_reads : SpelledAt (b ∷ bs) (character (b ∷ bs))
  unfolding character
  first_reads =
      let P = SpelledAt (b ∷ bs) in
      below_or_not P b 0x80 (λ h. (omega arith, alone b h)) λ l.
      below_or_not P b 0xC0 (λ h. tt) λ l.
      below_or_not P b 0xE0 (λ h. form_reads two (l, h)) λ l.
      below_or_not P b 0xF0 (λ h. form_reads three (l, h)) λ l.
      below_or_not P b 0xF8 (λ h. form_reads four (l, h)) λ l. tt

character_reads : (bs : List ℕ) → SpelledAt bs (character bs)
unfolding character
character_reads [] = tt
character_reads (b ∷ bs) = first_reads b bs

read : (bs : List ℕ) {v w : ℕ} → character bs ≡ Some (whole v w) → (w ≤ length bs) × Spells (take w bs) v
read bs e = subst (SpelledAt bs) e (character_reads bs)

spelled : (bs rest : List ℕ) {v : ℕ} → character (bs ++ rest) ≡ Some (whole v (length bs)) → Spells bs v
spelled bs rest {v} e = subst (λ l. Spells l v) (take-append_seam bs rest) (read (bs ++ rest) e).1

-- what callers want

-- what a character is depends on its own bytes only
pub character_frame : (bs rest rest' : List ℕ) {v : ℕ} → character (bs ++ rest) ≡ Some (whole v (length bs)) → character (bs ++ rest') ≡ Some (whole v (length bs))
character_frame bs rest rest' e = spells_character (spelled bs rest e) rest'

pub character_width : (bs : List ℕ) {v w : ℕ} → character bs ≡ Some (whole v w) → (1 ≤ w) × (w ≤ length bs)
character_width bs {v} {w} e = let r = read bs e in omega (arith, not_empty r.1, length-take w bs)
  where
    not_empty : {bs : List ℕ} → Spells bs v → 1 ≤ length bs
    not_empty (spell f h g l s) = omega arith

following_bytes : {n v u : ℕ} {bs : List ℕ} → Following n bs v u → (k : ℕ) → k < length bs → 0x80 ≤ get_or bs k 0
following_bytes (done e) k l = absurd (omega arith)
following_bytes (next h f) zero l = h.0
following_bytes (next h f) (suc k) l = following_bytes f k (omega arith)

spells_bytes : {bs : List ℕ} {v : ℕ} → Spells bs v → (k : ℕ) → 1 ≤ k → k < length bs → 0x80 ≤ get_or bs k 0
spells_bytes (spell f h g m s) zero o l = absurd (omega arith)
spells_bytes (spell f h g m s) (suc k) o l = following_bytes g k (omega arith)

spells_high : {bs : List ℕ} {v : ℕ} → Spells bs v → 0x80 ≤ get_or bs 0 0 → 0x80 ≤ v
spells_high (spell one h g l s) k = absurd (omega arith)
spells_high (spell two h g l s) k = l
spells_high (spell three h g l s) k = omega arith
spells_high (spell four h g l s) k = omega arith

-- a byte below 128 is a character
pub character_low : (b : ℕ) (bs : List ℕ) → b < 128 → character (b ∷ bs) ≡ Some (whole b 1)
character_low b bs h = spells_character (alone b h) bs

module _ (b : ℕ) (bs : List ℕ) {v w : ℕ} (e : character (b ∷ bs) ≡ Some (whole v w)) where
  -- all bytes but the first are at least 128
  pub character-bytes : (k : ℕ) → 1 ≤ k → k < w → 128 ≤ get_or (b ∷ bs) k 0
  character-bytes k l h =
      let r = read (b ∷ bs) e in
      rw (get_or-take w (b ∷ bs) k 0 h) at (spells_bytes r.1 k l (omega (arith, length-take w (b ∷ bs))))

  pub character-one : b < 128 → (v ≡ b) × (w ≡ 1)
  character-one h = same_character (sym e ∙ character_low b bs h)

  -- a character of several bytes has a value of at least 128
  pub character_high : 128 ≤ b → 128 ≤ v
  character_high h = spells_high (read (b ∷ bs) e).1 (rw (get_or-take w (b ∷ bs) 0 0 (character_width (b ∷ bs) e).0) h)

-- what is spelled stands in the table

any_row : (rows : List (List Range)) (bs : List ℕ) (k : ℕ) → k < length rows → Matches (get_or rows k []) bs → AnyRow rows bs
any_row [] bs k l m = absurd (omega arith)
any_row (r ∷ rows) bs zero l m = inl m
any_row (r ∷ rows) bs (suc k) l m = inr (any_row rows bs k (omega arith) m)

-- the first byte and the value decide which row it is
spells_row : {bs : List ℕ} {v : ℕ} → Spells bs v → (k : ℕ) × ((k < length table) × Matches (get_or table k []) bs)
spells_row (spell one h (done e) l s) = (0, omega arith)
spells_row (spell two h (next c (done e)) l s) = (1, omega arith)
spells_row (spell {b = b} three h (next c (next d (done e))) l (inl s)) =
    elim (dec_le b 0xE0) [ yes p ↦ (2, omega arith) | no p ↦ elim (dec_le b 0xEC) [ yes q ↦ (3, omega arith) | no q ↦ (4, omega arith) ] ]
spells_row (spell three h (next c (next d (done e))) l (inr s)) = (5, omega arith)
spells_row (spell four h (next c (next d (next f (done e)))) l (inl s)) = absurd (omega arith)
spells_row (spell {b = b} four h (next c (next d (next f (done e)))) l (inr s)) =
    elim (dec_le b 0xF0) [ yes p ↦ (6, omega arith) | no p ↦ elim (dec_le b 0xF3) [ yes q ↦ (7, omega arith) | no q ↦ (8, omega arith) ] ]

pub character_in_table : (bs rest : List ℕ) (v : ℕ) → character (bs ++ rest) ≡ Some (whole v (length bs)) → Utf8Char bs
character_in_table bs rest v e = let r = spells_row (spelled bs rest e) in any_row table bs r.0 r.1.0 r.1.1

-- what stands in the table is spelled: the values of a row lie between those of its lowest and of its highest bytes

abbrev at_end : (Range → ℕ) → (v : ℕ) → List Range → ℕ
at_end end v [] = v
at_end end v (r ∷ rs) = at_end end (v * 64 + (end r - 0x80)) rs

abbrev lowest : (v : ℕ) → List Range → ℕ
lowest = at_end (λ r. r.low)

abbrev highest : (v : ℕ) → List Range → ℕ
highest = at_end (λ r. r.high)

abbrev Tails : List Range → Type 0
Tails [] = Unit {0}
Tails (r ∷ rs) = (0x80 ≤ r.low) × (r.high < 0xC0) × Tails rs

data SoundRow (r : Range) (rs : List Range) : Type 0 where
  sound :
      {from to least : ℕ} → Form (length rs) from to least
      → (from ≤ r.low) × (r.high < to) × Tails rs × (least ≤ lowest (r.low - from) rs)
      → (highest (r.high - from) rs < 0xD800) ⊎ ((0xDFFF < lowest (r.low - from) rs) × (highest (r.high - from) rs ≤ 0x10FFFF))
      → SoundRow r rs

abbrev AllSound : List (List Range) → Type 0
AllSound [] = Unit {0}
AllSound ([] ∷ rows) = ⊥
AllSound ((r ∷ rs) ∷ rows) = SoundRow r rs × AllSound rows

-- pairs without their parentheses
infixr 5 ◌also◌
◌also◌ : {A B : Type 0} → A → B → A × B
a also b = (a, b)

table_sound : AllSound table
table_sound =
    sound one (omega arith) (inl (omega arith))
    also sound two (omega arith) (inl (omega arith))
    also sound three (omega arith) (inl (omega arith))
    also sound three (omega arith) (inl (omega arith))
    also sound three (omega arith) (inl (omega arith))
    also sound three (omega arith) (inr (omega arith))
    also sound four (omega arith) (inr (omega arith))
    also sound four (omega arith) (inr (omega arith))
    also sound four (omega arith) (inr (omega arith))
    also tt

following_between : (rs : List Range) (bs : List ℕ) (lo v hi : ℕ) → (lo ≤ v) × (v ≤ hi) → Tails rs → Matches rs bs → (u : ℕ) × Following (length rs) bs v u × (lowest lo rs ≤ u) × (u ≤ highest hi rs)
following_between [] [] lo v hi i t m = (v, done refl, i.0, i.1)
following_between [] (b ∷ bs) lo v hi i t m = absurd m
following_between (r ∷ rs) [] lo v hi i t m = absurd m
following_between (r ∷ rs) (b ∷ bs) lo v hi i t m =
    let (u, f, l, h) = following_between rs bs (lo * 64 + (r.low - 0x80)) (v * 64 + (b - 0x80)) (hi * 64 + (r.high - 0x80)) (omega arith) t.2 m.2 in
    (u, next {c = b} {u = u} (omega arith) f, l, h)

sound_spells : {r : Range} {rs : List Range} → SoundRow r rs → (bs : List ℕ) → Matches (r ∷ rs) bs → (v : ℕ) × Spells bs v
sound_spells (sound f h s) [] m = absurd m
sound_spells {r} {rs} (sound {from} f h s) (b ∷ bs) m =
    let (v, g, lo, hi) = following_between rs bs (r.low - from) (b - from) (r.high - from) (omega arith) h.2 m.2 in
    (v, spell {b = b} f (omega arith) g (omega arith) (⊎_map (λ p. omega arith) (λ p. omega arith) s))

any_spells : (rows : List (List Range)) → AllSound rows → (bs : List ℕ) → AnyRow rows bs → (v : ℕ) × Spells bs v
any_spells [] a bs m = absurd m
any_spells ([] ∷ rows) a bs m = absurd a
any_spells ((r ∷ rs) ∷ rows) a bs (inl m) = sound_spells a.0 bs m
any_spells ((r ∷ rs) ∷ rows) a bs (inr m) = any_spells rows a.1 bs m

pub table-character : (bs rest : List ℕ) → Utf8Char bs → (v : ℕ) × (character (bs ++ rest) ≡ Some (whole v (length bs)))
table-character bs rest m = let s = any_spells table table_sound bs m in (s.0, spells_character s.1 rest)

pub character_iff_table : (bs rest : List ℕ) → ((v : ℕ) × (character (bs ++ rest) ≡ Some (whole v (length bs)))) ↔ Utf8Char bs
character_iff_table bs rest = (λ r. character_in_table bs rest r.0 r.1, table-character bs rest)
