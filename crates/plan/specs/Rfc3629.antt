-- The table of byte ranges in RFC 3629, section 4, row by row in the RFC's order: which bytes are one UTF-8 character.
-- `character` of Token.antt is written from section 3 instead; the proofs show that the two agree.
use Rattle.std.specs.Prelude.{ℕ, ◌≤◌, List, [], ◌∷◌, ◌⊎◌}

-- %x<low>-<high>
pub record Range : Type 0 where
  pub low : ℕ
  pub high : ℕ

infix 70 ◌to◌
abbrev pub ◌to◌ : ℕ → ℕ → Range
low to high = record { low = low; high = high }

-- UTF8-tail
abbrev pub tail : Range
tail = 0x80 to 0xBF

abbrev pub table : List (List Range)
table =
    (0x00 to 0x7F ∷ [])
    ∷ (0xC2 to 0xDF ∷ tail ∷ [])
    ∷ (0xE0 to 0xE0 ∷ 0xA0 to 0xBF ∷ tail ∷ [])
    ∷ (0xE1 to 0xEC ∷ tail ∷ tail ∷ [])
    ∷ (0xED to 0xED ∷ 0x80 to 0x9F ∷ tail ∷ [])
    ∷ (0xEE to 0xEF ∷ tail ∷ tail ∷ [])
    ∷ (0xF0 to 0xF0 ∷ 0x90 to 0xBF ∷ tail ∷ tail ∷ [])
    ∷ (0xF1 to 0xF3 ∷ tail ∷ tail ∷ tail ∷ [])
    ∷ (0xF4 to 0xF4 ∷ 0x80 to 0x8F ∷ tail ∷ tail ∷ []) ∷ []

-- as many bytes as ranges, each within its own
abbrev pub Matches : List Range → List ℕ → Type 0
Matches [] [] = Unit {0}
Matches [] (b ∷ bs) = ⊥
Matches (r ∷ rs) [] = ⊥
Matches (r ∷ rs) (b ∷ bs) = (r.low ≤ b) × (b ≤ r.high) × Matches rs bs

abbrev pub AnyRow : List (List Range) → List ℕ → Type 0
AnyRow [] bs = ⊥
AnyRow (r ∷ rs) bs = Matches r bs ⊎ AnyRow rs bs

abbrev pub Utf8Char : List ℕ → Type 0
Utf8Char bs = AnyRow table bs
