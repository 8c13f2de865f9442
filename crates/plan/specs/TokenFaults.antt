-- What is wrong with a token: request 1 of document 02. First comes the table, "this fault stands at this byte", and which of the faults is
-- the first. Then how a reader comes upon it. The bytes are those behind the token's `{`, counted from 0. So the token's 64th byte, with
-- the `{` as its first, is number 62, `limit - 2`.
use Rattle.std.specs.Prelude.{ℕ, zero, suc, ◌+◌, ◌-◌, ◌≤◌, ◌<◌, ◌≡◌, ◌≢◌, ◌⊎◌, cond, List, [], ◌∷◌, length, get_or, drop, eqb, Option, Some, None}
use Rattle.plan.specs.declared.Character.{Character}
use Rattle.plan.specs.declared.TokenFault.{TokenFault}
use Rattle.plan.specs.declared.TokenFault.TheVariants.{Empty, Long, BadUtf8, Forbidden, InnerBrace}
use Rattle.plan.specs.Plan.{open_brace, close_brace}
use Rattle.plan.specs.Token.{character, may_hold, whole}

-- no `}` is among the first n bytes
abbrev pub NoneBefore : List ℕ → ℕ → Type 0
NoneBefore bs n = (i : ℕ) → i < n → get_or bs i 0 ≢ close_brace

-- a character of the token is to begin at byte i: one at the first byte, and one behind each well-formed character that is not the `}`
pub data CharacterAt (bs : List ℕ) : ℕ → Type 0 where
  first : CharacterAt bs 0
  behind : {i v width : ℕ} → CharacterAt bs i → character (drop i bs) ≡ Some (whole v width) → v ≢ close_brace → CharacterAt bs (i + width)

-- the characters that no token may hold, its braces aside
abbrev pub NeverHeld : ℕ → Type 0
NeverHeld v = (v < 0x20) ⊎ (((0x7F ≤ v) × (v ≤ 0x9F)) ⊎ (v ≡ 0xFFFD))

-- `FaultAt limit bs i f`: the fault f stands at byte i
pub data FaultAt (limit : ℕ) (bs : List ℕ) : ℕ → TokenFault → Type 0 where
  -- 21, nothing between the braces: the closing brace
  nothing_between : {rest : List ℕ} → bs ≡ close_brace ∷ rest → FaultAt limit bs 0 Empty
  -- 22, the token's 64th byte is there and is not `}`, and no `}` stands before it: that byte
  token_too_long : {i : ℕ} → i ≡ limit - 2 → i < length bs → NoneBefore bs (suc i) → FaultAt limit bs i Long
  -- 22, the text ends before that, with no `}`: the text's end
  text_ends : {i : ℕ} → i ≡ length bs → i ≤ limit - 2 → NoneBefore bs i → FaultAt limit bs i Long
  -- 23, no well-formed character begins here: its first byte
  no_character : {i : ℕ} → CharacterAt bs i → i < length bs → character (drop i bs) ≡ None → FaultAt limit bs i BadUtf8
  -- 24, a character that no token may hold: its first byte
  never_held : {i v width : ℕ} → CharacterAt bs i → character (drop i bs) ≡ Some (whole v width) → NeverHeld v → FaultAt limit bs i Forbidden
  -- 25, a `{` in the token: that `{`
  inner_brace : {i : ℕ} → i < length bs → NoneBefore bs i → get_or bs i 0 ≡ open_brace → FaultAt limit bs i InnerBrace

-- the first fault by place; at one place, too long comes before every other
pub record FirstFault (limit : ℕ) (bs : List ℕ) (i : ℕ) (f : TokenFault) : Type 0 where
  pub stands : FaultAt limit bs i f
  pub before_others : {j : ℕ} {g : TokenFault} → FaultAt limit bs j g → (i < j) ⊎ ((i ≡ j) × ((f ≡ g) ⊎ (f ≡ Long)))

-- a fault, and the byte at which it was met
pub record Met : Type 0 where
  pub byte : ℕ
  pub fault : TokenFault

abbrev pub met : ℕ → TokenFault → Met
met i f = record { byte = i; fault = f }

-- what is wrong where a character stands that a token may not hold; a `}` is wrong only as the first character
unfoldable pub unheld : ℕ → TokenFault
unheld v = cond (eqb v close_brace) Empty (cond (eqb v open_brace) InnerBrace Forbidden)

-- at a character: its own fault, or what comes after it
unfoldable pub meet : (i : ℕ) → Option Character → (ℕ → Met) → Met
meet i None after = met i BadUtf8
meet i (Some c) after = let further = after (c.width - 1) in cond (may_hold c.value) further (met i (unheld c.value))

-- The first fault from byte i on, of bytes that are no allowed token's. `left` bytes may still come before the token is too long. The first
-- `skip` bytes belong to a character already looked at. Where no byte may come any more, a `}` can only be the first byte of all: behind
-- other bytes it would end an allowed token.
unfoldable pub first_fault : (i left skip : ℕ) → List ℕ → Met
first_fault i left skip [] = met i Long
first_fault i zero skip (b ∷ bs) = met i (cond (eqb b close_brace) Empty Long)
first_fault i (suc left) (suc skip) (b ∷ bs) = first_fault (suc i) left skip bs
first_fault i (suc left) zero (b ∷ bs) = meet i (character (b ∷ bs)) (λ width. first_fault (suc i) left width bs)
