-- What a token may hold: document 01, "A token runs from `{` ..". Characters are those of RFC 3629, section 3. Then which tokens are
-- annotations: request 2 of document 02.
use Rattle.std.specs.Prelude.{ℕ, zero, suc, ◌+◌, ◌*◌, ◌-◌, ◌≡◌, Bool, true, false, cond, not, ◌&&◌, ◌||◌, List, [], ◌∷◌, length, leb, ltb, eqb, Option, Some, None}
use Rattle.plan.specs.declared.Character.{Character}
use Rattle.plan.specs.Options.{under}
use Rattle.plan.specs.Plan.{Plan, end, operator, token, block, open_brace, close_brace}

-- A byte 10xxxxxx follows another in a character, and adds six bits to its value.
unfoldable pub follows : ℕ → Bool
follows b = leb 128 b && ltb b 192

-- the value after n more bytes, if there are so many and each follows
unfoldable pub value : (n v : ℕ) → List ℕ → Option ℕ
value zero v bs = Some v
value (suc n) v [] = None
value (suc n) v (b ∷ bs) = let r = value n (v * 64 + (b - 128)) bs in cond (follows b) r None

-- no surrogate, and nothing past U+10FFFF
unfoldable pub scalar : ℕ → Bool
scalar v = ltb v 0xD800 || (ltb 0xDFFF v && leb v 0x10FFFF)

abbrev pub whole : (value width : ℕ) → Character
whole value width = record { value = value; width = width }

-- a value that needs fewer bytes than these is an overlong form
unfoldable pub well_formed : (width least : ℕ) → Option ℕ → Option Character
well_formed width least None = None
well_formed width least (Some v) = cond (leb least v && scalar v) (Some (whole v width)) None

-- the character that these bytes begin with, if they begin one: its value and how many bytes it has
unfoldable pub character : List ℕ → Option Character
character [] = None
character (b ∷ bs) =
    cond (ltb b 0x80) (Some (whole b 1))
    (cond (ltb b 0xC0) None
    (cond (ltb b 0xE0) (well_formed 2 0x80 (value 1 (b - 0xC0) bs))
    (cond (ltb b 0xF0) (well_formed 3 0x800 (value 2 (b - 0xE0) bs))
    (cond (ltb b 0xF8) (well_formed 4 0x10000 (value 3 (b - 0xF0) bs)) None))))

-- no brace, no U+0000 to U+001F, no U+007F to U+009F, no U+FFFD
unfoldable pub may_hold : ℕ → Bool
may_hold v = not (eqb v open_brace) && (not (eqb v close_brace) && (leb 0x20 v && ((ltb v 0x7F || ltb 0x9F v) && not (eqb v 0xFFFD))))

-- the first character is one that a token may hold, and what comes after it is right too
unfoldable pub permits : Option Character → (ℕ → Bool) → Bool
permits None after = false
permits (Some c) after = may_hold c.value && after (c.width - 1)

-- every character is one that a token may hold; the first `skip` bytes belong to a character already looked at
unfoldable pub all_permitted : (skip : ℕ) → List ℕ → Bool
all_permitted skip [] = true
all_permitted (suc skip) (b ∷ bs) = all_permitted skip bs
all_permitted zero (b ∷ bs) = permits (character (b ∷ bs)) (λ width. all_permitted width bs)

-- the bytes between the braces: at least one, and with both braces no more than the limit
unfoldable pub allowed : (limit : ℕ) → List ℕ → Bool
allowed limit t = leb 1 (length t) && (leb (length t + 2) limit && all_permitted 0 t)

-- the bytes before the first `}`
unfoldable pub before_brace : List ℕ → Option (List ℕ)
before_brace [] = None
before_brace (b ∷ bs) = let r = under (b ∷◌) (before_brace bs) in cond (eqb b close_brace) (Some []) r

unfoldable pub if_allowed : (limit : ℕ) → Option (List ℕ) → Option (List ℕ)
if_allowed limit None = None
if_allowed limit (Some t) = cond (allowed limit t) (Some t) None

-- the token that a `{` opens, if the bytes after it are those of an allowed one
unfoldable pub token_text : (limit : ℕ) → List ℕ → Option (List ℕ)
token_text limit bs = if_allowed limit (before_brace bs)

-- the byte `&`
abbrev pub ampersand : ℕ
ampersand = 38

-- a token whose text starts with `&` is an annotation
unfoldable pub annotation : List ℕ → Bool
annotation [] = false
annotation (b ∷ bs) = eqb b ampersand

-- a token that reading keeps, a plan's own: it is allowed, and no annotation
pub record KeptToken (limit : ℕ) (t : List ℕ) : Type 0 where
  pub fine : allowed limit t ≡ true
  pub own : annotation t ≡ false

-- a plan whose tokens are kept ones, at any depth
abbrev pub Allowed : {L : Type 0} → (limit : ℕ) → Plan L → Type 0
Allowed limit end = Unit {0}
Allowed limit (operator l o p) = Allowed limit p
Allowed limit (token l t p) = KeptToken limit t × Allowed limit p
Allowed limit (block l b p) = Allowed limit b × Allowed limit p
