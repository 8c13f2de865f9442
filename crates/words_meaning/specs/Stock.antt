-- A word list: a count, then for each word its name and its text, each behind its own count; and the least rank at fault.
use Rattle.std.specs.Prelude.{ℕ, zero, suc, ◌-◌, Bool, cond, not, ◌&&◌, List, [], ◌∷◌, leb, length}
use Rattle.kinds.specs.Limits.{Limits, token_limit}
use Rattle.plan.specs.Read.{acceptable}
use Rattle.plan.specs.Token.{allowed}
use Rattle.stored.specs.Counted.{AtFront, CUT, FRONT, number, two_counted}
use Rattle.words_meaning.specs.Linking.{Word, listed, percent, stock_token, used}

-- no list has more words
abbrev pub word_limit : ℕ
word_limit = 256

-- the most bytes of a name: `{`, `%` and `}` are the token's and not the name's
abbrev pub name_limit : ℕ
name_limit = token_limit - 3

unfoldable pub word : List ℕ → AtFront Word
word bs = two_counted (λ name text. record { name = name; text = text }) bs

-- a name is not empty and makes an allowed token
unfoldable pub is_name : Limits → (name : List ℕ) → Bool
is_name lim name = leb 1 (length name) && allowed lim.token (percent ∷ name)

-- a word that is right by itself and has a name of its own
unfoldable pub fits : Limits → (older : List Word) → Word → Bool
fits lim older w = is_name lim w.name && (not (listed (stock_token w) older) && acceptable lim w.text)

-- .. and that no word up to itself uses
unfoldable pub right : Limits → (older : List Word) → Word → Bool
right lim older w = fits lim older w && not (used lim.token (stock_token w) (w ∷ older))

-- the words, the newest first; or the least rank at fault
pub data Stock : Type 0 where
  LIST_FAULT : (rank : ℕ) → Stock
  WORDS : List Word → Stock

unfoldable pub next_word : Limits → (older : List Word) → AtFront Word → (Word → List ℕ → Stock) → Stock
next_word lim older CUT later = LIST_FAULT (length older)
next_word lim older (FRONT w rest) later = cond (right lim older w) (later w rest) (LIST_FAULT (length older))

-- so many words more, and no byte behind them
unfoldable pub stocked : Limits → (more : ℕ) → (older : List Word) → List ℕ → Stock
stocked lim zero older [] = WORDS older
stocked lim zero older (b ∷ bs) = LIST_FAULT (length older)
stocked lim (suc more) older bs = next_word lim older (word bs) (λ w rest. stocked lim more (w ∷ older) rest)

-- a cut count gives 0, and a count over the limit gives the limit
unfoldable pub as_counted : Limits → AtFront ℕ → Stock
as_counted lim CUT = LIST_FAULT 0
as_counted lim (FRONT n rest) = cond (leb n word_limit) (stocked lim n [] rest) (LIST_FAULT word_limit)

unfoldable pub stock : Limits → List ℕ → Stock
stock lim list = as_counted lim (number list)
