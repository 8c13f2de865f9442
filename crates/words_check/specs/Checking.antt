-- How the code checks a word list. First it finds the words that are right, except for uses, up to the first that is not. Then it finds the
-- least of these that a word of the same or a smaller rank uses. Each text is walked a fixed number of times.
use Rattle.std.specs.Prelude.{ℕ, zero, suc, ◌≤◌, ◌+◌, ◌≡◌, Bool, true, false, cond, not, ◌&&◌, List, [], ◌∷◌, ltb, length, drop, Option, Some, None}
use Rattle.kinds.specs.Limits.{Limits, standard}
use Rattle.plan.specs.Pieces.{Piece}
use Rattle.stored.specs.Counted.{AtFront, CUT, FRONT}
use Rattle.stored.proofs.Pairs.{TwoCountedFound}
use Rattle.words_meaning.specs.Linking.{Word, listed, percent, stock_token, used}
use Rattle.words_meaning.specs.Stock.{fits, is_name, word}
use Rattle.words_shelf.specs.Shelf.{seek_piece}
use Rattle.words_shelf.specs.Words.{word_in, word_of, words_to}
use Rattle.words_shelf.specs.declared.WordAt.{WordAt}
use Rattle.words_check.specs.declared.FitWords.{FitWords}

-- the words that fit, the newest first; and whether they are all, with no byte behind them
pub record Fitting : Type 0 where
  pub words : List Word
  pub whole : Bool

unfoldable pub next_fitting : Limits → (older : List Word) → AtFront Word → (Word → List ℕ → Fitting) → Fitting
next_fitting lim older CUT later = record { words = older; whole = false }
next_fitting lim older (FRONT w rest) later = cond (fits lim older w) (later w rest) (record { words = older; whole = false })

unfoldable pub fitting : Limits → (more : ℕ) → (older : List Word) → List ℕ → Fitting
fitting lim zero older [] = record { words = older; whole = true }
fitting lim zero older (b ∷ bs) = record { words = older; whole = false }
fitting lim (suc more) older bs = next_fitting lim older (word bs) (λ w rest. fitting lim more (w ∷ older) rest)

-- the least rank that a word of the same or a smaller rank uses, else the number of words
unfoldable pub earliest : (limit : ℕ) → List Word → ℕ
earliest limit [] = 0
earliest limit (w ∷ older) =
    let before = earliest limit older in
    cond (ltb before (length older)) before (cond (used limit (stock_token w) (w ∷ older)) (length older) (suc (length older)))

-- a name that none of these words has
abbrev pub is_new_name : (older : List Word) → List ℕ → Bool
is_new_name older name = is_name standard name && not (listed (percent ∷ name) older)

-- the words of the ranks below n have names of their own
abbrev pub OwnNames : (list : List ℕ) → (words : List WordAt) → (n : ℕ) → Type 0
OwnNames list words n = (r : ℕ) → suc r ≤ n → listed (stock_token (word_of list words r)) (words_to list words r) ≡ false

-- the rank that was found, which is lower than the bound; where it is below `rank`, or none was found, the bound
abbrev pub lower : Option ℕ → (rank bound : ℕ) → ℕ
lower None rank bound = bound
lower (Some found) rank bound = cond (ltb found rank) bound found

-- the least rank from `rank` up to the bound that the pieces name, else the bound
unfoldable pub lowered : {L : Type 0} → (list : List ℕ) → (words : List WordAt) → (rank bound : ℕ) → List (Piece L) → ℕ
lowered list words rank bound [] = bound
lowered list words rank bound (x ∷ ps) = lowered list words rank (lower (seek_piece list words bound x) rank bound) ps

-- the word that a list has at a place, if it is not cut
abbrev pub word_ahead : (list : List ℕ) → (at : ℕ) → AtFront Word
word_ahead list at = word (drop at list)

-- one word checked by itself and beside the names before it, at a place, behind words that fit
pub record FitThere (list : List ℕ) (older : List Word) (at : ℕ) (w : WordAt) : Type 0 where
  pub there : word_ahead list at ≡ FRONT (word_in list w) (drop (w.text.at + w.text.len) list)
  pub fit : fits standard older (word_in list w) ≡ true
  pub stand : TwoCountedFound list at w.name w.text

unfoldable pub fit_front : Limits → (older : List Word) → AtFront Word → Bool
fit_front lim older CUT = false
fit_front lim older (FRONT w rest) = fits lim older w

-- the words that were found to fit
abbrev pub fit_words_told : (list : List ℕ) → (words : List WordAt) → FitWords → Fitting
fit_words_told list words s = record { words = words_to list words s.fit; whole = s.whole }
