-- Keeping where the words of a list stand: storing that of one more word, and what the loop that finds them knows.
use Prim.Native.Nat.{ℕ, zero, suc, ◌+◌, ◌-◌, ◌≤◌, ◌<◌}
use mathlib.Core.Path.{◌≡◌, refl, ap, ap₂, sym, subst, ◌∙◌}
use mathlib.Core.Bool.{false}
use mathlib.Core.List.{List, [], ◌∷◌}
use native.Mathlib.Omega.{arith}
use borrow.Author.Count.{below_more}
use lib.Dec.{eqb}
use lib.ListN.{length, drop, length-set, set}
use lib.Seq.{get_or-set_other, get_or-set_same}
use Rattle.kinds.specs.Limits.{standard}
use Rattle.words_meaning.specs.Linking.{Word, listed, stock_token}
use Rattle.words_meaning.specs.Stock.{word_limit}
use Rattle.words_shelf.specs.Words.{Shelved, WordKept, word_at, word_in, word_of, words_to}
use Rattle.words_shelf.specs.declared.WordAt.{WordAt}
use Rattle.words_check.specs.Checking.{FitThere, OwnNames, fit_front, fitting, word_ahead}
use Rattle.words_check.proofs.Fitting.{FitWord, at_end, fit_word, goes_on, next_word, stops}

-- Storing where the word of a rank stands.

module _ (list : List ℕ) (words : List WordAt) (rank : ℕ) (w : WordAt) (room : rank < length words) where
  -- the words with this one among them
  abbrev new_words : List WordAt
  new_words = set words rank w

  at_new : word_at new_words rank ≡ w
  at_new = get_or-set_same words rank w _ room

  -- it changes no word of a smaller rank
  at_stays : (r : ℕ) → r < rank → word_at words r ≡ word_at new_words r
  at_stays r h = sym (get_or-set_other words rank r w _ (λ e. omega arith))

  word_stays : (r : ℕ) → r < rank → word_of list words r ≡ word_of list new_words r
  unfolding word_of
  word_stays r h = ap (word_in list) (at_stays r h)

  words_stay : (n : ℕ) → n ≤ rank → words_to list words n ≡ words_to list new_words n
  unfolding words_to
  words_stay zero h = refl
  words_stay (suc n) h = ap₂ ◌∷◌ (word_stays n (omega arith)) (words_stay n (omega arith))

  -- and makes the word that stands there the rank's
  word_new : word_of list new_words rank ≡ word_in list w
  unfolding word_of
  word_new = ap (word_in list) at_new

  words_new : word_in list w ∷ words_to list words rank ≡ words_to list new_words (rank + 1)
  unfolding words_to
  words_new =
      let next : suc rank ≡ rank + 1 = omega arith in
      ap₂ ◌∷◌ (sym word_new) (words_stay rank (omega arith)) ∙ ap (words_to list new_words) next

  -- the words are kept as before, and have names of their own
  shelved_new : WordKept list w → Shelved list words rank → Shelved list new_words (rank + 1)
  shelved_new kept s =
      below_more (λ r. WordKept list (word_at new_words r)) rank (λ r h. subst (WordKept list) (at_stays r h) (s r h)) (subst (WordKept list) (sym at_new) kept)

  own_new : FitWord (words_to list words rank) (word_in list w) → OwnNames list words rank → OwnNames list new_words (rank + 1)
  own_new fit own =
      below_more (λ r. listed (stock_token (word_of list new_words r)) (words_to list new_words r) ≡ false) rank
      (λ r h. ap₂ (λ v ws. listed (stock_token v) ws) (sym (word_stays r h)) (sym (words_stay r (omega arith))) ∙ own r h)
      (ap₂ (λ v ws. listed (stock_token v) ws) word_new (sym (words_stay rank (omega arith))) ∙ fit.new)

-- What the loop knows, of so many places lent: the words found so far, and that the rest of the list decides.
pub record ShelvedIn (room : ℕ) (list : List ℕ) (words : List WordAt) (count rank at : ℕ) : Type 0 where
  pub long : length words ≡ room
  pub within : at ≤ length list
  pub decides : fitting standard count [] (drop 4 list) ≡ fitting standard (count - rank) (words_to list words rank) (drop at list)
  pub shelved : Shelved list words rank
  pub own : OwnNames list words rank

-- .. and of a place for each word that a list may have
abbrev pub ShelvedSoFar : (list : List ℕ) → (words : List WordAt) → (count rank at : ℕ) → Type 0
ShelvedSoFar = ShelvedIn word_limit

-- before any word
pub shelve_first : {room : ℕ} (list : List ℕ) (words : List WordAt) (count : ℕ) → length words ≡ room → 4 ≤ length list → ShelvedIn room list words count 0 4
unfolding words_to
shelve_first list words count long there =
    record {
      long = long;
      within = there;
      decides = ap (λ k. fitting standard k [] (drop 4 list)) (let z : count ≡ count - 0 = omega arith in z);
      shelved = λ r h. absurd (omega arith);
      own = λ r h. absurd (omega arith);
    }

module _ {room : ℕ} {list : List ℕ} {words : List WordAt} {count rank at : ℕ} (inv : ShelvedIn room list words count rank at) where
  abbrev older : List Word
  older = words_to list words rank

  -- the next word does not fit
  pub shelve_stop : rank < count → fit_front standard older (word_ahead list at) ≡ false
      → fitting standard count [] (drop 4 list) ≡ record { words = older; whole = false }
  shelve_stop h e =
      inv.decides ∙ next_word standard older (count - rank) (drop at list) (omega arith)
      ∙ stops standard older (word_ahead list at) (λ w rest. fitting standard (count - rank - 1) (w ∷ older) rest) e

  -- no word is to come
  pub shelve_last : count ≤ rank → rank ≤ count → fitting standard count [] (drop 4 list) ≡ record { words = words_to list words count; whole = eqb at (length list) }
  shelve_last h g =
      let none : count - rank ≡ 0 = omega arith in
      let same : rank ≡ count = omega arith in
      inv.decides ∙ ap (λ k. fitting standard k older (drop at list)) none ∙ at_end standard older list at inv.within
      ∙ ap (λ k. record { words = words_to list words k; whole = eqb at (length list) }) same

  -- the next word fits, and where it stands is kept
  pub shelve_on : {w : WordAt} {end : ℕ} → rank < count → count ≤ room → FitThere list (words_to list words rank) at w → end ≡ w.text.at + w.text.len
      → ShelvedIn room list (set words rank w) count (rank + 1) end
  shelve_on {w} {end} h few f e =
      let there : rank < length words = omega (arith, inv.long) in
      let fit = fit_word older (word_in list w) f.fit in
      let less : count - rank - 1 ≡ count - (rank + 1) = omega arith in
      record {
        long = length-set words rank w ∙ inv.long;
        within = omega (arith, f.stand.within₂);
        decides =
            inv.decides ∙ goes_on standard older (count - rank) (drop at list) (omega arith) f.there f.fit
            ∙ ap₂ (λ k ws. fitting standard k ws (drop (w.text.at + w.text.len) list)) less (words_new list words rank w there)
            ∙ ap (λ k. fitting standard (count - (rank + 1)) (words_to list (set words rank w) (rank + 1)) (drop k list)) (sym e);
        shelved = shelved_new list words rank w there (f.stand.within, f.stand.within₂, fit.reads) inv.shelved;
        own = own_new list words rank w there fit inv.own;
      }
