-- A whole list: the words that fit and the least of them that is used early tell what the list is.
use Prim.Native.Nat.{ℕ, zero, suc, ◌≤◌, ◌<◌}
use mathlib.Core.Path.{◌≡◌, refl, ap, sym, ◌∙◌}
use mathlib.Core.Logic.{◌⊎◌, inl, inr}
use mathlib.Core.Bool.{Bool, true, false, cond, not, ◌&&◌}
use mathlib.Core.List.{List, [], ◌∷◌}
use native.Mathlib.Omega.{arith}
use borrow.Author.Tests.{le-leb, le-ltb, lt-leb, lt-ltb, ltb-true}
use lib.Dec.{leb, ltb}
use lib.ListN.{length, drop}
use Rattle.kinds.specs.Limits.{Limits, standard, token_limit}
use Rattle.stored.specs.Counted.{AtFront, CUT, FRONT}
use Rattle.stored.specs.Places.{number_at}
use Rattle.std.specs.Prelude.{None, Some}
use Rattle.stored.proofs.Places.{number_found, number_lost}
use Rattle.words_meaning.specs.Linking.{Word, stock_token, used}
use Rattle.words_meaning.specs.Stock.{LIST_FAULT, Stock, WORDS, as_counted, fits, next_word, right, stock, stocked, word, word_limit}
use Rattle.words_shelf.specs.Words.{words_to}
use Rattle.words_shelf.specs.declared.WordAt.{WordAt}
use Rattle.words_check.specs.Checking.{Fitting, earliest, fitting, next_fitting}
use Rattle.words_check.proofs.Ranks.{many}

-- what the words that fit make of the list
unfoldable pub verdict : (limit : ℕ) → Fitting → Stock
verdict limit f =
    let early = earliest limit f.words in
    let many = length f.words in
    cond (ltb early many) (LIST_FAULT early) (cond f.whole (WORDS f.words) (LIST_FAULT many))

module _ (lim : Limits) where
  -- none of the words is used early
  abbrev pub Clean : List Word → Type 0
  Clean ws = earliest lim.token ws ≡ length ws

  -- one more word, where none before it is used early
  more_clean : (w : Word) (older : List Word) → Clean older
      → earliest lim.token (w ∷ older) ≡ cond (used lim.token (stock_token w) (w ∷ older)) (length older) (suc (length older))
  unfolding earliest
  more_clean w older clean = rw (clean, le-ltb (length older) (length older) (omega arith)) refl

  -- one of the words is used early
  abbrev Early : List Word → Type 0
  Early ws = earliest lim.token ws < length ws

  -- it stays the least, whatever follows
  more_early : (w : Word) (older : List Word) → Early older → earliest lim.token (w ∷ older) ≡ earliest lim.token older
  unfolding earliest
  more_early w older h = rw (lt-ltb (earliest lim.token older) (length older) h) refl

  -- the least rank that is used early is the same, and there are no fewer words
  record Stays (older ws : List Word) : Type 0 where
    early : earliest lim.token ws ≡ earliest lim.token older
    long : length older ≤ length ws

  -- it stays so to the last word that fits
  early_stays : (more : ℕ) (older : List Word) (bs : List ℕ) → Early older → Stays older (fitting lim more older bs).words
  unfolding fitting next_fitting
  early_stays zero older [] h = record { early = refl; long = omega arith }
  early_stays zero older (b ∷ bs) h = record { early = refl; long = omega arith }
  early_stays (suc more) older bs h = go (word bs) (λ w rest. early_stays more (w ∷ older) rest)
    where
      longer : (w : Word) {ws : List Word} → Stays (w ∷ older) ws → Stays older ws
      longer w s = record { early = s.early ∙ more_early w older h; long = omega (arith, s.long) }

      fit : (w : Word) (rest : List ℕ) (b : Bool) → Stays (w ∷ older) (fitting lim more (w ∷ older) rest).words
          → Stays older (cond b (fitting lim more (w ∷ older) rest) (record { words = older; whole = false })).words
      fit w rest true s = longer w s
      fit w rest false s = record { early = refl; long = omega arith }

      go : (x : AtFront Word) → ((w : Word) (rest : List ℕ) → Early (w ∷ older) → Stays (w ∷ older) (fitting lim more (w ∷ older) rest).words)
          → Stays older (next_fitting lim older x (λ w rest. fitting lim more (w ∷ older) rest)).words
      go CUT each = record { early = refl; long = omega arith }
      go (FRONT w rest) each = fit w rest (fits lim older w) (each w rest (omega (arith, more_early w older h)))

  -- words that fit and of which none is used early, and no word more
  ended : (older : List Word) (whole : Bool) → Clean older
      → verdict lim.token (record { words = older; whole = whole }) ≡ cond whole (WORDS older) (LIST_FAULT (length older))
  unfolding verdict
  ended older whole clean = rw (clean, le-ltb (length older) (length older) (omega arith)) refl

  -- one that is used early is the fault, whatever follows
  faulted : (more : ℕ) (older : List Word) (bs : List ℕ) → Early older
      → verdict lim.token (fitting lim more older bs) ≡ LIST_FAULT (earliest lim.token older)
  unfolding verdict
  faulted more older bs h =
      let s = early_stays more older bs h in
      let less = lt-ltb (earliest lim.token older) (length (fitting lim more older bs).words) (omega (arith, s.long)) in
      rw (s.early, less) refl

  -- the list is what the words that fit make of it
  abbrev pub Told : (more : ℕ) → (older : List Word) → List ℕ → Type 0
  Told more older bs = stocked lim more older bs ≡ verdict lim.token (fitting lim more older bs)

  stocked-fitting : (more : ℕ) (older : List Word) (bs : List ℕ) → Clean older → Told more older bs
  unfolding stocked fitting next_word next_fitting right
  stocked-fitting zero older [] clean = sym (ended older true clean)
  stocked-fitting zero older (b ∷ bs) clean = sym (ended older false clean)
  stocked-fitting (suc more) older bs clean = go (word bs) (λ w rest. stocked-fitting more (w ∷ older) rest)
    where
      unused : (w : Word) (rest : List ℕ) (b : Bool) → used lim.token (stock_token w) (w ∷ older) ≡ b
          → (Clean (w ∷ older) → Told more (w ∷ older) rest)
          → cond (not b) (stocked lim more (w ∷ older) rest) (LIST_FAULT (length older)) ≡ verdict lim.token (fitting lim more (w ∷ older) rest)
      unused w rest true e later =
          let here : earliest lim.token (w ∷ older) ≡ length older = more_clean w older clean ∙ ap (λ b. cond b (length older) (suc (length older))) e in
          sym (faulted more (w ∷ older) rest (omega arith) ∙ ap LIST_FAULT here)
      unused w rest false e later = later (more_clean w older clean ∙ ap (λ b. cond b (length older) (suc (length older))) e)

      fit : (w : Word) (rest : List ℕ) (b : Bool)
          → (Clean (w ∷ older) → Told more (w ∷ older) rest)
          → cond (b && not (used lim.token (stock_token w) (w ∷ older))) (stocked lim more (w ∷ older) rest) (LIST_FAULT (length older))
          ≡ verdict lim.token (cond b (fitting lim more (w ∷ older) rest) (record { words = older; whole = false }))
      fit w rest true later = unused w rest (used lim.token (stock_token w) (w ∷ older)) refl later
      fit w rest false later = sym (ended older false clean)

      go : (x : AtFront Word) → ((w : Word) (rest : List ℕ) → Clean (w ∷ older) → Told more (w ∷ older) rest)
          → next_word lim older x (λ w rest. stocked lim more (w ∷ older) rest)
          ≡ verdict lim.token (next_fitting lim older x (λ w rest. fitting lim more (w ∷ older) rest))
      go CUT each = sym (ended older false clean)
      go (FRONT w rest) each = fit w rest (fits lim older w) (each w rest)

-- it is not past the number of words
earliest_most : (limit : ℕ) (ws : List Word) → earliest limit ws ≤ length ws
unfolding earliest
earliest_most limit [] = omega arith
earliest_most limit (w ∷ older) = go (ltb (earliest limit older) (length older)) refl (used limit (stock_token w) (w ∷ older))
  where
    go : (b : Bool) → ltb (earliest limit older) (length older) ≡ b → (u : Bool)
        → cond b (earliest limit older) (cond u (length older) (suc (length older))) ≤ suc (length older)
    go true s u = omega (arith, ltb-true (earliest limit older) (length older) s)
    go false s true = omega arith
    go false s false = omega arith

pub earliest_within : (list : List ℕ) (words : List WordAt) (fit : ℕ) {fault : ℕ} → fault ≡ earliest token_limit (words_to list words fit) → fault ≤ fit
earliest_within list words fit least = omega (arith, least, earliest_most token_limit (words_to list words fit), many list words fit)

-- The list as the code checks it.

module _ (list : List ℕ) where
  -- the count is cut
  pub no_count : number_at list 0 ≡ None → stock standard list ≡ LIST_FAULT 0
  unfolding stock as_counted
  no_count e = ap (as_counted standard) (number_lost list 0 e)

  module _ {count : ℕ} (found : number_at list 0 ≡ Some count) where
    -- the count is whole: the words begin behind its four bytes
    pub list_long : 4 ≤ length list
    list_long = (number_found list 0 found).0

    -- the count decides first
    by_count : stock standard list ≡ cond (leb count word_limit) (stocked standard count [] (drop 4 list)) (LIST_FAULT word_limit)
    unfolding stock as_counted
    by_count = ap (as_counted standard) (number_found list 0 found).1

    -- more words than may be
    pub too_many : word_limit < count → stock standard list ≡ LIST_FAULT word_limit
    too_many h = by_count ∙ ap (λ b. cond b (stocked standard count [] (drop 4 list)) (LIST_FAULT word_limit)) (lt-leb count word_limit h)

    -- so many may be: it is what its words are
    counted : count ≤ word_limit → stock standard list ≡ stocked standard count [] (drop 4 list)
    counted h = by_count ∙ ap (λ b. cond b (stocked standard count [] (drop 4 list)) (LIST_FAULT word_limit)) (le-leb count word_limit h)

    -- what was found of its words
    module _ (few : count ≤ word_limit) (words : List WordAt) (fit : ℕ) {fault : ℕ} {whole : Bool}
        (told : fitting standard count [] (drop 4 list) ≡ record { words = words_to list words fit; whole = whole })
        (least : fault ≡ earliest token_limit (words_to list words fit)) where
      -- then the words that fit, and the least of them that is used early
      by_words : stock standard list ≡ cond (ltb fault fit) (LIST_FAULT fault) (cond whole (WORDS (words_to list words fit)) (LIST_FAULT fit))
      unfolding verdict earliest
      by_words =
          counted few ∙ stocked-fitting standard count [] (drop 4 list) refl ∙ ap (verdict token_limit) told ∙ rw (many list words fit, sym least) refl

      -- none is used early
      not-early : fit ≤ fault → stock standard list ≡ cond whole (WORDS (words_to list words fit)) (LIST_FAULT fit)
      not-early h = by_words ∙ ap (λ b. cond b (LIST_FAULT fault) (cond whole (WORDS (words_to list words fit)) (LIST_FAULT fit))) (le-ltb fault fit h)

      -- and the words are all
      pub all_right : fit ≤ fault → whole ≡ true → stock standard list ≡ WORDS (words_to list words fit)
      all_right h e = not-early h ∙ ap (λ b. cond b (WORDS (words_to list words fit)) (LIST_FAULT fit)) e

      -- one is, or the next does not fit, or bytes are behind the last
      pub one_wrong : (fault < fit) ⊎ ((fit ≤ fault) × (whole ≡ false)) → stock standard list ≡ LIST_FAULT fault
      one_wrong (inl h) = by_words ∙ ap (λ b. cond b (LIST_FAULT fault) (cond whole (WORDS (words_to list words fit)) (LIST_FAULT fit))) (lt-ltb fault fit h)
      one_wrong (inr (h, e)) =
          let is : fit ≡ fault = omega (arith, earliest_within list words fit least) in
          not-early h ∙ ap (λ b. cond b (WORDS (words_to list words fit)) (LIST_FAULT fit)) e ∙ ap LIST_FAULT is
