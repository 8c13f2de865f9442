-- A list that is right has the words that it says, and one that is not has one least rank at fault: what the definition's recursion
-- finds is what specs/Lists.antt says, both ways.
use Prim.Native.Nat.{ℕ, zero, suc, ◌+◌, ◌-◌, ◌≤◌, ◌<◌}
use mathlib.Core.Path.{◌≡◌, refl, ap, sym, subst, ◌∙◌}
use mathlib.Core.Logic.{◌↔◌}
use mathlib.Core.Bool.{Bool, true, false, not, ◌&&◌, ◌||◌, or-true}
use mathlib.Core.List.{List, [], ◌∷◌}
use native.Mathlib.Omega.{arith}
use native.Mathlib.Nat.{add-zero, zero-add}
use borrow.Author.Tests.{leb-true, leb-false, le-leb, lt-leb, not-false}
use lib.Dec.{leb}
use lib.ListN.{length}
use Rattle.kinds.specs.Limits.{standard, token_limit}
use Rattle.plan.specs.Read.{acceptable}
use Rattle.plan.specs.Reading.{plan_of}
use Rattle.plan.specs.Token.{allowed}
use Rattle.kinds.proofs.Tests.{and_true, false_is_not_true, never}
use Rattle.stored.specs.Counted.{AtFront, CUT, FRONT, number}
use Rattle.stored.specs.Same.{same}
use Rattle.stored.proofs.Same.{same_equal, same_true}
use Rattle.words_meaning.specs.Linking.{Word, holds, listed, stock_token, used}
use Rattle.words_meaning.specs.Stock.{LIST_FAULT, Stock, WORDS, as_counted, fits, is_name, next_word, right, stock, stocked, word, word_limit}
use Rattle.words_meaning.proofs.Listing.{Right, right-word, stock-right}
use Rattle.words_theorems.specs.Lists.{BadList, FaultyWord, HasWords, OneOf, Uses, WholeWords, bad_name, unacceptable_text, bytes_after, count_cut, count_over, an_older, named_already, the_newest, no_name, none_yet, one_word_more, used_already, word_cut, word_faulty}
use Rattle.words_theorems.specs.Terms.{no_words}

-- The tests of a word, one by one.

-- one of two tests holds
or_cases : {P : Type 0} (a b : Bool) → (a || b) ≡ true → (a ≡ true → P) → (b ≡ true → P) → P
or_cases true b e one other = one refl
or_cases false b e one other = other e

same_name : (v w : Word) → stock_token w ≡ stock_token v → v.name ≡ w.name
same_name v w e = cc

listed-one : (w : Word) (older : List Word) → listed (stock_token w) older ≡ true → OneOf (λ v. v.name ≡ w.name) older
unfolding listed
listed-one w [] e = false_is_not_true e
listed-one w (v ∷ older) e =
    or_cases (same (stock_token w) (stock_token v)) (listed (stock_token w) older) e
    (λ h. the_newest (same_name v w (same_equal (stock_token w) (stock_token v) h))) (λ h. an_older (listed-one w older h))

one-listed : (w : Word) {older : List Word} → OneOf (λ v. v.name ≡ w.name) older → listed (stock_token w) older ≡ true
unfolding listed
one-listed w (the_newest {w = v} h) = rw (same_true (stock_token w) (stock_token v) (cc))
one-listed w (an_older {w = v} h) = ap (same (stock_token w) (stock_token v) ||◌) (one-listed w h) ∙ or-true (same (stock_token w) (stock_token v))

used-one : (w : Word) (ws : List Word) → used token_limit (stock_token w) ws ≡ true → OneOf (λ v. Uses v w) ws
unfolding used
used-one w [] e = false_is_not_true e
used-one w (v ∷ older) e =
    or_cases (holds (stock_token w) (plan_of token_limit v.text)) (used token_limit (stock_token w) older) e (λ h. the_newest h)
    (λ h. an_older (used-one w older h))

one-used : (w : Word) {ws : List Word} → OneOf (λ v. Uses v w) ws → used token_limit (stock_token w) ws ≡ true
unfolding used
one-used w (the_newest {w = v} h) = rw h
one-used w (an_older {w = v} h) =
    let uses = holds (stock_token w) (plan_of token_limit v.text) in ap (uses ||◌) (one-used w h) ∙ or-true uses

-- a right word has none of the faults
right_faultless : (older : List Word) (w : Word) → right standard older w ≡ true → FaultyWord older w → ⊥
unfolding is_name
right_faultless older w e (no_name h) =
    let named = and_true (leb 1 (length w.name)) (allowed token_limit (stock_token w)) (right-word standard older w e).named in
    omega (arith, leb-true 1 (length w.name) named.0)
right_faultless older w e (bad_name h) =
    let named = and_true (leb 1 (length w.name)) (allowed token_limit (stock_token w)) (right-word standard older w e).named in
    false_is_not_true (sym h ∙ named.1)
right_faultless older w e (named_already h) = false_is_not_true (sym (right-word standard older w e).new ∙ one-listed w h)
right_faultless older w e (unacceptable_text h) = false_is_not_true (sym h ∙ (right-word standard older w e).reads)
right_faultless older w e (used_already h) = false_is_not_true (sym (right-word standard older w e).unused ∙ one-used w h)

-- one of two tests fails
and_cases : {P : Type 0} (a b : Bool) → (a && b) ≡ false → (a ≡ false → P) → (b ≡ false → P) → P
and_cases true b e one other = other e
and_cases false b e one other = one refl

-- and a word that is not right has one
wrong_faulty : (older : List Word) (w : Word) → right standard older w ≡ false → FaultyWord older w
unfolding right fits is_name
wrong_faulty older w e =
    and_cases (fits standard older w) (not (used token_limit (stock_token w) (w ∷ older))) e
    (λ h. and_cases (is_name standard w.name) (not (listed (stock_token w) older) && acceptable standard w.text) h
    (λ h. and_cases (leb 1 (length w.name)) (allowed token_limit (stock_token w)) h
    (λ h. no_name (omega (arith, leb-false 1 (length w.name) h))) bad_name)
    (λ h. and_cases (not (listed (stock_token w) older)) (acceptable standard w.text) h
    (λ h. named_already (listed-one w older (not-false _ h))) unacceptable_text))
    (λ h. used_already (used-one w (w ∷ older) (not-false _ h)))

faultless_right : (older : List Word) (w : Word) → (FaultyWord older w → ⊥) → right standard older w ≡ true
faultless_right older w none = go (right standard older w) refl
  where
    go : (x : Bool) → right standard older w ≡ x → right standard older w ≡ true
    go true h = h
    go false h = absurd (none (wrong_faulty older w h))

-- Reading the words.

-- a word at the front that is right is read, and the rest goes on behind it
next-right : (more : ℕ) (older : List Word) (bs later : List ℕ) (w : Word) → word bs ≡ FRONT w later → right standard older w ≡ true
    → stocked standard (suc more) older bs ≡ stocked standard more (w ∷ older) later
unfolding stocked next_word
next-right more older bs later w front good = rw (front, good)

-- one that is cut or not right ends the reading at its rank
next-cut : (more : ℕ) (older : List Word) (bs : List ℕ) → word bs ≡ CUT → stocked standard (suc more) older bs ≡ LIST_FAULT (length older)
unfolding stocked next_word
next-cut more older bs cut = rw cut

next-wrong : (more : ℕ) (older : List Word) (bs later : List ℕ) (w : Word) → word bs ≡ FRONT w later → right standard older w ≡ false
    → stocked standard (suc more) older bs ≡ LIST_FAULT (length older)
unfolding stocked next_word
next-wrong more older bs later w front bad = rw (front, bad)

-- whole words without a fault are read, and the rest goes on behind them
past_words : {bytes rest : List ℕ} {ws : List Word} (more : ℕ) → WholeWords bytes ws rest
    → stocked standard (length ws + more) [] bytes ≡ stocked standard more ws rest
past_words {bytes} more none_yet = ap (λ k. stocked standard k [] bytes) (zero-add more)
past_words {bytes} more (one_word_more {older} {rest} {later} {w} before front good) =
    ap (λ k. stocked standard k [] bytes) (let same : length (w ∷ older) + more ≡ length older + suc more = omega arith in same)
    ∙ past_words (suc more) before ∙ next-right more older rest later w front (faultless_right older w good)

-- what the definition finds in a list, and what the list then is
data ListVerdict (list : List ℕ) : Stock → Type 0 where
  at_fault : {rank : ℕ} → BadList list rank → ListVerdict list (LIST_FAULT rank)
  all_right : {ws : List Word} → HasWords list ws → ListVerdict list (WORDS ws)

module _ (list : List ℕ) {n : ℕ} {bytes : List ℕ} (count : number list ≡ FRONT n bytes) (few : n ≤ word_limit) where
  -- a list that goes on: its next word is missing, wrong or right
  word-verdict : (more : ℕ) (older : List Word) (bs : List ℕ) → WholeWords bytes older bs → n ≡ length older + suc more
      → ((w : Word) (later : List ℕ) → WholeWords bytes (w ∷ older) later → ListVerdict list (stocked standard more (w ∷ older) later))
      → ListVerdict list (stocked standard (suc more) older bs)
  word-verdict more older bs whole many go_on = by_word (word bs) refl
    where
      by_test : (w : Word) (later : List ℕ) → word bs ≡ FRONT w later → (t : Bool) → right standard older w ≡ t
          → ListVerdict list (stocked standard (suc more) older bs)
      by_test w later front true good =
          subst (ListVerdict list) (sym (next-right more older bs later w front good))
          (go_on w later (one_word_more whole front (right_faultless older w good)))
      by_test w later front false bad =
          subst (ListVerdict list) (sym (next-wrong more older bs later w front bad))
          (at_fault (word_faulty count few whole (omega arith) front (wrong_faulty older w bad)))

      by_word : (x : AtFront Word) → word bs ≡ x → ListVerdict list (stocked standard (suc more) older bs)
      by_word CUT cut = subst (ListVerdict list) (sym (next-cut more older bs cut)) (at_fault (word_cut count few whole (omega arith) cut))
      by_word (FRONT w later) front = by_test w later front (right standard older w) refl

  words_verdict : (more : ℕ) (older : List Word) (bs : List ℕ) → WholeWords bytes older bs → n ≡ length older + more
      → ListVerdict list (stocked standard more older bs)
  unfolding stocked
  words_verdict zero older [] whole many =
      let own : n ≡ length older = omega arith in
      all_right {ws = older} (record { bytes = bytes; count = count ∙ ap (λ k. FRONT k bytes) own; few = omega arith; whole = whole })
  words_verdict zero older (b ∷ bs) whole many =
      let own : n ≡ length older = omega arith in
      at_fault (bytes_after {ws = older} (count ∙ ap (λ k. FRONT k bytes) own) (omega arith) whole)
  words_verdict (suc more) older bs whole many =
      word-verdict more older bs whole many (λ w later longer. words_verdict more (w ∷ older) later longer (omega arith))

  stock-counted : stock standard list ≡ stocked standard n [] bytes
  unfolding stock as_counted
  stock-counted = rw (count, le-leb n word_limit few)

stock-cut : (list : List ℕ) → number list ≡ CUT → stock standard list ≡ LIST_FAULT 0
unfolding stock as_counted
stock-cut list cut = rw cut

stock_over : (list : List ℕ) {n : ℕ} {bytes : List ℕ} → number list ≡ FRONT n bytes → word_limit < n → stock standard list ≡ LIST_FAULT word_limit
unfolding stock as_counted
stock_over list {n} count over = rw (count, lt-leb n word_limit over)

verdict : (list : List ℕ) → ListVerdict list (stock standard list)
verdict list = by_count (number list) refl
  where
    by_test : (n : ℕ) (bytes : List ℕ) → number list ≡ FRONT n bytes → (t : Bool) → leb n word_limit ≡ t → ListVerdict list (stock standard list)
    by_test n bytes count true t =
        let few = leb-true n word_limit t in
        subst (ListVerdict list) (sym (stock-counted list count few)) (words_verdict list count few n [] bytes none_yet (omega arith))
    by_test n bytes count false t =
        let over = leb-false n word_limit t in subst (ListVerdict list) (sym (stock_over list count over)) (at_fault (count_over count over))

    by_count : (x : AtFront ℕ) → number list ≡ x → ListVerdict list (stock standard list)
    by_count CUT cut = subst (ListVerdict list) (sym (stock-cut list cut)) (at_fault (count_cut cut))
    by_count (FRONT n bytes) count = by_test n bytes count (leb n word_limit) refl

-- the definition finds that rank at fault
bad_found : {list : List ℕ} {rank : ℕ} → BadList list rank → stock standard list ≡ LIST_FAULT rank
unfolding stocked
bad_found {list} (count_cut cut) = stock-cut list cut
bad_found {list} (count_over count over) = stock_over list count over
bad_found {list} (word_cut {n} {bytes} {rest} {before} count few whole missing cut) =
    let more = n - suc (length before) in
    let many : n ≡ length before + suc more = omega arith in
    stock-counted list count few ∙ ap (λ k. stocked standard k [] bytes) many ∙ past_words (suc more) whole ∙ next-cut more before rest cut
bad_found {list} (word_faulty {n} {bytes} {rest} {later} {before} {w} count few whole there front fault) =
    let more = n - suc (length before) in
    let many : n ≡ length before + suc more = omega arith in
    stock-counted list count few ∙ ap (λ k. stocked standard k [] bytes) many ∙ past_words (suc more) whole
    ∙ next-wrong more before rest later w front (wrong (right standard before w) refl)
  where
    wrong : (t : Bool) → right standard before w ≡ t → right standard before w ≡ false
    wrong true h = absurd (right_faultless before w h fault)
    wrong false h = h
bad_found {list} (bytes_after {bytes = bytes} {ws = ws} count few whole) =
    stock-counted list count few ∙ ap (λ k. stocked standard k [] bytes) (sym (add-zero (length ws))) ∙ past_words 0 whole

words_found : {list : List ℕ} {ws : List Word} → HasWords list ws → stock standard list ≡ WORDS ws
unfolding stocked
words_found {list} {ws} has =
    stock-counted list has.count has.few ∙ ap (λ k. stocked standard k [] has.bytes) (sym (add-zero (length ws)))
    ∙ past_words 0 has.whole

-- a list is at fault at a rank exactly when the definition finds that rank, and right with these words exactly when it finds them
-- a theorem of stock words
pub bad_exactly_when : (list : List ℕ) (rank : ℕ) → BadList list rank ↔ (stock standard list ≡ LIST_FAULT rank)
bad_exactly_when list rank = (bad_found, λ e. go (verdict list) e)
  where
    go : {x : Stock} → ListVerdict list x → x ≡ LIST_FAULT rank → BadList list rank
    go (at_fault {rank = r} bad) e = let same : r ≡ rank = cc in subst (BadList list) same bad
    go (all_right has) e = never cc

-- a theorem of stock words
pub right_exactly_when : (list : List ℕ) (ws : List Word) → HasWords list ws ↔ (stock standard list ≡ WORDS ws)
right_exactly_when list ws = (words_found, λ e. go (verdict list) e)
  where
    go : {x : Stock} → ListVerdict list x → x ≡ WORDS ws → HasWords list ws
    go (at_fault bad) e = never cc
    go (all_right {ws = vs} has) e = let same : vs ≡ ws = cc in subst (HasWords list) same has

-- so a list has one least rank at fault, or its words and no others, and never both
pub one_rank : {list : List ℕ} {r s : ℕ} → BadList list r → BadList list s → r ≡ s
one_rank g h = let e : LIST_FAULT _ ≡ LIST_FAULT _ = sym (bad_found g) ∙ bad_found h in cc

pub one-stock : {list : List ℕ} {vs ws : List Word} → HasWords list vs → HasWords list ws → vs ≡ ws
one-stock g h = let e : WORDS _ ≡ WORDS _ = sym (words_found g) ∙ words_found h in cc

pub not-both : {A : Type 0} {list : List ℕ} {rank : ℕ} {ws : List Word} → BadList list rank → HasWords list ws → A
not-both g h = let e : LIST_FAULT _ ≡ WORDS _ = sym (bad_found g) ∙ words_found h in never cc

-- the words of a right list are right
pub words_right : {list : List ℕ} {ws : List Word} → HasWords list ws → Right standard ws
words_right {list} has = (stock-right standard list (words_found has)).0

-- the list of no words has none
pub no_words_has : HasWords no_words []
unfolding number
no_words_has = record { bytes = []; count = refl; few = omega arith; whole = none_yet }
