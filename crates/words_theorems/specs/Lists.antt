-- When a word list is right, and which rank is at fault: the request's sentences, said of the list's bytes and not of a reader. Words are
-- given the newest first. So the words before a word are the rest of the list, and how many they are is the word's rank.
use Rattle.std.specs.Prelude.{ℕ, ◌≤◌, ◌<◌, ◌≡◌, true, false, List, [], ◌∷◌, length}
use Rattle.kinds.specs.Limits.{standard, token_limit}
use Rattle.plan.specs.Read.{acceptable}
use Rattle.plan.specs.Reading.{plan_of}
use Rattle.plan.specs.Token.{allowed}
use Rattle.stored.specs.Counted.{CUT, FRONT, number}
use Rattle.words_meaning.specs.Linking.{Word, holds, stock_token}
use Rattle.words_meaning.specs.Stock.{word, word_limit}

-- one of the words has the property
pub data OneOf (P : Word → Type 0) : List Word → Type 0 where
  the_newest : {w : Word} {older : List Word} → P w → OneOf P (w ∷ older)
  an_older : {w : Word} {older : List Word} → OneOf P older → OneOf P (w ∷ older)

-- the word v uses the word w: it has w's token, in a block or not
abbrev pub Uses : (v w : Word) → Type 0
Uses v w = holds (stock_token w) (plan_of token_limit v.text) ≡ true

-- what can be wrong with a word that is whole: its name is empty, makes no allowed token, or stands already at a smaller rank; its
-- text is not acceptable; or a word of the same or a smaller rank uses it
pub data FaultyWord (older : List Word) (w : Word) : Type 0 where
  no_name : length w.name ≡ 0 → FaultyWord older w
  bad_name : allowed token_limit (stock_token w) ≡ false → FaultyWord older w
  named_already : OneOf (λ v. v.name ≡ w.name) older → FaultyWord older w
  unacceptable_text : acceptable standard w.text ≡ false → FaultyWord older w
  used_already : OneOf (λ v. Uses v w) (w ∷ older) → FaultyWord older w

-- `WholeWords bytes ws rest`: the bytes begin with these words, each whole and without a fault, and the rest stands behind them
pub data WholeWords (bytes : List ℕ) : List Word → List ℕ → Type 0 where
  none_yet : WholeWords bytes [] bytes
  one_word_more : {older : List Word} {rest later : List ℕ} {w : Word} → WholeWords bytes older rest → word rest ≡ FRONT w later
      → (FaultyWord older w → ⊥) → WholeWords bytes (w ∷ older) later

-- the list is right and these are its words: as many as it says, 256 at most, and nothing stands behind them
pub record HasWords (list : List ℕ) (ws : List Word) : Type 0 where
  pub bytes : List ℕ
  pub count : number list ≡ FRONT (length ws) bytes
  pub few : length ws ≤ word_limit
  pub whole : WholeWords bytes ws []

-- The list is not right, and this is the least rank at fault. A cut count gives 0, and a count over 256 gives 256. Else it is the rank of
-- the first word that is missing or cut or has a fault. Else bytes stand behind the last word, and it is the count.
pub data BadList (list : List ℕ) : (rank : ℕ) → Type 0 where
  count_cut : number list ≡ CUT → BadList list 0
  count_over : {n : ℕ} {bytes : List ℕ} → number list ≡ FRONT n bytes → word_limit < n → BadList list word_limit
  word_cut : {n : ℕ} {bytes rest : List ℕ} {before : List Word} → number list ≡ FRONT n bytes → n ≤ word_limit
      → WholeWords bytes before rest → length before < n → word rest ≡ CUT → BadList list (length before)
  word_faulty : {n : ℕ} {bytes rest later : List ℕ} {before : List Word} {w : Word} → number list ≡ FRONT n bytes → n ≤ word_limit
      → WholeWords bytes before rest → length before < n → word rest ≡ FRONT w later → FaultyWord before w → BadList list (length before)
  bytes_after : {b : ℕ} {bytes rest : List ℕ} {ws : List Word} → number list ≡ FRONT (length ws) bytes → length ws ≤ word_limit
      → WholeWords bytes ws (b ∷ rest) → BadList list (length ws)
