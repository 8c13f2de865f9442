-- Laws of word lists: what a right word has, what a token stands for by right words, and that linking leaves no listed token, so that
-- linking again changes nothing.
use Prim.Native.Nat.{ℕ, zero, suc, ◌+◌, ◌≤◌}
use mathlib.Core.Path.{◌≡◌, refl, ap, sym, subst, ◌∙◌}
use mathlib.Core.Logic.{◌↔◌}
use mathlib.Core.Bool.{Bool, true, false, cond, not, ◌&&◌, ◌||◌, or-true}
use Rattle.std.specs.Prelude.{Option, None, Some}
use mathlib.Core.List.{List, [], ◌∷◌, ◌++◌}
use native.Mathlib.Omega.{arith}
use borrow.Author.Tests.{leb-true, not-true}
use lib.Dec.{leb}
use lib.ListN.{length}
use Rattle.plan.specs.Plan.{Plan}
use Rattle.plan.specs.Reading.{plan_of}
use Rattle.kinds.specs.Limits.{Limits}
use Rattle.plan.specs.Read.{acceptable}
use Rattle.plan.specs.Token.{Allowed}
use Rattle.plan.proofs.Acceptable.{acceptable_plan}
use Rattle.kinds.proofs.Tests.{and_true, false_is_not_true, never}
use Rattle.stored.specs.Counted.{AtFront, CUT, FRONT, number}
use Rattle.stored.specs.Same.{same}
use Rattle.stored.proofs.Same.{same_equal, same_false, same_self}
use Rattle.words_meaning.specs.Linking.{Word, holds, link_plan, listed, stands_for, stock_token, used}
use Rattle.words_meaning.specs.Stock.{LIST_FAULT, Stock, WORDS, as_counted, fits, is_name, next_word, right, stock, stocked, word, word_limit}
use Rattle.words_meaning.proofs.Linked.{allowed-link, holds-link, link_unlisted, neither}

-- a right word, part by part
pub record RightWord (lim : Limits) (older : List Word) (w : Word) : Type 0 where
  pub named : is_name lim w.name ≡ true
  pub new : listed (stock_token w) older ≡ false
  pub reads : acceptable lim w.text ≡ true
  pub unused : used lim.token (stock_token w) (w ∷ older) ≡ false

-- a word that passes all the tests passes each
pub right-word : (lim : Limits) (older : List Word) (w : Word) → right lim older w ≡ true → RightWord lim older w
unfolding right fits
right-word lim older w e =
    let (fit, apart) = and_true (fits lim older w) (not (used lim.token (stock_token w) (w ∷ older))) e in
    let (name, more) = and_true (is_name lim w.name) (not (listed (stock_token w) older) && acceptable lim w.text) fit in
    let (new, text) = and_true (not (listed (stock_token w) older)) (acceptable lim w.text) more in
    record { named = name; new = not-true _ new; reads = text; unused = not-true _ apart }

-- every word is right by the words before it
abbrev pub Right : Limits → List Word → Type 0
Right lim [] = Unit {0}
Right lim (w ∷ older) = (right lim older w ≡ true) × Right lim older

-- Reading a word list.

-- n right words
record Stocked (lim : Limits) (n : ℕ) (ws : List Word) : Type 0 where
  all_right : Right lim ws
  many : length ws ≡ n

-- a list that goes on had a word at its front, and that is right
next-parts : (lim : Limits) (older : List Word) (x : AtFront Word) (later : Word → List ℕ → Stock) {ws : List Word} → next_word lim older x later ≡ WORDS ws
    → (w : Word) × (rest : List ℕ) × (right lim older w ≡ true) × (later w rest ≡ WORDS ws)
unfolding next_word
next-parts lim older CUT later e = never cc
next-parts lim older (FRONT w rest) later {ws} e = go (right lim older w) refl e
  where
    go : (t : Bool) → right lim older w ≡ t → cond t (later w rest) (LIST_FAULT (length older)) ≡ WORDS ws
        → (w : Word) × (rest : List ℕ) × (right lim older w ≡ true) × (later w rest ≡ WORDS ws)
    go true h e = (w, rest, h, e)
    go false h e = never cc

-- the words that were right and those read behind them
stocked-right : (lim : Limits) (more : ℕ) (older : List Word) (bs : List ℕ) {ws : List Word} → Right lim older → stocked lim more older bs ≡ WORDS ws
    → Stocked lim (more + length older) ws
unfolding stocked
stocked-right lim zero older [] {ws} r e =
    let same_words : older ≡ ws = cc in
    record { all_right = subst (Right lim) same_words r; many = omega (arith, ap length same_words) }
stocked-right lim zero older (b ∷ bs) r e = never cc
stocked-right lim (suc more) older bs r e =
    let (w, rest, one, next) = next-parts lim older (word bs) (λ w rest. stocked lim more (w ∷ older) rest) e in
    let all = stocked-right lim more (w ∷ older) rest (one, r) next in
    record { all_right = all.all_right; many = omega (arith, all.many) }

-- the words of a list that reads are right, and no more than may be
pub stock-right : (lim : Limits) (list : List ℕ) {ws : List Word} → stock lim list ≡ WORDS ws → Right lim ws × (length ws ≤ word_limit)
unfolding stock as_counted
stock-right lim list {ws} e = go (number list) e
  where
    counted : (n : ℕ) (rest : List ℕ) (t : Bool) → leb n word_limit ≡ t → cond t (stocked lim n [] rest) (LIST_FAULT word_limit) ≡ WORDS ws
        → Right lim ws × (length ws ≤ word_limit)
    counted n rest true h e = let all = stocked-right lim n [] rest tt e in (all.all_right, omega (arith, leb-true n word_limit h, all.many))
    counted n rest false h e = never cc

    go : (x : AtFront ℕ) → as_counted lim x ≡ WORDS ws → Right lim ws × (length ws ≤ word_limit)
    go CUT e = never cc
    go (FRONT n rest) e = counted n rest (leb n word_limit) refl e

-- What a token stands for.

module _ (limit : ℕ) where
  -- a token that no word has stands for none
  unlisted_none : (ws : List Word) (t : List ℕ) → listed t ws ≡ false → stands_for limit ws t ≡ None
  unfolding stands_for listed
  unlisted_none [] t e = refl
  unlisted_none (w ∷ older) t e =
      let (apart, more) = neither (same t (stock_token w)) (listed t older) e in
      rw apart (unlisted_none older t more)

  -- and only such a one does
  none_unlisted : (ws : List Word) (t : List ℕ) → stands_for limit ws t ≡ None → listed t ws ≡ false
  unfolding stands_for listed
  none_unlisted [] t e = refl
  none_unlisted (w ∷ older) t e = go (same t (stock_token w)) e (none_unlisted older t)
    where
      go : (x : Bool) → cond x (Some (link_plan (stands_for limit older) (plan_of limit w.text))) (stands_for limit older t) ≡ None
          → (stands_for limit older t ≡ None → listed t older ≡ false) → (x || listed t older) ≡ false
      go true e more = never cc
      go false e more = more e

  -- a token stands for none exactly when no word has it
  pub stands_none : (ws : List Word) (t : List ℕ) → (stands_for limit ws t ≡ None) ↔ (listed t ws ≡ false)
  stands_none ws t = (none_unlisted ws t, unlisted_none ws t)

  -- what stands for a plan is the newest word's token, or stands for it by the older words
  stands_cases : (w : Word) (older : List Word) (t : List ℕ) {q : Plan ℕ} (P : Plan ℕ → Type 0) → stands_for limit (w ∷ older) t ≡ Some q
      → (t ≡ stock_token w → P (link_plan (stands_for limit older) (plan_of limit w.text))) → (stands_for limit older t ≡ Some q → P q) → P q
  unfolding stands_for
  stands_cases w older t {q} P e newest earlier = go (same t (stock_token w)) refl e
    where
      put : Plan ℕ
      put = link_plan (stands_for limit older) (plan_of limit w.text)

      go : (x : Bool) → same t (stock_token w) ≡ x → cond x (Some put) (stands_for limit older t) ≡ Some q → P q
      go true h e = subst P (let is : put ≡ q = cc in is) (newest (same_equal t (stock_token w) h))
      go false h e = earlier e

  -- the word that a token names, the words after it and before it, and the plan that the token stands for
  pub record NamedWord (ws : List Word) (t : List ℕ) (q : Plan ℕ) : Type 0 where
    pub newer : List Word
    pub word : Word
    pub older : List Word
    pub words_are : ws ≡ newer ++ word ∷ older
    pub token_is : t ≡ stock_token word
    pub plan_is : q ≡ link_plan (stands_for limit older) (plan_of limit word.text)

  -- a token that stands for a plan names a word of the list, and stands for that word's plan, linked by the words before it
  stands_some : (ws : List Word) (t : List ℕ) {q : Plan ℕ} → stands_for limit ws t ≡ Some q → NamedWord ws t q
  unfolding stands_for
  stands_some [] t e = never cc
  stands_some (w ∷ older) t {q} e =
      stands_cases w older t (NamedWord (w ∷ older) t) e
      (λ h. record { newer = []; word = w; older = older; words_are = refl; token_is = h; plan_is = refl })
      (λ h. further (stands_some older t h))
    where
      further : NamedWord older t q → NamedWord (w ∷ older) t q
      further n =
          record {
            newer = w ∷ n.newer;
            word = n.word;
            older = n.older;
            words_are = ap (w ∷◌) n.words_are;
            token_is = n.token_is;
            plan_is = n.plan_is;
          }

  -- a token that no word uses is not put in by any
  unused_out : (ws : List Word) (t : List ℕ) → used limit t ws ≡ false → (u : List ℕ) (q : Plan ℕ) → stands_for limit ws u ≡ Some q → holds t q ≡ false
  unfolding stands_for used
  unused_out [] t h u q e = never cc
  unused_out (w ∷ older) t h u q e =
      let (own, others) = neither (holds t (plan_of limit w.text)) (used limit t older) h in
      let put = unused_out older t others in
      stands_cases w older u (λ p. holds t p ≡ false) e
      (λ named. holds-link (stands_for limit older) t (plan_of limit w.text) (λ n. own) (λ v p held. put v p)) (put u q)

  -- one that a word has, and that is put in by none, is put out by linking
  listed-out : (ws : List Word) (t : List ℕ) → listed t ws ≡ true → ((u : List ℕ) (q : Plan ℕ) → stands_for limit ws u ≡ Some q → holds t q ≡ false)
      → (p : Plan ℕ) → holds t (link_plan (stands_for limit ws) p) ≡ false
  listed-out ws t l put p =
      holds-link (stands_for limit ws) t p (λ n. false_is_not_true (sym (none_unlisted ws t n) ∙ l)) (λ u q held. put u q)

-- the token of a word of the list is listed
pub listed-there : (newer older : List Word) (w : Word) → listed (stock_token w) (newer ++ w ∷ older) ≡ true
unfolding listed
listed-there [] older w = ap (◌|| listed (stock_token w) older) (same_self (stock_token w))
listed-there (v ∷ newer) older w =
    ap (same (stock_token w) (stock_token v) ||◌) (listed-there newer older w) ∙ or-true (same (stock_token w) (stock_token v))

-- the token of a word of a right list stands for that word's plan, linked by the words before it
pub stands_word : (lim : Limits) (newer older : List Word) (w : Word) → Right lim (newer ++ w ∷ older)
    → stands_for lim.token (newer ++ w ∷ older) (stock_token w) ≡ Some (link_plan (stands_for lim.token older) (plan_of lim.token w.text))
unfolding stands_for
stands_word lim [] older w r = rw (same_self (stock_token w))
stands_word lim (v ∷ newer) older w (r, more) = rw (same_false (stock_token w) (stock_token v) other) (stands_word lim newer older w more)
  where
    other : stock_token w ≡ stock_token v → ⊥
    other e =
        let there : listed (stock_token v) (newer ++ w ∷ older) ≡ true = ap (λ t. listed t (newer ++ w ∷ older)) (sym e) ∙ listed-there newer older w in
        false_is_not_true (sym (right-word lim (newer ++ w ∷ older) v r).new ∙ there)

-- What linking by right words leaves.

-- where one of two tests holds, what follows from either
or_cases : {P : Type 0} (a b : Bool) → (a || b) ≡ true → (a ≡ true → P) → (b ≡ true → P) → P
or_cases true b e one other = one refl
or_cases false b e one other = other e

module _ (lim : Limits) where
  -- no plan that a token stands for holds a listed token: the words up to its own do not use it, and those after are linked by its own
  no_listed_put : (ws : List Word) → Right lim ws → (t : List ℕ) → listed t ws ≡ true
      → (u : List ℕ) (q : Plan ℕ) → stands_for lim.token ws u ≡ Some q → holds t q ≡ false
  unfolding listed
  no_listed_put [] r t l u q e = false_is_not_true l
  no_listed_put (w ∷ older) (one, r) t l u q e =
      or_cases (same t (stock_token w)) (listed t older) l
      (λ h. unused_out lim.token (w ∷ older) t (rw (same_equal t (stock_token w) h) (right-word lim older w one).unused) u q e)
      (λ h.
      let put = no_listed_put older r t h in
      stands_cases lim.token w older u (λ p. holds t p ≡ false) e
      (λ named. listed-out lim.token older t h put (plan_of lim.token w.text)) (put u q))

  -- a linked plan holds no listed token
  pub no_listed_token : (ws : List Word) → Right lim ws → (t : List ℕ) → listed t ws ≡ true
      → (p : Plan ℕ) → holds t (link_plan (stands_for lim.token ws) p) ≡ false
  no_listed_token ws r t l p = listed-out lim.token ws t l (no_listed_put ws r t l) p

  -- linking a linked plan again changes nothing
  pub link_again : (ws : List Word) → Right lim ws → (p : Plan ℕ)
      → link_plan (stands_for lim.token ws) (link_plan (stands_for lim.token ws) p) ≡ link_plan (stands_for lim.token ws) p
  link_again ws r p = link_unlisted s (link_plan s p) (λ t h. go t (listed t ws) refl h)
    where
      s : List ℕ → Option (Plan ℕ)
      s = stands_for lim.token ws

      go : (t : List ℕ) (x : Bool) → listed t ws ≡ x → holds t (link_plan s p) ≡ true → s t ≡ None
      go t true l h = false_is_not_true (sym (no_listed_token ws r t l p) ∙ h)
      go t false l h = unlisted_none lim.token ws t l

  -- what a token stands for has allowed tokens
  pub stands_allowed : (ws : List Word) → Right lim ws → (t : List ℕ) (q : Plan ℕ) → stands_for lim.token ws t ≡ Some q → Allowed lim.token q
  unfolding stands_for
  stands_allowed [] r t q e = never cc
  stands_allowed (w ∷ older) (one, r) t q e =
      let text = acceptable_plan lim w.text (right-word lim older w one).reads in
      let put = stands_allowed older r in
      stands_cases lim.token w older t (Allowed lim.token) e
      (λ named. allowed-link (stands_for lim.token older) lim.token (plan_of lim.token w.text) (rw text.plan_is text.fine) put) (put t q)
