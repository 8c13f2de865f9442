-- The words of the ranks below a number, and the rank that a token names: words with names of their own are told apart by their tokens.
use Prim.Native.Nat.{ℕ, zero, suc, ◌<◌}
use mathlib.Core.Path.{◌≡◌, refl, ap, ap₂, sym, ◌∙◌}
use mathlib.Core.Bool.{Bool, true, false, cond, not, ◌&&◌, ◌||◌, or-true}
use mathlib.Core.List.{List}
use native.Mathlib.Omega.{arith}
use borrow.Author.Tests.{eqb-true, eqb-false}
use lib.Dec.{eqb}
use lib.ListN.{length}
use Rattle.kinds.specs.Limits.{token_limit}
use Rattle.kinds.proofs.Tests.{false_is_not_true, never}
use Rattle.stored.specs.Same.{same}
use Rattle.stored.proofs.Same.{same_equal, same_false, same_self}
use Rattle.plan.specs.Reading.{plan_of}
use Rattle.words_meaning.specs.Linking.{holds, listed, stock_token, used}
use Rattle.words_meaning.proofs.Listing.{stands_none}
use Rattle.words_shelf.specs.Shelf.{seek}
use Rattle.words_shelf.specs.Words.{word_of, words_to}
use Rattle.words_shelf.specs.declared.WordAt.{WordAt}
use Rattle.std.specs.Prelude.{Option, Some, None}
use Rattle.std.specs.Option.{is_some}
use Rattle.words_shelf.proofs.StandsFor.{seek_unlisted}
use Rattle.words_check.specs.Checking.{OwnNames}

-- a test that is the other one turned round
not_not : (b c : Bool) → not b ≡ c → b ≡ not c
not_not true c e = ap not e
not_not false c e = ap not e

module _ (list : List ℕ) (words : List WordAt) where
  -- the token of the word of a rank
  abbrev pub token_of : ℕ → List ℕ
  token_of r = stock_token (word_of list words r)

  -- as many words as ranks
  pub many : (n : ℕ) → length (words_to list words n) ≡ n
  unfolding words_to
  many zero = refl
  many (suc n) = ap suc (many n)

  -- no word has a token that names none
  unlisted_told : (n : ℕ) (t : List ℕ) → seek list words n t ≡ None → listed t (words_to list words n) ≡ false
  unlisted_told n t e = (stands_none token_limit (words_to list words n) t).0 (seek_unlisted list words n t e)

  -- the word of the rank that a token names has that token
  pub listed_told : (n : ℕ) (t : List ℕ) {r : ℕ} → seek list words n t ≡ Some r → (r < n) × (t ≡ token_of r)
  unfolding seek
  listed_told zero t e = never cc
  listed_told (suc n) t {r} e = go (same t (token_of n)) refl e (listed_told n t)
    where
      go : (b : Bool) → same t (token_of n) ≡ b → cond b (Some n) (seek list words n t) ≡ Some r
          → (seek list words n t ≡ Some r → (r < n) × (t ≡ token_of r)) → (r < suc n) × (t ≡ token_of r)
      go true s h more = let is : n ≡ r = cc in (omega arith, same_equal t (token_of n) s ∙ ap token_of is)
      go false s h more = let (less, is) = more h in (omega arith, is)

  -- the token of a word is among the words from there on
  token_listed : (n r : ℕ) → r < n → listed (token_of r) (words_to list words n) ≡ true
  unfolding words_to listed
  token_listed zero r h = absurd (omega arith)
  token_listed (suc n) r h = go (eqb r n) refl (token_listed n r)
    where
      go : (b : Bool) → eqb r n ≡ b → (r < n → listed (token_of r) (words_to list words n) ≡ true)
          → (same (token_of r) (token_of n) || listed (token_of r) (words_to list words n)) ≡ true
      go true e more = ap (◌|| listed (token_of r) (words_to list words n)) (ap (λ k. same (token_of r) (token_of k)) (sym (eqb-true r n e)) ∙ same_self (token_of r))
      go false e more =
          let less : r < n = omega (arith, eqb-false r n e) in
          ap (same (token_of r) (token_of n) ||◌) (more less) ∙ or-true (same (token_of r) (token_of n))

  -- .. and names that word
  pub token_names : (n : ℕ) → OwnNames list words n → (r : ℕ) → r < n → seek list words n (token_of r) ≡ Some r
  unfolding seek
  token_names zero own r h = absurd (omega arith)
  token_names (suc n) own r h = go (eqb r n) refl (token_names n (λ k g. own k (omega arith)) r)
    where
      go : (b : Bool) → eqb r n ≡ b → (r < n → seek list words n (token_of r) ≡ Some r)
          → cond (same (token_of r) (token_of n)) (Some n) (seek list words n (token_of r)) ≡ Some r
      go true e more = let is = eqb-true r n e in rw (is, same_self (token_of n)) refl
      go false e more =
          let less : r < n = omega (arith, eqb-false r n e) in
          let there = token_listed n r less in
          let new = own n (omega arith) in
          let apart : token_of r ≡ token_of n → ⊥ = λ s. false_is_not_true (sym new ∙ ap (λ t. listed t (words_to list words n)) (sym s) ∙ there) in
          rw (same_false (token_of r) (token_of n) apart) (more less)

  -- so no two words have the same token
  pub tokens_apart : (n : ℕ) → OwnNames list words n → (r u : ℕ) → r < n → u < n → token_of r ≡ token_of u → r ≡ u
  tokens_apart n own r u g h e =
      let both : Some r ≡ Some u = sym (token_names n own r g) ∙ ap (seek list words n) e ∙ token_names n own u h in
      let is : r ≡ u = cc in
      is

  -- a token is used by the words below a rank if it stands in the plan of one of them
  pub used_by : (limit : ℕ) (t : List ℕ) (n j : ℕ) → j < n → holds t (plan_of limit (word_of list words j).text) ≡ true
      → used limit t (words_to list words n) ≡ true
  unfolding words_to used
  used_by limit t zero j h e = absurd (omega arith)
  used_by limit t (suc n) j h e = go (eqb j n) refl (λ g. used_by limit t n j g e)
    where
      go : (b : Bool) → eqb j n ≡ b → (j < n → used limit t (words_to list words n) ≡ true)
          → (holds t (plan_of limit (word_of list words n).text) || used limit t (words_to list words n)) ≡ true
      go true s more = ap (◌|| used limit t (words_to list words n)) (ap (λ k. holds t (plan_of limit (word_of list words k).text)) (sym (eqb-true j n s)) ∙ e)
      go false s more =
          let less : j < n = omega (arith, eqb-false j n s) in
          ap (holds t (plan_of limit (word_of list words n).text) ||◌) (more less) ∙ or-true (holds t (plan_of limit (word_of list words n).text))

  -- .. and not if it stands in none
  pub used_by_none : (limit : ℕ) (t : List ℕ) (n : ℕ) → ((j : ℕ) → j < n → holds t (plan_of limit (word_of list words j).text) ≡ false)
      → used limit t (words_to list words n) ≡ false
  unfolding words_to used
  used_by_none limit t zero h = refl
  used_by_none limit t (suc n) h = ap₂ ◌||◌ (h n (omega arith)) (used_by_none limit t n (λ j g. h j (omega arith)))

  -- whether a name is new, by what was found: none, or a word that has it
  module _ (n : ℕ) (t : List ℕ) {found : Option ℕ} (told : found ≡ seek list words n t) where
    pub new_told : {a b : Bool} → a ≡ true → is_some found ≡ not b → b ≡ (a && not (listed t (words_to list words n)))
    new_told {a} {b} e h = b_is ∙ sym (ap (◌&& not (listed t (words_to list words n))) e)
      where
        go : (x : Option ℕ) → found ≡ x → is_some x ≡ not b → b ≡ not (listed t (words_to list words n))
        go None f s = not_not b false (sym s) ∙ ap not (sym (unlisted_told n t (sym told ∙ f)))
        go (Some r) f s =
            let (less, is) = listed_told n t (sym told ∙ f) in
            not_not b true (sym s) ∙ ap not (sym (ap (λ u. listed u (words_to list words n)) is ∙ token_listed n r less))

        b_is : b ≡ not (listed t (words_to list words n))
        b_is = go found refl h
