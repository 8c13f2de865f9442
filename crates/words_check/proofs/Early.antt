-- The least rank that a word of the same or a smaller rank uses, and how a walk over the texts in their order comes down to it.
use Prim.Native.Nat.{ℕ, zero, suc, ◌+◌, ◌≤◌, ◌<◌}
use mathlib.Core.Path.{◌≡◌, refl, ap, ap₂, sym, ◌∙◌}
use mathlib.Core.Bool.{Bool, true, false, cond}
use mathlib.Core.List.{List}
use native.Mathlib.Omega.{arith}
use borrow.Author.Tests.{le-ltb, ltb-false, ltb-true}
use lib.Dec.{ltb}
use Rattle.kinds.specs.Limits.{token_limit}
use Rattle.plan.specs.Pieces.{pieces}
use Rattle.plan.specs.Plan.{Plan}
use Rattle.plan.specs.Reading.{plan_of}
use Rattle.words_meaning.specs.Linking.{holds, used}
use Rattle.words_shelf.specs.Words.{word_of, words_to}
use Rattle.words_shelf.specs.declared.WordAt.{WordAt}
use Rattle.words_check.specs.Checking.{OwnNames, earliest, lowered}
use Rattle.words_check.proofs.Lowering.{holds-among, lowered_clean, lowered_found, lowered_within}
use Rattle.words_check.proofs.Ranks.{many, token_of, used_by, used_by_none}

module _ (list : List ℕ) (words : List WordAt) where
  -- a word of the same or a smaller rank uses it
  abbrev pub early : ℕ → Bool
  early u = used token_limit (token_of list words u) (words_to list words (suc u))

  -- one more word: the ranks below it decide first, then whether it is used early itself
  next-earliest : (n : ℕ) {before : ℕ} → earliest token_limit (words_to list words n) ≡ before
      → earliest token_limit (words_to list words (suc n)) ≡ cond (ltb before n) before (cond (early n) n (suc n))
  unfolding earliest words_to
  next-earliest n {before} e = rw (many list words n, e) refl

  -- it is the rank below which none is used early, and that is used early itself if it is one of the ranks
  earliest_is : (n e : ℕ) → e ≤ n → ((u : ℕ) → u < e → early u ≡ false) → (e < n → early e ≡ true)
      → earliest token_limit (words_to list words n) ≡ e
  unfolding earliest words_to
  earliest_is zero e h none found = let z : 0 ≡ e = omega arith in z
  earliest_is (suc n) e h none found = go (ltb e (suc n)) refl (earliest_is n)
    where
      here : (b : Bool) → ltb e n ≡ b → e ≤ n → cond b e (cond (early n) n (suc n)) ≡ e
      here true s g = refl
      here false s g =
          let is : e ≡ n = omega (arith, ltb-false e n s) in
          ap (λ x. cond x n (suc n)) (ap early (sym is) ∙ found (omega arith)) ∙ sym is

      go : (b : Bool) → ltb e (suc n) ≡ b
          → ((f : ℕ) → f ≤ n → ((u : ℕ) → u < f → early u ≡ false) → (f < n → early f ≡ true)
          → earliest token_limit (words_to list words n) ≡ f)
          → earliest token_limit (words_to list words (suc n)) ≡ e
      go true s more =
          let less = ltb-true e (suc n) s in
          next-earliest n (more e (omega arith) none (λ g. found (omega arith))) ∙ here (ltb e n) refl (omega arith)
      go false s more =
          let is : e ≡ suc n = omega (arith, ltb-false e (suc n) s) in
          let before = more n (omega arith) (λ u g. none u (omega arith)) (λ g. absurd (omega arith)) in
          next-earliest n before ∙ ap₂ (λ x y. cond x n (cond y n (suc n))) (le-ltb n n (omega arith)) (none n (omega arith)) ∙ sym is

  -- Walking the texts in their order.

  -- the plan of the word of a rank
  abbrev plan_at : ℕ → Plan ℕ
  plan_at j = plan_of token_limit (word_of list words j).text

  -- what is known when the texts below `rank` are walked: no rank below the bound is used by them early, and the bound is if it came down
  pub record EarliestSoFar (fit bound rank : ℕ) : Type 0 where
    pub within : bound ≤ fit
    pub clean : (u j : ℕ) → u < bound → j < rank → j ≤ u → holds (token_of list words u) (plan_at j) ≡ false
    pub found : bound < fit → early bound ≡ true

  -- before any text
  pub earliest-first : (fit : ℕ) → EarliestSoFar fit fit 0
  earliest-first fit = record { within = omega arith; clean = λ u j g h k. absurd (omega arith); found = λ h. absurd (omega arith) }

  module _ {fit bound rank : ℕ} (inv : EarliestSoFar fit bound rank) where
    -- behind the bound, no text can lower it
    pub earliest-last : bound ≤ rank → bound ≡ earliest token_limit (words_to list words fit)
    earliest-last h =
        sym (earliest_is fit bound inv.within
        (λ u g. used_by_none list words token_limit (token_of list words u) (suc u) (λ j k. inv.clean u j g (omega arith) (omega arith))) inv.found)

    -- the text of the next rank is walked
    walked : OwnNames list words fit → {next : ℕ} → next ≡ lowered list words rank bound (pieces (plan_at rank)) → EarliestSoFar fit next (rank + 1)
    walked own {next} e =
        record {
          within = omega (arith, less, inv.within);
          clean = λ u j g h k. clean_of u j g h k (ltb j rank) refl;
          found = λ h. found_of h (ltb next bound) refl;
        }
      where
        less : next ≤ bound
        less = omega (arith, lowered_within list words rank (pieces (plan_at rank)) bound)

        clean_of : (u j : ℕ) → u < next → j < rank + 1 → j ≤ u → (b : Bool) → ltb j rank ≡ b
            → holds (token_of list words u) (plan_at j) ≡ false
        clean_of u j g h k true s = inv.clean u j (omega (arith, less)) (ltb-true j rank s) k
        clean_of u j g h k false s =
            let is : rank ≡ j = omega (arith, ltb-false j rank s) in
            let own_below : OwnNames list words bound = λ r m. own r (omega (arith, inv.within)) in
            let none = lowered_clean list words rank (pieces (plan_at rank)) bound own_below u (omega arith) (omega (arith, e)) in
            ap (λ i. holds (token_of list words u) (plan_at i)) (sym is)
            ∙ holds-among (token_of list words u) (plan_at rank) ∙ none

        found_of : next < fit → (b : Bool) → ltb next bound ≡ b → early next ≡ true
        found_of h true s =
            let (up, there) = lowered_found list words rank (pieces (plan_at rank)) bound next (sym e) (ltb-true next bound s) in
            used_by list words token_limit (token_of list words next) (suc next) rank (omega arith)
            (holds-among (token_of list words next) (plan_at rank) ∙ there)
        found_of h false s =
            let is : bound ≡ next = omega (arith, ltb-false next bound s, less) in
            ap early (sym is) ∙ inv.found (omega arith)

    -- .. as the code takes it from the list
    pub earliest_on : OwnNames list words fit → {text : List ℕ} → text ≡ (word_of list words rank).text
        → {next : ℕ} → next ≡ lowered list words rank bound (pieces (plan_of token_limit text)) → EarliestSoFar fit next (rank + 1)
    earliest_on own is e =
        walked own (e ∙ ap (λ t. lowered list words rank bound (pieces (plan_of token_limit t))) is)
