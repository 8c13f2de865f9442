-- The order of definitions settles everything, and no list loops: a word's linked plan is its text's plan linked by the words before it,
-- and the words that stand later change nothing for it.
use Prim.Native.Nat.{ℕ, ◌≤◌}
use mathlib.Core.Path.{◌≡◌, refl, ap, sym, ◌∙◌}
use mathlib.Core.Bool.{true}
use Rattle.std.specs.Prelude.{Some}
use mathlib.Core.List.{List, [], ◌∷◌, ◌++◌}
use native.Mathlib.Omega.{arith}
use borrow.Author.Tests.{leb-true}
use lib.Dec.{leb}
use lib.ListN.{length}
use Rattle.kinds.specs.Limits.{cell_limit, standard, token_limit}
use Rattle.plan.specs.Pieces.{placed}
use Rattle.plan.specs.Plan.{cells, close_brace, end, open_brace, print, token}
use Rattle.plan.specs.Reading.{plan_of}
use Rattle.plan.specs.Token.{allowed, annotation}
use Rattle.plan.proofs.Acceptable.{acceptable_plan}
use Rattle.plan.proofs.Plans.{then_end}
use Rattle.plan.proofs.Accepting.{print_accepted, standard_roomy}
use Rattle.kinds.proofs.Tests.{and_true}
use Rattle.plan.proofs.Tokens.{allowed-parts}
use Rattle.words_meaning.specs.Answers.{LinkAnswer, linked_within}
use Rattle.words_meaning.specs.Linking.{Word, in_place, link_plan, stands_for, stock_token}
use Rattle.words_meaning.specs.Stock.{is_name}
use Rattle.words_meaning.proofs.Listing.{Right, RightWord, right-word, stands_word}
use Rattle.words_link.specs.Calls.{Links}
use Rattle.words_theorems.specs.Lists.{HasWords}
use Rattle.words_theorems.specs.Terms.{HasPlan, linked_by}
use Rattle.words_theorems.proofs.Cases.{by_linked_plan, same_calls}
use Rattle.words_theorems.proofs.Lists.{words_right}
use Rattle.words_theorems.proofs.Meanings.{accepted_reads}

-- the words before one of a right list are right
earlier_right : (newer ws : List Word) → Right standard (newer ++ ws) → Right standard ws
earlier_right [] ws right = right
earlier_right (v ∷ newer) ws (one, right) = earlier_right newer ws right

module _ {list : List ℕ} (newer older : List Word) (w : Word) (has : HasWords list (newer ++ w ∷ older)) where
  up_to_it : Right standard (w ∷ older)
  up_to_it = earlier_right newer (w ∷ older) (words_right has)

  fine : RightWord standard older w
  fine = right-word standard older w up_to_it.0

  may : allowed token_limit (stock_token w) ≡ true
  unfolding is_name
  may = (and_true (leb 1 (length w.name)) (allowed token_limit (stock_token w)) fine.named).1

  -- "A name is not empty and makes an allowed token, `{%` name `}`: so it has 1 to 61 bytes."
  -- a theorem of stock words
  pub name_length : (1 ≤ length w.name) × (length w.name ≤ 61)
  unfolding is_name
  name_length =
      let named = (and_true (leb 1 (length w.name)) (allowed token_limit (stock_token w)) fine.named).0 in
      (leb-true 1 (length w.name) named, omega (arith, allowed-parts token_limit (stock_token w) may))

  -- a listed word's text reads
  pub word_reads : HasPlan w.text (plan_of token_limit w.text)
  word_reads = let text = acceptable_plan standard w.text fine.reads in record { short = text.short; reads = rw text.plan_is text.reads }

  -- "A word's linked plan is its text's plan linked by the words before it;"
  -- a theorem of stock words
  pub word-stands_for : stands_for token_limit (newer ++ w ∷ older) (stock_token w) ≡ Some (linked_by older (plan_of token_limit w.text))
  word-stands_for = stands_word standard newer older w (words_right has)

  -- words that stand later change nothing for it
  -- a theorem of stock words
  pub later_words_change_nothing : stands_for token_limit (newer ++ w ∷ older) (stock_token w) ≡ stands_for token_limit (w ∷ older) (stock_token w)
  later_words_change_nothing = word-stands_for ∙ sym (stands_word standard [] older w up_to_it)

  -- the word's token as a text
  token_reads : HasPlan (open_brace ∷ (stock_token w ++ close_brace ∷ [])) (token 0 (stock_token w) end)
  unfolding annotation print placed cells
  token_reads =
      accepted_reads cell_limit
      (print_accepted standard standard_roomy cell_limit (omega arith) (token 0 (stock_token w) end) (record { fine = may; own = refl }, tt) (omega arith))

  token_linked : linked_by (newer ++ w ∷ older) (token 0 (stock_token w) end) ≡ linked_by older (plan_of token_limit w.text)
  unfolding link_plan in_place
  token_linked = rw word-stands_for (then_end (linked_by older (plan_of token_limit w.text)))

  -- the same of calls: `{%name}` linked by the whole list gets the answer and leaves the bytes that the word's own text gets and leaves
  -- when it is linked by a list of just the words before it
  -- a theorem of stock words
  pub word_called : {before out : List ℕ} {r s : LinkAnswer} {a b : List ℕ} → HasWords before older
      → Links list (open_brace ∷ (stock_token w ++ close_brace ∷ [])) out r a → Links before w.text out s b → (r ≡ s) × (a ≡ b)
  word_called earlier call own =
      same_calls call own (by_linked_plan has token_reads ∙ ap (linked_within standard) token_linked ∙ sym (by_linked_plan earlier word_reads))
