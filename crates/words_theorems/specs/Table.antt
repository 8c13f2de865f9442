-- When LINK refuses and with which place, and what it answers and leaves otherwise. Each row supposes that no row above it applies.
use Rattle.std.specs.Prelude.{ℕ, ◌≤◌, ◌<◌, ◌≡◌, List, length, drop}
use Rattle.kinds.specs.Limits.{cell_limit, text_limit, token_limit}
use Rattle.numbers.specs.declared.Numbers.{Numbers}
use Rattle.numbers.specs.Numbers.{given_numbers}
use Rattle.plan.specs.declared.TextFault.{TextFault}
use Rattle.plan.specs.declared.TextFault.TheVariants.{TooLong}
use Rattle.plan.specs.Plan.{Plan, cells, print}
use Rattle.plan.specs.Refusals.{Faulty}
use Rattle.words_meaning.specs.Answers.{link_refusal_numbers}
use Rattle.words_meaning.specs.Linking.{Word}
use Rattle.words_meaning.specs.declared.LinkRefusal.{LinkRefusal}
use Rattle.words_meaning.specs.declared.LinkRefusal.TheVariants.{BadWords, Text, Overfull, OutShort}
use Rattle.demands.specs.Terms.{saved}
use Rattle.words_theorems.specs.Lists.{BadList, HasWords}
use Rattle.words_theorems.specs.Terms.{HasPlan, linked_by}

-- the text's own faults, with 21 to 25 in place of 14; how many cells the text has does not matter
pub data HasFault (text : List ℕ) : TextFault → Type 0 where
  row_11 : text_limit < length text → HasFault text TooLong
  rows_13_to_16 : {f : TextFault} → length text ≤ text_limit → Faulty token_limit text f → HasFault text f

pub data LinkRefuses (list text out : List ℕ) : LinkRefusal → Type 0 where
  row_26 : {rank : ℕ} → BadList list rank → LinkRefuses list text out (BadWords rank)
  rows_11_to_16 : {ws : List Word} {f : TextFault} → HasWords list ws → HasFault text f → LinkRefuses list text out (Text f)
  row_17 : {ws : List Word} {p : Plan ℕ} → HasWords list ws → HasPlan text p → cell_limit < cells (linked_by ws p)
      → LinkRefuses list text out Overfull
  row_18 : {ws : List Word} {p : Plan ℕ} → HasWords list ws → HasPlan text p → cells (linked_by ws p) ≤ cell_limit
      → length out < length (print (linked_by ws p)) → LinkRefuses list text out (OutShort (length (print (linked_by ws p))))

-- what is answered and left where no row applies: READ, the linked plan's cells and length, its printed text first in the output, and
-- the other bytes untouched
pub record LinkedAs (out : List ℕ) (ws : List Word) (p : Plan ℕ) (told : Numbers) (out' : List ℕ) : Type 0 where
  pub few : cells (linked_by ws p) ≤ cell_limit
  pub fits : length (print (linked_by ws p)) ≤ length out
  pub numbers : told ≡ given_numbers (cells (linked_by ws p)) (length (print (linked_by ws p)))
  pub first : saved told out' ≡ print (linked_by ws p)
  pub untouched : drop told.length out' ≡ drop told.length out

-- The whole table as one statement about five numbers and the bytes that are left, whoever gives them. So "no second answer" can be said of
-- the request's own sentences, and not only of the contract.
pub data AsAsked (list text out : List ℕ) (told : Numbers) (out' : List ℕ) : Type 0 where
  refused : {x : LinkRefusal} → LinkRefuses list text out x → told ≡ link_refusal_numbers x → out' ≡ out → AsAsked list text out told out'
  linked : {ws : List Word} {p : Plan ℕ} → HasWords list ws → HasPlan text p → LinkedAs out ws p told out' → AsAsked list text out told out'
