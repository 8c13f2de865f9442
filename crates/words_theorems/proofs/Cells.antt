-- "Cells: the linked plan's cells are those of the text with each listed token's 1 replaced by those of its word's linked plan."
use Prim.Native.Nat.{ℕ}
use mathlib.Core.Path.{◌≡◌, ap, ◌∙◌}
use mathlib.Core.Bool.{false}
use mathlib.Core.List.{List, ◌∷◌, ◌++◌}
use Rattle.kinds.specs.Limits.{token_limit}
use Rattle.numbers.specs.declared.Numbers.{Numbers}
use Rattle.plan.specs.Plan.{Plan, cells}
use Rattle.plan.specs.Reading.{plan_of}
use Rattle.words_meaning.specs.Answers.{link_numbers, LinkAnswer}
use Rattle.words_meaning.specs.Linking.{Word, listed, stands_for, stock_token}
use Rattle.words_meaning.specs.Places.{cells_put, cells_by, token_cells}
use Rattle.words_meaning.proofs.Cells.{cells-link}
use Rattle.words_meaning.proofs.Listing.{stands_none}
use Rattle.words_link.specs.Calls.{Links}
use Rattle.words_theorems.specs.Lists.{HasWords}
use Rattle.words_theorems.specs.Terms.{IsLinked, HasPlan, linked_by}
use Rattle.words_theorems.proofs.Cases.{linked_as}
use Rattle.words_theorems.proofs.Order.{word-stands_for}

-- what each token counts for, by these words
abbrev counts_for : List Word → List ℕ → ℕ
counts_for ws t = token_cells (stands_for token_limit ws) t

-- the linked plan's cells are the plan's, each token counted for so many; with 1 for each they are the plan's own (`cells_by_ones`)
-- a theorem of stock words
pub linked_cells : (ws : List Word) (p : Plan ℕ) → cells (linked_by ws p) ≡ cells_by (counts_for ws) p
linked_cells ws p = cells-link (stands_for token_limit ws) p

-- a listed word's token counts for the cells of the word's linked plan,
-- a theorem of stock words
pub listed-counts_for : {list : List ℕ} (newer older : List Word) (w : Word) → HasWords list (newer ++ w ∷ older)
    → counts_for (newer ++ w ∷ older) (stock_token w) ≡ cells (linked_by older (plan_of token_limit w.text))
unfolding token_cells cells_put
listed-counts_for newer older w has = ap cells_put (word-stands_for newer older w has)

-- and any other for 1
-- a theorem of stock words
pub unlisted_counts_for : (ws : List Word) (t : List ℕ) → listed t ws ≡ false → counts_for ws t ≡ 1
unfolding token_cells cells_put
unlisted_counts_for ws t e = ap cells_put ((stands_none token_limit ws t).1 e)

-- these are the cells that a call tells
-- a theorem of stock words
pub told_cells : {list text out : List ℕ} {r : LinkAnswer} {out' : List ℕ} → Links list text out r out' → IsLinked (link_numbers r)
    → {ws : List Word} {p : Plan ℕ} → HasWords list ws → HasPlan text p → (link_numbers r).cells ≡ cells_by (counts_for ws) p
told_cells call linked {ws} {p} has reads = ap (λ (v : Numbers). v.cells) (linked_as call has reads linked).numbers ∙ linked_cells ws p
