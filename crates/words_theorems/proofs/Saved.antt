-- The linked text is acceptable. Saved and read again, it is the linked plan. It holds no token of a listed word, and all else of the plan
-- stays, in order. RUN of it obeys demand 3.
use Prim.Native.Nat.{ℕ, ◌≤◌}
use mathlib.Core.Path.{◌≡◌, ap, ap₂, sym, ◌∙◌}
use mathlib.Core.Logic.{◌≢◌}
use mathlib.Core.Bool.{true, false}
use mathlib.Core.List.{List, ◌∷◌, ◌++◌}
use native.Mathlib.Omega.{arith}
use lib.ListN.{length}
use Rattle.std.specs.Prelude.{Ok}
use Rattle.kinds.specs.Limits.{cell_limit, standard, token_limit}
use Rattle.plan.specs.Pieces.{bares, pieces, placed}
use Rattle.plan.specs.Plan.{Plan, bare, cells, print}
use Rattle.plan.specs.Read.{acceptable, ReadAnswer, sized}
use Rattle.plan.specs.Reading.{ACCEPTED, accept}
use Rattle.plan.proofs.Pieces.{pieces-relabel}
use Rattle.plan.proofs.Plans.{cells-relabel, print-relabel}
use Rattle.plan.proofs.ReadBack.{bare-placed}
use Rattle.numbers.specs.declared.Numbers.{Numbers}
use Rattle.answers.specs.Run.{run_numbers, RunAnswer}
use Rattle.answers.specs.Slots.{total}
use Rattle.words_meaning.specs.Answers.{link_numbers, LinkAnswer}
use Rattle.words_meaning.specs.Linking.{Word, holds, listed, stands_for, stock_token}
use Rattle.words_meaning.specs.Places.{linked_pieces}
use Rattle.words_meaning.proofs.Flat.{pieces-link}
use Rattle.words_meaning.proofs.Listing.{listed-there, no_listed_token}
use Rattle.read.specs.Calls.{ReadsOut}
use Rattle.run.specs.Calls.{Runs}
use Rattle.words_link.specs.Calls.{Links}
use Rattle.demands.specs.Slots.{Slots}
use Rattle.demands.specs.Terms.{Bare, DONE, OUTSHORT, Reads, Unrefused, lent, saved}
use Rattle.demands.proofs.Acceptable.{acceptable_reads, room_lent}
use Rattle.demands.proofs.Cases.{read_unrefused}
use Rattle.demands.proofs.Meanings.{reads_one}
use Rattle.demands.proofs.MoreNeverChanges.{more_gives_the_same, slots_end_as_the_run}
use Rattle.words_theorems.specs.Lists.{HasWords}
use Rattle.words_theorems.specs.Table.{LinkedAs}
use Rattle.words_theorems.specs.Terms.{IsLinked, HasPlan, linked_by}
use Rattle.words_theorems.proofs.Cases.{linked_as}
use Rattle.words_theorems.proofs.Lists.{words_right}
use Rattle.words_theorems.proofs.Meanings.{holds-relabel, linked_back}

module _ {list text out : List ℕ} {r : LinkAnswer} {out' : List ℕ} (call : Links list text out r out') (linked : IsLinked (link_numbers r))
    {ws : List Word} {p : Plan ℕ} (has : HasWords list ws) (text_reads : HasPlan text p) where
  its : LinkedAs out ws p (link_numbers r) out'
  its = linked_as call has text_reads linked

  its_cells : (link_numbers r).cells ≡ cells (linked_by ws p)
  its_cells = ap (λ (v : Numbers). v.cells) its.numbers

  its_length : (link_numbers r).length ≡ length (print (linked_by ws p))
  its_length = ap (λ (v : Numbers). v.length) its.numbers

  accepted_again : (n : ℕ) → (link_numbers r).cells ≤ n → n ≤ cell_limit → accept standard n (saved (link_numbers r) out') ≡ ACCEPTED (placed 0 (linked_by ws p))
  accepted_again n room lent = rw its.first (linked_back has text_reads n (omega (arith, its_cells)) lent)

  -- "The linked text is acceptable, and saved and read again it is the same plan": with as many cells lent as it has, or more;
  -- a theorem of stock words
  pub saved_reads : (n : ℕ) → (link_numbers r).cells ≤ n → n ≤ cell_limit → Reads n (saved (link_numbers r) out') (bare (linked_by ws p))
  saved_reads n room lent =
      record { within = lent; placed = placed 0 (linked_by ws p); accepted = accepted_again n room lent; same = bare-placed 0 (linked_by ws p) }

  with_the_most : Reads cell_limit (saved (link_numbers r) out') (bare (linked_by ws p))
  with_the_most = saved_reads cell_limit (omega (arith, its_cells, its.few)) (omega arith)

  -- a theorem of stock words
  pub saved-acceptable : acceptable standard (saved (link_numbers r) out') ≡ true
  saved-acceptable = (acceptable_reads (saved (link_numbers r) out')).1 (_, with_the_most)

  -- and READ with an output that is long enough tells the cells and the length that LINK told
  -- a theorem of stock words
  pub saved_read : {o : List ℕ} {s : ReadAnswer} {o' : List ℕ} → ReadsOut (saved (link_numbers r) out') o s o' → (link_numbers r).length ≤ length o
      → s ≡ Ok (sized (link_numbers r).cells (link_numbers r).length)
  saved_read again room =
      let long : length (print (bare (linked_by ws p))) ≡ (link_numbers r).length = ap length (print-relabel (λ l. tt {0}) (linked_by ws p)) ∙ sym its_length in
      room_lent with_the_most again (omega arith)
      ∙ ap₂ (λ c l. Ok (sized c l)) (cells-relabel (λ l. tt {0}) (linked_by ws p) ∙ sym its_cells) long

  reads_linked : {q : Bare} → Reads cell_limit (saved (link_numbers r) out') q → bare (linked_by ws p) ≡ q
  reads_linked again = reads_one with_the_most again

  -- "A linked plan holds no token of a listed word at all, at any depth;"
  -- a theorem of stock words
  pub holds_no_listed_token : {q : Bare} → Reads cell_limit (saved (link_numbers r) out') q
      → (newer older : List Word) (w : Word) → ws ≡ newer ++ w ∷ older → holds (stock_token w) q ≡ false
  holds_no_listed_token again newer older w split =
      ap (holds (stock_token w)) (sym (reads_linked again)) ∙ holds-relabel (λ l. tt {0}) (stock_token w) (linked_by ws p)
      ∙ no_listed_token standard ws (words_right has) (stock_token w) (ap (listed (stock_token w)) split ∙ listed-there newer older w) p

  -- "every other token and every operator and block stays, in order": its pieces are those of the text's plan, in a row, except that each
  -- listed word's token gives way to the pieces of what it stands for
  -- a theorem of stock words
  pub all_else_stays : {q : Bare} → Reads cell_limit (saved (link_numbers r) out') q → pieces q ≡ bares (linked_pieces (stands_for token_limit ws) (pieces p))
  all_else_stays again =
      ap pieces (sym (reads_linked again)) ∙ pieces-relabel (λ l. tt {0}) (linked_by ws p) ∙ ap bares (pieces-link (stands_for token_limit ws) p)

  -- RUN of the linked text, with as many cells lent as it has, or more, is refused only for its output;
  -- a theorem of stock words
  pub run_of_linked : {quota : ℕ} {memory o : List ℕ} {s : RunAnswer} {memory' o' : List ℕ} → Runs (saved (link_numbers r) out') quota memory o s memory' o'
      → (link_numbers r).cells ≤ lent memory → lent memory ≤ cell_limit → (run_numbers s).number ≢ OUTSHORT → Unrefused (run_numbers s)
  run_of_linked {memory = memory} run room within long_enough = read_unrefused run (saved_reads (lent memory) room within) long_enough

  -- "run in slots, demand 3 holds of it": cut into slots, the first reading the linked text and each other the text that the last one saved,
  -- it ends in the same text and answer number as in one run, and the steps add up to its steps;
  -- a theorem of stock words
  pub slots-of_linked : {quota : ℕ} {quotas memory o : List ℕ} {s : RunAnswer} {memory' o' : List ℕ} {steps : ℕ} {last : RunAnswer} {left : List ℕ}
      → Runs (saved (link_numbers r) out') (total quota quotas) memory o s memory' o' → (link_numbers r).cells ≤ lent memory → lent memory ≤ cell_limit
      → (run_numbers s).number ≢ OUTSHORT → Slots (length memory) (saved (link_numbers r) out') quota quotas steps last left
      → (left ≡ saved (run_numbers s) o') × ((run_numbers last).number ≡ (run_numbers s).number) × (steps ≡ (run_numbers s).steps)
  slots-of_linked run room within long_enough cut = slots_end_as_the_run run (run_of_linked run room within long_enough) cut

  -- and where it is DONE, more of quota, output and memory gives DONE, the same text and the same steps
  -- a theorem of stock words
  pub more_for_linked : {quota quota₂ : ℕ} {memory memory₂ o o₂ : List ℕ} {s s₂ : RunAnswer} {memory' memory₂' o' o₂' : List ℕ}
      → Runs (saved (link_numbers r) out') quota memory o s memory' o' → (run_numbers s).number ≡ DONE → Runs (saved (link_numbers r) out') quota₂ memory₂ o₂ s₂ memory₂' o₂'
      → (run_numbers s).steps ≤ quota₂ → length o ≤ length o₂ → length memory ≤ length memory₂ → lent memory₂ ≤ cell_limit
      → ((run_numbers s₂).number ≡ DONE) × (saved (run_numbers s₂) o₂' ≡ saved (run_numbers s) o') × ((run_numbers s₂).steps ≡ (run_numbers s).steps)
  more_for_linked run done run₂ time longer larger within = more_gives_the_same run done run₂ time longer larger within
