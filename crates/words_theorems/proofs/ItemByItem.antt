-- "Linking goes item by item: the link of one sequence then another is the one's link, then the other's." Of plans, and of texts that
-- stand one behind the other.
use Prim.Native.Nat.{ℕ, ◌+◌, ◌≤◌}
use mathlib.Core.Path.{◌≡◌, ap, ap₂, sym, subst, ◌∙◌}
use mathlib.Core.Logic.{◌↔◌}
use mathlib.Core.List.{List, ◌++◌}
use lib.ListN.{length, length-append}
use Rattle.kinds.specs.Limits.{cell_limit, text_limit, token_limit}
use Rattle.numbers.specs.declared.Numbers.{Numbers}
use Rattle.plan.specs.Plan.{Plan, ◌then◌, bare, cells, print}
use Rattle.plan.proofs.Faultless.{marks_then, faultless_then}
use Rattle.plan.proofs.Plans.{allowed_then, cells-then, print-then}
use Rattle.plan.proofs.Reached.{text-read}
use Rattle.plan.proofs.ReadBack.{print_injective}
use Rattle.words_meaning.specs.Answers.{link_numbers, LinkAnswer}
use Rattle.words_meaning.specs.Linking.{Word, stands_for}
use Rattle.words_meaning.proofs.Linked.{link-then}
use Rattle.words_link.specs.Calls.{Links}
use Rattle.demands.specs.Terms.{saved}
use Rattle.words_theorems.specs.Lists.{HasWords}
use Rattle.words_theorems.specs.Table.{LinkedAs}
use Rattle.words_theorems.specs.Terms.{IsLinked, HasPlan, linked_by}
use Rattle.words_theorems.proofs.Cases.{call_linked, linked_as, linked_by_words}
use Rattle.words_theorems.proofs.Meanings.{bare-cells, bare-print, linked_same, reads_faultless, reads_known}

-- of plans
-- a theorem of stock words
pub linked_then : (ws : List Word) (p q : Plan ℕ) → linked_by ws (p then q) ≡ linked_by ws p then linked_by ws q
linked_then ws p q = link-then (stands_for token_limit ws) p q

-- two texts that read, one behind the other and not too long together, read as the one's plan, then the other's, places aside
record ReadsThen (a b : List ℕ) (p q : Plan ℕ) : Type 0 where
  plan : Plan ℕ
  reads : HasPlan (a ++ b) plan
  same : bare plan ≡ bare (p then q)

reads_then : {a b : List ℕ} {p q : Plan ℕ} → HasPlan a p → HasPlan b q → length (a ++ b) ≤ text_limit → ReadsThen a b p q
reads_then {a} {b} {p} {q} x y short =
    let whole = text-read (faultless_then (reads_faultless x) (reads_faultless y)) in
    let printed : print whole.plan ≡ print (p then q) =
    whole.printed ∙ marks_then (reads_faultless x) b ∙ ap₂ ◌++◌ (sym (reads_known x).printed) (sym (reads_known y).printed) ∙ sym (print-then p q) in
    record {
      plan = whole.plan;
      reads = record { short = short; reads = whole.reads };
      same =
          print_injective token_limit whole.plan (p then q) whole.fine
          (allowed_then token_limit p q (reads_known x).fine (reads_known y).fine) printed;
    }

-- its linked plan has the cells of the two, and prints as the two, one behind the other
then-cells : {a b : List ℕ} {p q : Plan ℕ} (ws : List Word) (x : ReadsThen a b p q)
    → cells (linked_by ws x.plan) ≡ cells (linked_by ws p) + cells (linked_by ws q)
then-cells {p = p} {q} ws x =
    bare-cells (linked_by ws x.plan) (linked_by ws (p then q)) (linked_same ws x.plan (p then q) x.same) ∙ ap cells (linked_then ws p q)
    ∙ cells-then (linked_by ws p) (linked_by ws q)

then-print : {a b : List ℕ} {p q : Plan ℕ} (ws : List Word) (x : ReadsThen a b p q)
    → print (linked_by ws x.plan) ≡ print (linked_by ws p) ++ print (linked_by ws q)
then-print {p = p} {q} ws x =
    bare-print (linked_by ws x.plan) (linked_by ws (p then q)) (linked_same ws x.plan (p then q) x.same) ∙ ap print (linked_then ws p q)
    ∙ print-then (linked_by ws p) (linked_by ws q)

-- of calls that linked two texts by the same list, and a call for the two texts one behind the other
module _ {list a b out₁ out₂ out : List ℕ} {r₁ r₂ r : LinkAnswer} {left₁ left₂ left : List ℕ} (one : Links list a out₁ r₁ left₁) (linked₁ : IsLinked (link_numbers r₁))
    (other : Links list b out₂ r₂ left₂) (linked₂ : IsLinked (link_numbers r₂)) (both : Links list (a ++ b) out r left) where
  abbrev read₁ : (ws : List Word) × (p : Plan ℕ) × HasWords list ws × HasPlan a p
  read₁ = linked_by_words one linked₁

  abbrev read₂ : (ws : List Word) × (q : Plan ℕ) × HasWords list ws × HasPlan b q
  read₂ = linked_by_words other linked₂

  abbrev ws : List Word
  ws = read₁.0

  abbrev p : Plan ℕ
  p = read₁.1

  abbrev q : Plan ℕ
  q = read₂.1

  first : LinkedAs out₁ ws p (link_numbers r₁) left₁
  first = linked_as one read₁.2 read₁.3 linked₁

  second : LinkedAs out₂ ws q (link_numbers r₂) left₂
  second = linked_as other read₁.2 read₂.3 linked₂

  -- what the two calls told, added up, is told of the two texts together
  module _ (x : ReadsThen a b p q) where
    sum_cells : cells (linked_by ws x.plan) ≡ (link_numbers r₁).cells + (link_numbers r₂).cells
    sum_cells =
        then-cells ws x
        ∙ ap₂ ◌+◌ (sym (ap (λ (v : Numbers). v.cells) first.numbers)) (sym (ap (λ (v : Numbers). v.cells) second.numbers))

    sum_length : length (print (linked_by ws x.plan)) ≡ (link_numbers r₁).length + (link_numbers r₂).length
    sum_length =
        ap length (then-print ws x) ∙ length-append (print (linked_by ws p)) (print (linked_by ws q))
        ∙ ap₂ ◌+◌ (sym (ap (λ (v : Numbers). v.length) first.numbers)) (sym (ap (λ (v : Numbers). v.length) second.numbers))

  together : IsLinked (link_numbers r) → ReadsThen a b p q
  together linked = reads_then read₁.3 read₂.3 (linked_by_words both linked).3.short

  -- that call links them exactly when the texts are not too long together, nor the linked plans too big, nor the output too short;
  -- a theorem of stock words
  pub linked_both : IsLinked (link_numbers r)
      ↔ ((length (a ++ b) ≤ text_limit) × ((link_numbers r₁).cells + (link_numbers r₂).cells ≤ cell_limit)
      × ((link_numbers r₁).length + (link_numbers r₂).length ≤ length out))
  linked_both = (to, from)
    where
      to : IsLinked (link_numbers r)
          → (length (a ++ b) ≤ text_limit) × ((link_numbers r₁).cells + (link_numbers r₂).cells ≤ cell_limit)
          × ((link_numbers r₁).length + (link_numbers r₂).length ≤ length out)
      to linked =
          let x = together linked in
          let y = linked_as both read₁.2 x.reads linked in
          (x.reads.short, subst (◌≤ cell_limit) (sum_cells x) y.few, subst (◌≤ length out) (sum_length x) y.fits)

      from : (length (a ++ b) ≤ text_limit) × ((link_numbers r₁).cells + (link_numbers r₂).cells ≤ cell_limit)
          × ((link_numbers r₁).length + (link_numbers r₂).length ≤ length out) → IsLinked (link_numbers r)
      from (short, few, fits) =
          let x = reads_then read₁.3 read₂.3 short in
          call_linked both read₁.2 x.reads (subst (◌≤ cell_limit) (sym (sum_cells x)) few) (subst (◌≤ length out) (sym (sum_length x)) fits)

  -- and then its text is the one's linked text, then the other's, and the cells and lengths are added
  -- a theorem of stock words
  pub links_then : IsLinked (link_numbers r)
      → (saved (link_numbers r) left ≡ saved (link_numbers r₁) left₁ ++ saved (link_numbers r₂) left₂) × ((link_numbers r).cells ≡ (link_numbers r₁).cells + (link_numbers r₂).cells)
      × ((link_numbers r).length ≡ (link_numbers r₁).length + (link_numbers r₂).length)
  links_then linked =
      let x = together linked in
      let y = linked_as both read₁.2 x.reads linked in (
        y.first ∙ then-print ws x ∙ ap₂ ◌++◌ (sym first.first) (sym second.first),
        ap (λ (v : Numbers). v.cells) y.numbers ∙ sum_cells x,
        ap (λ (v : Numbers). v.length) y.numbers ∙ sum_length x,
      )
