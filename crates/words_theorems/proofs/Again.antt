-- Linking by the empty list gives what READ gives, except OVERFULL's place; and linking what was linked changes nothing.
use Prim.Native.Nat.{ℕ, ◌≤◌, ◌<◌}
use mathlib.Core.Path.{◌≡◌, refl, ap, ap₂, sym, subst, ◌∙◌}
use mathlib.Core.List.{List}
use native.Mathlib.Omega.{arith}
use borrow.Author.Tests.{le-leb, lt-leb, ne_eqb}
use lib.ListN.{length}
use Rattle.kinds.specs.Limits.{cell_limit, standard}
use Rattle.plan.specs.declared.TextFault.{TextFault}
use Rattle.plan.specs.declared.Unread.TheVariants.{Text}
use Rattle.plan.specs.Outcomes.{write}
use Rattle.plan.specs.Pieces.{placed}
use Rattle.plan.specs.Plan.{Plan, bare, cells, print}
use Rattle.plan.specs.Read.{as_read, read_family, read_outcome, ReadAnswer}
use Rattle.plan.specs.Reading.{UNREAD, accept, fit}
use Rattle.plan.proofs.ReadBack.{bare-placed}
use Rattle.numbers.specs.declared.Numbers.{Numbers}
use Rattle.numbers.specs.Numbers.{fault_number, fault_numbers, given_numbers, read_numbers}
use Rattle.numbers.proofs.Told.{fault_number_is}
use Rattle.words_meaning.specs.Answers.{link_numbers, LinkAnswer}
use Rattle.words_meaning.specs.Linking.{Word}
use Rattle.words_meaning.proofs.Listing.{link_again}
use Rattle.read.specs.Calls.{ReadsOut}
use Rattle.words_link.specs.Calls.{Links}
use Rattle.demands.specs.Terms.{OVERFULL, saved}
use Rattle.words_theorems.specs.Lists.{HasWords}
use Rattle.words_theorems.specs.Table.{HasFault, LinkedAs}
use Rattle.words_theorems.specs.Terms.{IsLinked, HasPlan, linked_by, no_words, placeless}
use Rattle.words_theorems.proofs.Cases.{LinkCase, bad_list, bad_text, call_linked, fault_found, is_linked, link_case, linked_as, linked_by_words, out_short, over_full}
use Rattle.words_theorems.proofs.Lists.{no_words_has, not-both, one-stock, words_right}
use Rattle.words_theorems.proofs.Meanings.{accepted_reads, bare-cells, bare-print, linked_back, linked_by_none, linked_same, reads_accepted, reads_over}

-- READ refuses a text with a fault for that fault
fault-refused : {text : List ℕ} {f : TextFault} → HasFault text f → accept standard cell_limit text ≡ UNREAD (Text f)
unfolding accept fit
fault-refused bad = ap (fit cell_limit) (fault_found bad)

-- and tells the same five numbers of it
fault_told : (f : TextFault) → fault_numbers f ≡ placeless (fault_numbers f)
fault_told f = grind (arith, ne_eqb (fault_number f) OVERFULL (fault_number_is f).no_overfull)

-- Linking by the empty list gives what READ gives, except OVERFULL's place, which is 0: the same five numbers and the same bytes
-- a theorem of stock words
pub no_words-is_read : {text out : List ℕ} {r : LinkAnswer} {s : ReadAnswer} {a b : List ℕ}
    → Links no_words text out r a → ReadsOut text out s b → (link_numbers r ≡ placeless (read_numbers s)) × (a ≡ b)
unfolding read_outcome as_read write
no_words-is_read {text} {out} {r} {s} {a} {b} call read = rw (read.wrote.answer, read.wrote.output) (go (link_case call))
  where
    none_left : {ws : List Word} (p : Plan ℕ) → HasWords no_words ws → linked_by ws p ≡ p
    none_left p has = ap (λ ws. linked_by ws p) (one-stock has no_words_has) ∙ linked_by_none p

    go : {r : LinkAnswer} {a : List ℕ} → LinkCase no_words text out r a
        → let w = write read_family (read_outcome standard text) out in (link_numbers r ≡ placeless (read_numbers w.answer)) × (a ≡ w.output)
    go (bad_list bad) = not-both bad no_words_has
    go (bad_text {f = f} has bad) = rw (fault-refused bad) (fault_told f, refl)
    go (over_full {p = p} has x over) = rw (reads_over x (subst (λ q. cell_limit < cells q) (none_left p has) over)) (refl, refl)
    go (out_short {p = p} has x few short) =
        let own : length out < length (print p) = subst (λ q. length out < length (print q)) (none_left p has) short in
        rw (
          none_left p has,
          reads_accepted x cell_limit (subst (λ q. cells q ≤ cell_limit) (none_left p has) few),
          lt-leb (length (print p)) (length out) own,
        ) (refl, refl)
    go (is_linked {p = p} has x few fits) =
        let own : length (print p) ≤ length out = subst (λ q. length (print q) ≤ length out) (none_left p has) fits in
        rw (
          none_left p has,
          reads_accepted x cell_limit (subst (λ q. cells q ≤ cell_limit) (none_left p has) few),
          le-leb (length (print p)) (length out) own,
        ) (refl, refl)

-- "Linking what was linked changes nothing": a second call by the same list on the saved text, with an output long enough for it, tells the
-- same numbers and saves the same text
-- a theorem of stock words
pub link_twice : {list text out out₂ : List ℕ} {r s : LinkAnswer} {a b : List ℕ} → Links list text out r a → IsLinked (link_numbers r)
    → Links list (saved (link_numbers r) a) out₂ s b → (link_numbers r).length ≤ length out₂
    → (link_numbers s ≡ link_numbers r) × (saved (link_numbers s) b ≡ saved (link_numbers r) a)
link_twice {list} {text} {out} {out₂} {r} {s} {a} {b} call linked again room =
    let (ws, p, has, was_read) = linked_by_words call linked in compare ws p has was_read (linked_as call has was_read linked)
  where
    compare : (ws : List Word) (p : Plan ℕ) → HasWords list ws → HasPlan text p → LinkedAs out ws p (link_numbers r) a
        → (link_numbers s ≡ link_numbers r) × (saved (link_numbers s) b ≡ saved (link_numbers r) a)
    compare ws p has was_read x =
        let q = linked_by ws p in
        let back : HasPlan (saved (link_numbers r) a) (placed 0 q) =
        accepted_reads cell_limit (ap (accept standard cell_limit) x.first ∙ linked_back has was_read cell_limit x.few (omega arith)) in
        let same : bare (linked_by ws (placed 0 q)) ≡ bare q =
        linked_same ws (placed 0 q) q (bare-placed 0 q) ∙ ap bare (link_again standard ws (words_right has) p) in
        let many : cells (linked_by ws (placed 0 q)) ≡ cells q = bare-cells (linked_by ws (placed 0 q)) q same in
        let text : print (linked_by ws (placed 0 q)) ≡ print q = bare-print (linked_by ws (placed 0 q)) q same in
        let size = ap (λ (v : Numbers). v.length) x.numbers in
        let did = call_linked again has back (omega (arith, x.few)) (omega (arith, ap length text)) in
        let y = linked_as again has back did in
        (y.numbers ∙ ap₂ (λ c t. given_numbers c (length t)) many text ∙ sym x.numbers, y.first ∙ text ∙ sym x.first)
