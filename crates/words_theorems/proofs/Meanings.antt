-- Laws of what texts and linked plans mean. All tokens of a text that reads are names, and so are those of its linked plan. The linked plan
-- prints as a text that reads back. Labels, the places of the items, change nothing of what is held, linked or printed.
use Prim.Native.Nat.{ℕ, ◌≤◌, ◌<◌}
use mathlib.Core.Path.{◌≡◌, refl, ap, ap₂, sym, ◌∙◌}
use mathlib.Core.Bool.{◌||◌}
use Rattle.std.specs.Prelude.{Option, None, Some}
use mathlib.Core.List.{List, []}
use native.Mathlib.Omega.{arith}
use borrow.Author.Tests.{lt-leb}
use Rattle.kinds.specs.Limits.{cell_limit, standard, token_limit}
use Rattle.plan.specs.declared.Unread.TheVariants.{Overfull}
use Rattle.plan.specs.Options.{under}
use Rattle.plan.specs.Pieces.{placed}
use Rattle.plan.specs.Plan.{Plan, end, operator, token, block, bare, cells, print, relabel}
use Rattle.plan.specs.Reading.{ACCEPTED, PLAN, UNREAD, accept, fit, place_of_item, read_text}
use Rattle.plan.specs.Refusals.{Faultless}
use Rattle.plan.specs.Token.{Allowed}
use Rattle.plan.proofs.Acceptable.{accepted_parts, parts_accepted}
use Rattle.plan.proofs.Accepting.{accepted_text, print_accepted, standard_roomy, text_short}
use Rattle.plan.proofs.Plans.{cells-relabel, print-relabel, relabel-then}
use Rattle.plan.proofs.ReadBack.{Accepted, read_accepted}
use Rattle.plan.proofs.Refusals.{plan_faultless}
use Rattle.stored.specs.Same.{same}
use Rattle.words_meaning.specs.Linking.{Word, holds, in_place, link_plan, stands_for}
use Rattle.words_meaning.proofs.Linked.{allowed-link, link_unlisted}
use Rattle.words_meaning.proofs.Listing.{stands_allowed}
use Rattle.words_theorems.specs.Lists.{HasWords}
use Rattle.words_theorems.specs.Terms.{HasPlan, linked_by}
use Rattle.words_theorems.proofs.Lists.{words_right}

module _ {text : List ℕ} {p : Plan ℕ} (reads : HasPlan text p) where
  pub plan_found : read_text standard text ≡ PLAN p
  plan_found = text_short standard text reads.short ∙ reads.reads

  pub reads_faultless : Faultless token_limit 0 text 0 (cells p)
  reads_faultless = plan_faultless token_limit text reads.reads

  -- so many cells lent as it has, or more, accept it; and 4,096 do not, where it has more
  pub reads_accepted : (n : ℕ) → cells p ≤ n → accept standard n text ≡ ACCEPTED p
  reads_accepted n room = parts_accepted standard n text reads.short reads.reads room

  pub reads_over : cell_limit < cells p → accept standard cell_limit text ≡ UNREAD (Overfull (place_of_item cell_limit p))
  unfolding accept fit
  reads_over over = rw (plan_found, lt-leb (cells p) cell_limit over)

  pub reads_known : Accepted token_limit (cells p) text p
  reads_known = read_accepted token_limit (cells p) text (accepted_text standard (cells p) text (reads_accepted (cells p) (omega arith))).reads

-- an accepted text reads as the plan
pub accepted_reads : (n : ℕ) {text : List ℕ} {p : Plan ℕ} → accept standard n text ≡ ACCEPTED p → HasPlan text p
accepted_reads n {text} e = let (short, is, few) = accepted_parts standard n text e in record { short = short; reads = is }

-- a linked plan has names only for tokens
pub linked_allowed : {list text : List ℕ} {ws : List Word} {p : Plan ℕ} → HasWords list ws → HasPlan text p → Allowed token_limit (linked_by ws p)
linked_allowed {ws = ws} {p} has reads =
    allowed-link (stands_for token_limit ws) token_limit p (reads_known reads).fine (stands_allowed standard ws (words_right has))

-- and its printed text, where it is not too big, reads back
pub linked_back : {list text : List ℕ} {ws : List Word} {p : Plan ℕ} → HasWords list ws → HasPlan text p → (n : ℕ)
    → cells (linked_by ws p) ≤ n → n ≤ cell_limit → accept standard n (print (linked_by ws p)) ≡ ACCEPTED (placed 0 (linked_by ws p))
linked_back {ws = ws} {p} has reads n room lent = print_accepted standard standard_roomy n lent (linked_by ws p) (linked_allowed has reads) room

-- by no words a plan stays as it is
pub linked_by_none : (p : Plan ℕ) → linked_by [] p ≡ p
unfolding stands_for
linked_by_none p = link_unlisted (stands_for token_limit []) p (λ t h. refl)

module _ {L M : Type 0} (f : L → M) where
  -- other labels hold the same tokens
  pub holds-relabel : (t : List ℕ) (p : Plan L) → holds t (relabel f p) ≡ holds t p
  unfolding holds relabel
  holds-relabel t end = refl
  holds-relabel t (operator l o p) = holds-relabel t p
  holds-relabel t (token l u p) = ap (same t u ||◌) (holds-relabel t p)
  holds-relabel t (block l b p) = ap₂ ◌||◌ (holds-relabel t b) (holds-relabel t p)

  relabel-in_place : (s : Option (Plan L)) (l : L) (t : List ℕ) (p : Plan L)
      → relabel f (in_place s l t p) ≡ in_place (under (relabel f) s) (f l) t (relabel f p)
  unfolding relabel in_place under
  relabel-in_place None l t p = refl
  relabel-in_place (Some q) l t p = relabel-then f q p

  -- and are linked to the same items
  pub relabel-link : (stands : List ℕ → Option (Plan L)) (p : Plan L)
      → relabel f (link_plan stands p) ≡ link_plan (λ t. under (relabel f) (stands t)) (relabel f p)
  unfolding link_plan relabel
  relabel-link stands end = refl
  relabel-link stands (operator l o p) = ap (operator (f l) o) (relabel-link stands p)
  relabel-link stands (token l t p) =
      relabel-in_place (stands t) l t (link_plan stands p) ∙ ap (in_place (under (relabel f) (stands t)) (f l) t) (relabel-link stands p)
  relabel-link stands (block l b p) = ap₂ (block (f l)) (relabel-link stands b) (relabel-link stands p)

-- so plans that differ in their places only are linked to plans that differ in their places only
pub linked_same : (ws : List Word) (p q : Plan ℕ) → bare p ≡ bare q → bare (linked_by ws p) ≡ bare (linked_by ws q)
linked_same ws p q e =
    relabel-link (λ l. tt {0}) (stands_for token_limit ws) p ∙ ap (link_plan (λ t. under (relabel (λ l. tt {0})) (stands_for token_limit ws t))) e
    ∙ sym (relabel-link (λ l. tt {0}) (stands_for token_limit ws) q)

-- which have as many cells and the same text
pub bare-cells : (p q : Plan ℕ) → bare p ≡ bare q → cells p ≡ cells q
bare-cells p q e = sym (cells-relabel (λ l. tt {0}) p) ∙ ap cells e ∙ cells-relabel (λ l. tt {0}) q

pub bare-print : (p q : Plan ℕ) → bare p ≡ bare q → print p ≡ print q
bare-print p q e = sym (print-relabel (λ l. tt {0}) p) ∙ ap print e ∙ print-relabel (λ l. tt {0}) q
