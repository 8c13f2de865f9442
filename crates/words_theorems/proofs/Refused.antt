-- Exactly when each refusal is given, and with which place. First comes 26, by the list. Then come the text's faults. Then comes 17, by the
-- linked plan's cells, and then 18, by its printed text. Also what a refusal leaves, and that there is no other answer.
use Prim.Native.Nat.{ℕ, ◌≤◌, ◌<◌}
use mathlib.Core.Path.{◌≡◌, refl, ap, ap₂, subst}
use mathlib.Core.Logic.{◌↔◌, ◌⊎◌, inl, inr}
use mathlib.Core.List.{List}
use native.Mathlib.Omega.{arith}
use lib.ListN.{length}
use Rattle.std.specs.Prelude.{Err}
use Rattle.kinds.specs.Limits.{cell_limit, standard}
use Rattle.plan.specs.declared.TextFault.{TextFault}
use Rattle.plan.specs.Plan.{Plan, cells, print}
use Rattle.plan.proofs.Outcomes.{written}
use Rattle.kinds.proofs.Tests.{never}
use Rattle.numbers.specs.declared.Numbers.{Numbers}
use Rattle.numbers.specs.Numbers.{fault_numbers, outshort_numbers}
use Rattle.numbers.proofs.Told.{fault_number_is}
use Rattle.words_meaning.specs.Answers.{link_family, link_numbers, link_outcome, link_refusal_numbers, LinkAnswer}
use Rattle.words_meaning.specs.Linking.{Word}
use Rattle.words_meaning.specs.declared.LinkRefusal.{LinkRefusal}
use Rattle.words_meaning.specs.declared.LinkRefusal.TheVariants.{BadWords, Text, Overfull, OutShort}
use Rattle.words_link.specs.Calls.{Links}
use Rattle.demands.specs.Terms.{IsRefusal}
use Rattle.words_theorems.specs.Lists.{BadList, HasWords}
use Rattle.words_theorems.specs.Table.{HasFault, LinkRefuses, row_17, row_18, row_26, rows_11_to_16}
use Rattle.words_theorems.specs.Terms.{BADWORDS, IsLinked, HasPlan, linked_by}
use Rattle.words_theorems.proofs.Cases.{LinkCase, bad_list, bad_text, fault_or_plan, is_linked, link_case, one-fault, one_plan, out_short, over_full}
use Rattle.words_theorems.proofs.Lists.{not-both, one_rank, one-stock}
use Rattle.words_theorems.proofs.Numbers.{refusal_over, same_refusal}

-- every call is answered: it links its text, or is refused
-- a theorem of stock words
pub every_link-answered : (list text out : List ℕ) → (r : LinkAnswer) × (out' : List ℕ) × Links list text out r out'
every_link-answered list text out = let (r, out', did) = written link_family (link_outcome standard list text) out in (r, out', record { wrote = did })

pub linked_or_refused : {list text out : List ℕ} {r : LinkAnswer} {out' : List ℕ} → Links list text out r out'
    → IsLinked (link_numbers r) ⊎ IsRefusal link_refusal_numbers (link_numbers r)
linked_or_refused {list} {text} {out} call = go (link_case call)
  where
    go : {r : LinkAnswer} {out' : List ℕ} → LinkCase list text out r out' → IsLinked (link_numbers r) ⊎ IsRefusal link_refusal_numbers (link_numbers r)
    go (bad_list {rank} bad) = inr (BadWords rank, refl)
    go (bad_text {f = f} has bad) = inr (Text f, refl)
    go (over_full has reads over) = inr (Overfull, refl)
    go (out_short {ws} {p} has reads few short) = inr (OutShort (length (print (linked_by ws p))), refl)
    go (is_linked has reads few fits) = inl refl

-- what the words and the plan say of the linked plan
module _ {list text : List ℕ} {vs ws : List Word} {p q : Plan ℕ} (g : HasWords list vs) (h : HasWords list ws) (x : HasPlan text p) (y : HasPlan text q) where
  same-cells : cells (linked_by vs p) ≡ cells (linked_by ws q)
  same-cells = ap₂ (λ v r. cells (linked_by v r)) (one-stock g h) (one_plan x y)

  same_length : length (print (linked_by vs p)) ≡ length (print (linked_by ws q))
  same_length = ap₂ (λ v r. length (print (linked_by v r))) (one-stock g h) (one_plan x y)

module _ {list text out : List ℕ} {r : LinkAnswer} {out' : List ℕ} (call : Links list text out r out') where
  refused_so : {x : LinkRefusal} → LinkRefuses list text out x → r ≡ Err x
  refused_so row = go (link_case call) row
    where
      go : {r : LinkAnswer} {out' : List ℕ} {x : LinkRefusal} → LinkCase list text out r out' → LinkRefuses list text out x → r ≡ Err x
      go (bad_list a) (row_26 b) = ap (λ k. Err (BadWords k)) (one_rank a b)
      go (bad_list a) (rows_11_to_16 h b) = not-both a h
      go (bad_list a) (row_17 h y over) = not-both a h
      go (bad_list a) (row_18 h y few short) = not-both a h
      go (bad_text g a) (row_26 b) = not-both b g
      go (bad_text g a) (rows_11_to_16 h b) = ap (λ f. Err (Text f)) (one-fault a b)
      go (bad_text g a) (row_17 h y over) = fault_or_plan a y
      go (bad_text g a) (row_18 h y few short) = fault_or_plan a y
      go (over_full g x over) (row_26 b) = not-both b g
      go (over_full g x over) (rows_11_to_16 h b) = fault_or_plan b x
      go (over_full g x over) (row_17 h y over') = refl
      go (over_full g x over) (row_18 h y few short) = absurd (omega (arith, same-cells g h x y))
      go (out_short g x few short) (row_26 b) = not-both b g
      go (out_short g x few short) (rows_11_to_16 h b) = fault_or_plan b x
      go (out_short g x few short) (row_17 h y over) = absurd (omega (arith, same-cells g h x y))
      go (out_short g x few short) (row_18 h y few' short') = ap (λ n. Err (OutShort n)) (same_length g h x y)
      go (is_linked g x few fits) (row_26 b) = not-both b g
      go (is_linked g x few fits) (rows_11_to_16 h b) = fault_or_plan b x
      go (is_linked g x few fits) (row_17 h y over) = absurd (omega (arith, same-cells g h x y))
      go (is_linked g x few fits) (row_18 h y few' short) = absurd (omega (arith, same_length g h x y))

  refused_why : {x : LinkRefusal} → r ≡ Err x → LinkRefuses list text out x
  refused_why {x} e = go (link_case call) e
    where
      go : {r : LinkAnswer} {out' : List ℕ} → LinkCase list text out r out' → r ≡ Err x → LinkRefuses list text out x
      go (bad_list {rank} bad) e = let is : BadWords rank ≡ x = cc in subst (LinkRefuses list text out) is (row_26 bad)
      go (bad_text {f = f} has bad) e = let is : Text f ≡ x = cc in subst (LinkRefuses list text out) is (rows_11_to_16 has bad)
      go (over_full has reads over) e = let is : Overfull ≡ x = cc in subst (LinkRefuses list text out) is (row_17 has reads over)
      go (out_short {ws} {p} has reads few short) e =
          let is : OutShort (length (print (linked_by ws p))) ≡ x = cc in subst (LinkRefuses list text out) is (row_18 has reads few short)
      go (is_linked has reads few fits) e = never cc

  -- "The refusals: 26 exactly when, with its place; 17 exactly when." Each refusal exactly when its row of the table says, with that
  -- row's number and place;
  -- a theorem of stock words
  pub link-refused : (x : LinkRefusal) → LinkRefuses list text out x ↔ (link_numbers r ≡ link_refusal_numbers x)
  link-refused x = (λ h. ap link_numbers (refused_so h), λ h. refused_why (same_refusal r x h))

  -- 26, with the least rank at fault, exactly when the list is not right;
  -- a theorem of stock words
  pub badwords_exactly_when : (rank : ℕ) → BadList list rank ↔ (link_numbers r ≡ link_refusal_numbers (BadWords rank))
  badwords_exactly_when rank = (λ bad. (link-refused (BadWords rank)).0 (row_26 bad), λ h. go ((link-refused (BadWords rank)).1 h) refl)
    where
      go : {x : LinkRefusal} → LinkRefuses list text out x → x ≡ BadWords rank → BadList list rank
      go (row_26 {rank = k} bad) e = let is : k ≡ rank = cc in subst (BadList list) is bad
      go (rows_11_to_16 has bad) e = never cc
      go (row_17 has reads over) e = never cc
      go (row_18 has reads few short) e = never cc

  -- by the number alone: 26 exactly when the list is not right, and the place is the rank;
  -- a theorem of stock words
  pub badwords_number : ((link_numbers r).number ≡ BADWORDS) ↔ BadList list (link_numbers r).place
  badwords_number =
      (to (link_case call), λ bad. ap (λ (a : LinkAnswer). (link_numbers a).number) (refused_so (row_26 bad)))
    where
      to : {r : LinkAnswer} {out' : List ℕ} → LinkCase list text out r out' → (link_numbers r).number ≡ BADWORDS → BadList list (link_numbers r).place
      to (bad_list bad) e = bad
      to (bad_text {f = f} has bad) e = absurd (omega (arith, (fault_number_is f).high))
      to (over_full has reads over) e = absurd (omega arith)
      to (out_short has reads few short) e = absurd (omega arith)
      to (is_linked has reads few fits) e = absurd (omega arith)

  -- of a right list: a fault's number and place exactly when the text has that fault, however many cells it has,
  -- a theorem of stock words
  pub fault_exactly_when : {ws : List Word} → HasWords list ws → (f : TextFault) → HasFault text f ↔ (link_numbers r ≡ fault_numbers f)
  fault_exactly_when has f = (λ bad. (link-refused (Text f)).0 (rows_11_to_16 has bad), λ h. go ((link-refused (Text f)).1 h) refl)
    where
      go : {x : LinkRefusal} → LinkRefuses list text out x → x ≡ Text f → HasFault text f
      go (row_26 bad) e = never cc
      go (rows_11_to_16 {f = g} h bad) e = let is : g ≡ f = cc in subst (HasFault text) is bad
      go (row_17 h y over) e = never cc
      go (row_18 h y few short) e = never cc

  -- of a right list and a text that reads: 17, place 0, exactly when the linked plan has more than 4,096 cells,
  -- a theorem of stock words
  pub overfull_exactly_when : {ws : List Word} {p : Plan ℕ} → HasWords list ws → HasPlan text p
      → (cell_limit < cells (linked_by ws p)) ↔ (link_numbers r ≡ link_refusal_numbers Overfull)
  overfull_exactly_when {ws} {p} has reads = (λ over. (link-refused Overfull).0 (row_17 has reads over), λ h. go ((link-refused Overfull).1 h) refl)
    where
      go : {x : LinkRefusal} → LinkRefuses list text out x → x ≡ Overfull → cell_limit < cells (linked_by ws p)
      go (row_26 bad) e = never cc
      go (rows_11_to_16 h bad) e = never cc
      go (row_17 h y over) e = omega (arith, same-cells has h reads y)
      go (row_18 h y few short) e = never cc

  -- 18, with the bytes needed, exactly when the linked plan fits its cells and its text not the output,
  -- a theorem of stock words
  pub outshort_exactly_when : {ws : List Word} {p : Plan ℕ} → HasWords list ws → HasPlan text p
      → ((cells (linked_by ws p) ≤ cell_limit) × (length out < length (print (linked_by ws p))))
      ↔ (link_numbers r ≡ outshort_numbers (length (print (linked_by ws p))))
  outshort_exactly_when {ws} {p} has reads =
      (λ (few, short). (link-refused (OutShort needed)).0 (row_18 has reads few short), λ h. go ((link-refused (OutShort needed)).1 h) refl)
    where
      needed : ℕ
      needed = length (print (linked_by ws p))

      go : {x : LinkRefusal} → LinkRefuses list text out x → x ≡ OutShort needed
          → (cells (linked_by ws p) ≤ cell_limit) × (length out < length (print (linked_by ws p)))
      go (row_26 bad) e = never cc
      go (rows_11_to_16 h bad) e = never cc
      go (row_17 h y over) e = never cc
      go (row_18 h y few short) e = (omega (arith, same-cells has h reads y), omega (arith, same_length has h reads y))

  -- and READ exactly when no row says anything
  -- a theorem of stock words
  pub linked_exactly_when : IsLinked (link_numbers r) ↔ ((x : LinkRefusal) → LinkRefuses list text out x → ⊥)
  linked_exactly_when = (
    λ h x row. omega (arith, refusal_over x, ap (λ (v : Numbers). v.number) ((link-refused x).0 row)),
    λ none. go (linked_or_refused call) none,
  )
    where
      go : IsLinked (link_numbers r) ⊎ IsRefusal link_refusal_numbers (link_numbers r) → ((x : LinkRefusal) → LinkRefuses list text out x → ⊥)
          → IsLinked (link_numbers r)
      go (inl h) none = h
      go (inr (x, e)) none = absurd (none x ((link-refused x).1 e))

  -- a refusal reports no steps, no cells and no length, and every byte of the output is as it was
  -- a theorem of stock words
  pub refusal_changes_nothing : IsRefusal link_refusal_numbers (link_numbers r)
      → ((link_numbers r).steps ≡ 0) × ((link_numbers r).cells ≡ 0) × ((link_numbers r).length ≡ 0) × (out' ≡ out)
  refusal_changes_nothing h = go (link_case call) h
    where
      go : {r : LinkAnswer} {out' : List ℕ} → LinkCase list text out r out' → IsRefusal link_refusal_numbers (link_numbers r)
          → ((link_numbers r).steps ≡ 0) × ((link_numbers r).cells ≡ 0) × ((link_numbers r).length ≡ 0) × (out' ≡ out)
      go (bad_list bad) h = (refl, refl, refl, refl)
      go (bad_text has bad) h = (refl, refl, refl, refl)
      go (over_full has reads over) h = (refl, refl, refl, refl)
      go (out_short has reads few short) h = (refl, refl, refl, refl)
      go (is_linked has reads few fits) (x, h) = absurd (omega (arith, refusal_over x, ap (λ (v : Numbers). v.number) h))
