-- What a call of LINK can have been, by its answer and its output together. Every theorem goes by these cases, so no other proof opens
-- the definition of the answer.
use Prim.Native.Nat.{ℕ, ◌≤◌, ◌<◌}
use mathlib.Core.Path.{◌≡◌, refl, ap, ap₂, sym, subst, ◌∙◌}
use mathlib.Core.List.{List, ◌++◌}
use native.Mathlib.Omega.{arith}
use borrow.Author.Tests.{leb-true, leb-false, ltb-true, ltb-false}
use lib.Dec.{leb, ltb}
use lib.ListN.{length, drop}
use lib.Seq.{drop-append_seam, take-append_seam}
use Rattle.plan.specs.Read.{sized}
use Rattle.std.specs.Prelude.{Ok, Err}
use Rattle.kinds.specs.Limits.{cell_limit, standard, text_limit, token_limit}
use Rattle.plan.specs.declared.TextFault.{TextFault}
use Rattle.plan.specs.Outcomes.{Outcome, REFUSES, write}
use Rattle.plan.specs.Plan.{Plan, bare, cells, print}
use Rattle.plan.specs.Reading.{FAULT, PLAN, Reading, read_bytes, read_text}
use Rattle.plan.proofs.Accepting.{text_short, text_too_long}
use Rattle.plan.proofs.Outcomes.{write_gives, wrote_once}
use Rattle.plan.proofs.Refusals.{faulty_read, plan_injective, read_faulty}
use Rattle.kinds.proofs.Tests.{cond_cases, never}
use Rattle.words_meaning.specs.Answers.{link_by, link_family, link_numbers, link_outcome, link_read, LinkAnswer, linked_within}
use Rattle.words_meaning.specs.Linking.{Word}
use Rattle.words_meaning.specs.Stock.{LIST_FAULT as LIST_FAULT, Stock, WORDS, stock}
use Rattle.words_meaning.specs.declared.LinkRefusal.{LinkRefusal}
use Rattle.words_meaning.specs.declared.LinkRefusal.TheVariants.{BadWords, Text, Overfull, OutShort}
use Rattle.words_link.specs.Calls.{Links}
use Rattle.words_theorems.specs.Lists.{BadList, HasWords}
use Rattle.words_theorems.specs.Table.{HasFault, LinkedAs, row_11, rows_13_to_16}
use Rattle.words_theorems.specs.Terms.{IsLinked, HasPlan, linked_by}
use Rattle.words_theorems.proofs.Meanings.{bare-cells, bare-print, plan_found}
use Rattle.words_theorems.proofs.Lists.{bad_exactly_when, not-both, one-stock, right_exactly_when}
use Rattle.words_theorems.proofs.Numbers.{refusal_over}

-- A text is read or has a fault, however many cells it has.
data TextCase (text : List ℕ) : Reading → Type 0 where
  has_fault : {f : TextFault} → HasFault text f → TextCase text (FAULT f)
  has_plan : {p : Plan ℕ} → HasPlan text p → TextCase text (PLAN p)

text_case : (text : List ℕ) → TextCase text (read_text standard text)
unfolding read_text
text_case text =
    cond_cases (TextCase text) (ltb text_limit (length text)) (λ t. has_fault (row_11 (ltb-true text_limit (length text) t)))
    (λ t. by_reading (ltb-false text_limit (length text) t) (read_bytes token_limit text) refl)
  where
    by_reading : length text ≤ text_limit → (x : Reading) → read_bytes token_limit text ≡ x → TextCase text x
    by_reading short (PLAN p) h = has_plan (record { short = short; reads = h })
    by_reading short (FAULT f) h = has_fault (rows_13_to_16 short (read_faulty token_limit text h))

pub fault_found : {text : List ℕ} {f : TextFault} → HasFault text f → read_text standard text ≡ FAULT f
fault_found {text} (row_11 long) = text_too_long standard text long
fault_found {text} (rows_13_to_16 short bad) = text_short standard text short ∙ faulty_read bad

-- a text has one fault or one plan, and never both
pub one-fault : {text : List ℕ} {f g : TextFault} → HasFault text f → HasFault text g → f ≡ g
one-fault x y = let e : FAULT _ ≡ FAULT _ = sym (fault_found x) ∙ fault_found y in cc

pub one_plan : {text : List ℕ} {p q : Plan ℕ} → HasPlan text p → HasPlan text q → p ≡ q
one_plan x y = plan_injective (sym x.reads ∙ y.reads)

pub fault_or_plan : {A : Type 0} {text : List ℕ} {f : TextFault} {p : Plan ℕ} → HasFault text f → HasPlan text p → A
fault_or_plan x y = never (let e : FAULT _ ≡ PLAN _ = sym (fault_found x) ∙ plan_found y in cc)

-- The cases of a call.
pub data LinkCase (list text out : List ℕ) : LinkAnswer → List ℕ → Type 0 where
  bad_list : {rank : ℕ} → BadList list rank → LinkCase list text out (Err (BadWords rank)) out
  bad_text : {ws : List Word} {f : TextFault} → HasWords list ws → HasFault text f → LinkCase list text out (Err (Text f)) out
  over_full : {ws : List Word} {p : Plan ℕ} → HasWords list ws → HasPlan text p → cell_limit < cells (linked_by ws p)
      → LinkCase list text out (Err Overfull) out
  out_short : {ws : List Word} {p : Plan ℕ} → HasWords list ws → HasPlan text p → cells (linked_by ws p) ≤ cell_limit
      → length out < length (print (linked_by ws p)) → LinkCase list text out (Err (OutShort (length (print (linked_by ws p))))) out
  is_linked : {ws : List Word} {p : Plan ℕ} → HasWords list ws → HasPlan text p → cells (linked_by ws p) ≤ cell_limit
      → length (print (linked_by ws p)) ≤ length out
      → LinkCase list text out (Ok (sized (cells (linked_by ws p)) (length (print (linked_by ws p)))))
      (print (linked_by ws p) ++ drop (length (print (linked_by ws p))) out)

link_cases : (list text out : List ℕ) → let w = write link_family (link_outcome standard list text) out in LinkCase list text out w.answer w.output
unfolding link_outcome link_by link_read linked_within write
link_cases list text out = by_stock (stock standard list) refl
  where
    Case : Outcome LinkRefusal (Unit {0}) → Type 0
    Case o = let w = write link_family o out in LinkCase list text out w.answer w.output

    by_cells : {ws : List Word} {p : Plan ℕ} → HasWords list ws → HasPlan text p → Case (linked_within standard (linked_by ws p))
    by_cells {ws} {p} has reads =
        let q = linked_by ws p in
        cond_cases Case (leb (cells q) cell_limit)
        (λ t. let few = leb-true (cells q) cell_limit t in
        write_gives link_family tt (cells q) (print q) out (LinkCase list text out) (out_short has reads few) (is_linked has reads few))
        (λ t. over_full has reads (leb-false (cells q) cell_limit t))

    by_text : {ws : List Word} {x : Reading} → HasWords list ws → TextCase text x → Case (link_read standard ws x)
    by_text has (has_fault f) = bad_text has f
    by_text has (has_plan reads) = by_cells has reads

    by_stock : (x : Stock) → stock standard list ≡ x → Case (link_by standard x text)
    by_stock (LIST_FAULT rank) h = bad_list ((bad_exactly_when list rank).1 h)
    by_stock (WORDS ws) h = by_text ((right_exactly_when list ws).1 h) (text_case text)

pub link_case : {list text out : List ℕ} {r : LinkAnswer} {out' : List ℕ} → Links list text out r out' → LinkCase list text out r out'
link_case {list} {text} {out} call = rw (call.wrote.answer, call.wrote.output) (link_cases list text out)

-- a fault of the list comes first, and then one of the text
pub by_bad_list : {list : List ℕ} {rank : ℕ} → BadList list rank → (text : List ℕ) → link_outcome standard list text ≡ REFUSES (BadWords rank)
unfolding link_outcome link_by
by_bad_list {list} {rank} bad text = rw ((bad_exactly_when list rank).0 bad)

pub by_bad_text : {list text : List ℕ} {ws : List Word} {f : TextFault} → HasWords list ws → HasFault text f → link_outcome standard list text ≡ REFUSES (Text f)
unfolding link_outcome link_by link_read
by_bad_text {list} {ws = ws} has bad = rw ((right_exactly_when list ws).0 has, fault_found bad)

-- where the list is right and the text reads, the rest is settled by the linked plan
pub by_linked_plan : {list text : List ℕ} {ws : List Word} {p : Plan ℕ} → HasWords list ws → HasPlan text p
    → link_outcome standard list text ≡ linked_within standard (linked_by ws p)
unfolding link_outcome link_by link_read
by_linked_plan {list} {ws = ws} has reads = rw ((right_exactly_when list ws).0 has, plan_found reads)

-- by its items, and not by their places
pub same_within : (q q' : Plan ℕ) → bare q ≡ bare q' → linked_within standard q ≡ linked_within standard q'
unfolding linked_within
same_within q q' e = rw (bare-cells q q' e, bare-print q q' e)

-- calls of one outcome, with the same output, answer the same and leave the same
pub same_calls : {list list₂ text text₂ out : List ℕ} {r s : LinkAnswer} {a b : List ℕ} → Links list text out r a → Links list₂ text₂ out s b
    → link_outcome standard list text ≡ link_outcome standard list₂ text₂ → (r ≡ s) × (a ≡ b)
same_calls call other e = wrote_once link_family (rw e at call.wrote) other.wrote

module _ {list text out : List ℕ} {r : LinkAnswer} {out' : List ℕ} (call : Links list text out r out') where
  -- a call that linked had a right list and a text that reads,
  -- a theorem of stock words
  pub linked_by_words : IsLinked (link_numbers r) → (ws : List Word) × (p : Plan ℕ) × HasWords list ws × HasPlan text p
  linked_by_words h = go (link_case call) h
    where
      go : {r : LinkAnswer} {out' : List ℕ} → LinkCase list text out r out' → IsLinked (link_numbers r)
          → (ws : List Word) × (p : Plan ℕ) × HasWords list ws × HasPlan text p
      go (bad_list bad) h = absurd (omega arith)
      go (bad_text {f = f} has bad) h = absurd (omega (arith, refusal_over (Text f)))
      go (over_full has reads over) h = absurd (omega arith)
      go (out_short has reads few short) h = absurd (omega arith)
      go (is_linked has reads few fits) h = (_, _, has, reads)

  module _ {ws : List Word} {p : Plan ℕ} (has : HasWords list ws) (reads : HasPlan text p) where
    same : {vs : List Word} {q : Plan ℕ} → HasWords list vs → HasPlan text q → linked_by vs q ≡ linked_by ws p
    same g h = ap₂ linked_by (one-stock g has) (one_plan h reads)

    -- and answered and left what the table says;
    -- a theorem of stock words
    pub linked_as : IsLinked (link_numbers r) → LinkedAs out ws p (link_numbers r) out'
    linked_as h = go (link_case call) h
      where
        its : (vs : List Word) (q : Plan ℕ) → cells (linked_by vs q) ≤ cell_limit → length (print (linked_by vs q)) ≤ length out
            → let t = print (linked_by vs q) in LinkedAs out vs q (link_numbers (Ok (sized (cells (linked_by vs q)) (length t)))) (t ++ drop (length t) out)
        its vs q few fits =
            let t = print (linked_by vs q) in
            record {
              few = few;
              fits = fits;
              numbers = refl;
              first = take-append_seam t (drop (length t) out);
              untouched = drop-append_seam t (drop (length t) out);
            }

        go : {r : LinkAnswer} {out' : List ℕ} → LinkCase list text out r out' → IsLinked (link_numbers r) → LinkedAs out ws p (link_numbers r) out'
        go (bad_list bad) h = absurd (omega arith)
        go (bad_text {f = f} g bad) h = absurd (omega (arith, refusal_over (Text f)))
        go (over_full g x over) h = absurd (omega arith)
        go (out_short g x few short) h = absurd (omega arith)
        go (is_linked {ws = vs} {p = q} g x few fits) h =
            let t = print (linked_by vs q) in
            let told = link_numbers (Ok (sized (cells (linked_by vs q)) (length t))) in
            subst (λ v. LinkedAs out v p told (t ++ drop (length t) out)) (one-stock g has)
            (subst (λ y. LinkedAs out vs y told (t ++ drop (length t) out)) (one_plan x reads) (its vs q few fits))

    -- where the linked plan is not too big and there is room for its text, it did link
    -- a theorem of stock words
    pub call_linked : cells (linked_by ws p) ≤ cell_limit → length (print (linked_by ws p)) ≤ length out → IsLinked (link_numbers r)
    call_linked few fits = go (link_case call)
      where
        go : {r : LinkAnswer} {out' : List ℕ} → LinkCase list text out r out' → IsLinked (link_numbers r)
        go (bad_list bad) = not-both bad has
        go (bad_text g bad) = fault_or_plan bad reads
        go (over_full g h over) = absurd (omega (arith, ap (λ (q : Plan ℕ). cells q) (same g h)))
        go (out_short g h little short) = absurd (omega (arith, ap (λ (q : Plan ℕ). length (print q)) (same g h)))
        go (is_linked g h little room) = refl
