-- Request 2 in linking: no linked text holds an annotation, and "a word's text or a plan text with annotations links as without them".
use Prim.Native.Nat.{ℕ}
use mathlib.Core.Path.{◌≡◌, refl, ap, ap₂, sym, subst, ◌∙◌}
use mathlib.Core.Bool.{Bool, true, false, cond, ◌||◌}
use Rattle.std.specs.Prelude.{Option, Some}
use mathlib.Core.List.{List, [], ◌∷◌, map}
use native.Mathlib.Omega.{arith}
use Rattle.kinds.specs.Limits.{cell_limit, standard, token_limit}
use Rattle.plan.specs.Options.{under}
use Rattle.plan.specs.Pieces.{placed}
use Rattle.plan.specs.Plan.{Plan, end, operator, token, block, bare, cells}
use Rattle.plan.specs.Reading.{HoldsAnnotation, OUTSIDE, read, without_marks, plan_in, plan_of}
use Rattle.plan.specs.Read.{acceptable}
use Rattle.plan.proofs.Acceptable.{AcceptableText, acceptable_plan, accepted_acceptable}
use Rattle.plan.proofs.Annotations.{accept-without_marks, print_no_annotation}
use Rattle.plan.proofs.Faultless.{without_marks-length}
use Rattle.plan.proofs.ReadBack.{bare-placed, read-print}
use Rattle.plan.proofs.Refusals.{read_faultless}
use Rattle.plan.proofs.Accepting.{standard_roomy}
use Rattle.stored.specs.Same.{same}
use Rattle.words_meaning.specs.Answers.{link_numbers, link_outcome, LinkAnswer}
use Rattle.words_meaning.specs.Linking.{Word, holds, in_place, link_plan, listed, stands_for, stock_token, used}
use Rattle.words_meaning.specs.Stock.{fits, right}
use Rattle.words_meaning.proofs.Listing.{Right, right-word}
use Rattle.words_link.specs.Calls.{Links}
use Rattle.demands.specs.Terms.{saved}
use Rattle.words_theorems.specs.Lists.{HasWords}
use Rattle.words_theorems.specs.Terms.{IsLinked, HasPlan, linked_by, without_its_marks}
use Rattle.words_theorems.proofs.Cases.{LinkCase, bad_list, bad_text, by_bad_list, by_bad_text, by_linked_plan, fault_or_plan, is_linked, link_case, linked_as, linked_by_words, out_short, over_full, same_calls, same_within}
use Rattle.words_theorems.proofs.Lists.{not-both, words_right}
use Rattle.words_theorems.proofs.Meanings.{holds-relabel, linked_allowed, linked_same, reads_known, relabel-link}

-- the saved text holds no annotation
-- a theorem of annotations
pub linked_unannotated : {list text out : List ℕ} {r : LinkAnswer} {out' : List ℕ} → Links list text out r out' → IsLinked (link_numbers r)
    → HoldsAnnotation (saved (link_numbers r) out') → ⊥
linked_unannotated call linked =
    let (ws, p, has, reads) = linked_by_words call linked in
    subst (λ t. HoldsAnnotation t → ⊥) (sym (linked_as call has reads linked).first) (print_no_annotation token_limit (linked_by ws p) (linked_allowed has reads))

-- a text that reads, however many cells it has, reads without its marks as the same plan
text_reads : {text : List ℕ} {p : Plan ℕ} → HasPlan text p → HasPlan (without_marks OUTSIDE text) (placed 0 p)
text_reads {text} {p} reads =
    let known = reads_known reads in
    let again = ap (read token_limit (cells p)) (sym known.printed) ∙ read-print token_limit (cells p) p known.fine (omega arith) in
    record {
      short = omega (arith, without_marks-length OUTSIDE text, reads.short);
      reads = (read_faultless token_limit (cells p) (without_marks OUTSIDE text) again).2;
    }

-- a plan text with annotations links as without them, by every list
-- a theorem of annotations
pub text-without_marks : {list text out : List ℕ} {r s : LinkAnswer} {a b : List ℕ} {p : Plan ℕ}
    → Links list text out r a → Links list (without_marks OUTSIDE text) out s b → HasPlan text p → (s ≡ r) × (b ≡ a)
text-without_marks {list} {text} {out} call bare reads = same_calls bare call (go (link_case call))
  where
    by_words : {ws : List Word} {q : Plan ℕ} → HasWords list ws → HasPlan text q
        → link_outcome standard list (without_marks OUTSIDE text) ≡ link_outcome standard list text
    by_words {ws} {q} has reads =
        by_linked_plan has (text_reads reads) ∙ same_within _ _ (linked_same ws (placed 0 q) q (bare-placed 0 q)) ∙ sym (by_linked_plan has reads)

    go : {r : LinkAnswer} {a : List ℕ} → LinkCase list text out r a → link_outcome standard list (without_marks OUTSIDE text) ≡ link_outcome standard list text
    go (bad_list bad) = by_bad_list bad (without_marks OUTSIDE text) ∙ sym (by_bad_list bad text)
    go (bad_text has bad) = fault_or_plan bad reads
    go (over_full has reads over) = by_words has reads
    go (out_short has reads few short) = by_words has reads
    go (is_linked has reads few fits) = by_words has reads

-- A word's plan is the same without its text's marks.
module _ (w : Word) (text : AcceptableText standard w.text) where
  its_plan : plan_of token_limit (without_marks OUTSIDE w.text) ≡ placed 0 (plan_of token_limit w.text)
  unfolding plan_of plan_in
  its_plan =
      let there = text_reads (record { short = text.short; reads = text.reads }) in
      ap plan_in there.reads ∙ ap (placed 0) (sym text.plan_is)

  its_items : bare (plan_of token_limit (without_marks OUTSIDE w.text)) ≡ bare (plan_of token_limit w.text)
  its_items = ap bare its_plan ∙ bare-placed 0 (plan_of token_limit w.text)

  its_tokens : (t : List ℕ) → holds t (plan_of token_limit (without_marks OUTSIDE w.text)) ≡ holds t (plan_of token_limit w.text)
  its_tokens t =
      sym (holds-relabel (λ l. tt {0}) t (plan_of token_limit (without_marks OUTSIDE w.text))) ∙ ap (holds t) its_items
      ∙ holds-relabel (λ l. tt {0}) t (plan_of token_limit w.text)

  still_acceptable : acceptable standard (without_marks OUTSIDE w.text) ≡ true
  still_acceptable =
      accepted_acceptable standard (without_marks OUTSIDE w.text) (accept-without_marks standard standard_roomy cell_limit (omega arith) w.text text.accepted)

its_text : (older : List Word) (w : Word) → right standard older w ≡ true → AcceptableText standard w.text
its_text older w one = acceptable_plan standard w.text (right-word standard older w one).reads

-- what tokens stand for settles what a plan is linked to
link_alike : {L : Type 0} (s t : List ℕ → Option (Plan L)) → ((u : List ℕ) → s u ≡ t u) → (p : Plan L) → link_plan s p ≡ link_plan t p
unfolding link_plan
link_alike s t e end = refl
link_alike s t e (operator l o p) = ap (operator l o) (link_alike s t e p)
link_alike s t e (token l u p) = ap₂ (λ x q. in_place x l u q) (e u) (link_alike s t e p)
link_alike s t e (block l b p) = ap₂ (block l) (link_alike s t e b) (link_alike s t e p)

-- so words without their texts' marks link a plan to the same items
module _ (newer older : List Word) (alike : (t : List ℕ) → under bare (stands_for token_limit newer t) ≡ under bare (stands_for token_limit older t)) where
  linked_alike : (p q : Plan ℕ) → bare p ≡ bare q → bare (linked_by newer p) ≡ bare (linked_by older q)
  linked_alike p q e =
      relabel-link (λ l. tt {0}) (stands_for token_limit newer) p
      ∙ ap (link_plan (λ t. under bare (stands_for token_limit newer t))) e
      ∙ link_alike (λ t. under bare (stands_for token_limit newer t)) (λ t. under bare (stands_for token_limit older t)) alike (bare q)
      ∙ sym (relabel-link (λ l. tt {0}) (stands_for token_limit older) q)

stands_alike : (ws : List Word) → Right standard ws → (t : List ℕ)
    → under bare (stands_for token_limit (map without_its_marks ws) t) ≡ under bare (stands_for token_limit ws t)
unfolding stands_for under
stands_alike [] r t = refl
stands_alike (w ∷ older) (one, r) t = go (same t (stock_token w)) (stands_alike older r)
  where
    go : (named : Bool) → ((u : List ℕ) → under bare (stands_for token_limit (map without_its_marks older) u) ≡ under bare (stands_for token_limit older u))
        → under bare (cond named (Some (linked_by (map without_its_marks older) (plan_of token_limit (without_marks OUTSIDE w.text)))) (stands_for token_limit (map without_its_marks older) t))
        ≡ under bare (cond named (Some (linked_by older (plan_of token_limit w.text))) (stands_for token_limit older t))
    go true earlier = ap Some (linked_alike (map without_its_marks older) older earlier _ _ (its_items w (its_text older w one)))
    go false earlier = earlier t

-- a word's text with annotations links as without them: every text gets the same answer, and every output the same bytes
-- a theorem of annotations
pub words_without_marks : {list list₂ text out : List ℕ} {ws : List Word} {r s : LinkAnswer} {a b : List ℕ} → HasWords list ws → HasWords list₂ (map without_its_marks ws)
    → Links list text out r a → Links list₂ text out s b → (s ≡ r) × (b ≡ a)
words_without_marks {list} {list₂} {text} {out} {ws} has has₂ call bare = same_calls bare call (go (link_case call))
  where
    by_plan : {p : Plan ℕ} → HasPlan text p → link_outcome standard list₂ text ≡ link_outcome standard list text
    by_plan {p} reads =
        by_linked_plan has₂ reads
        ∙ same_within _ _ (linked_alike (map without_its_marks ws) ws (stands_alike ws (words_right has)) p p refl) ∙ sym (by_linked_plan has reads)

    go : {r : LinkAnswer} {a : List ℕ} → LinkCase list text out r a → link_outcome standard list₂ text ≡ link_outcome standard list text
    go (bad_list bad) = not-both bad has
    go (bad_text own bad) = by_bad_text has₂ bad ∙ sym (by_bad_text has bad)
    go (over_full own reads over) = by_plan reads
    go (out_short own reads few short) = by_plan reads
    go (is_linked own reads few fits) = by_plan reads

-- and the words stay right
same_names : (t : List ℕ) (ws : List Word) → listed t (map without_its_marks ws) ≡ listed t ws
unfolding listed
same_names t [] = refl
same_names t (w ∷ older) = ap (same t (stock_token w) ||◌) (same_names t older)

same-uses : (t : List ℕ) (ws : List Word) → Right standard ws → used token_limit t (map without_its_marks ws) ≡ used token_limit t ws
unfolding used
same-uses t [] r = refl
same-uses t (w ∷ older) (one, r) = ap₂ ◌||◌ (its_tokens w (its_text older w one) t) (same-uses t older r)

-- a theorem of annotations
pub words_stay_right : (ws : List Word) → Right standard ws → Right standard (map without_its_marks ws)
unfolding right fits
words_stay_right [] r = tt
words_stay_right (w ∷ older) (one, r) =
    let fine = right-word standard older w one in
    let new = same_names (stock_token w) older ∙ fine.new in
    let unused = same-uses (stock_token w) (w ∷ older) (one, r) ∙ fine.unused in
    (rw (fine.named, new, still_acceptable w (its_text older w one), unused), words_stay_right older r)
