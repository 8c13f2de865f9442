-- No second answer: two calls of LINK with the same list, text and output, each as the contract says, answer the same five numbers and
-- leave the same output, byte for byte. There is no exception.
use Prim.Native.Nat.{ℕ}
use mathlib.Core.Path.{◌≡◌, ap, ap₂, sym, ◌∙◌}
use mathlib.Core.Logic.{◌⊎◌, inl, inr}
use mathlib.Core.List.{List, ◌++◌}
use lib.ListN.{drop, length, take-append-drop}
use Rattle.numbers.specs.declared.Numbers.{Numbers}
use Rattle.plan.specs.Plan.{Plan, print}
use Rattle.plan.proofs.Outcomes.{wrote_once}
use Rattle.words_meaning.specs.Answers.{link_family, link_numbers, link_refusal_numbers, LinkAnswer}
use Rattle.words_meaning.specs.Linking.{Word}
use Rattle.words_link.specs.Calls.{Links}
use Rattle.turnip.specs.Arrays.{InArray, five_of}
use Rattle.demands.specs.Terms.{IsRefusal}
use Rattle.words_theorems.specs.Table.{AsAsked, LinkedAs, linked, refused}
use Rattle.words_theorems.specs.Terms.{IsLinked, linked_by}
use Rattle.words_theorems.proofs.Cases.{call_linked, linked_as, linked_by_words}
use Rattle.words_theorems.proofs.Refused.{every_link-answered, link-refused, linked_or_refused, refusal_changes_nothing}

-- a theorem of stock words
pub link-one_answer : {list text out : List ℕ} {r s : LinkAnswer} {a b : List ℕ} → Links list text out r a → Links list text out s b → (r ≡ s) × (a ≡ b)
link-one_answer g h = wrote_once link_family g.wrote h.wrote

-- Over the C interface, where the answer is told by five numbers in the caller's array, as well; they tell the answer (`same_answer`).
-- a theorem of stock words
pub link_array_once : {list text out a b array array₂ : List ℕ} → InArray (λ r. five_of (link_numbers r)) (λ r. Links list text out r a) array
    → InArray (λ r. five_of (link_numbers r)) (λ r. Links list text out r b) array₂ → (array ≡ array₂) × (a ≡ b)
link_array_once g h =
    let same = link-one_answer g.did h.did in (g.told ∙ ap (λ r. five_of (link_numbers r)) same.0 ∙ sym h.told, same.1)

-- The table leaves one answer too: a version that refuses where no row says so, links by other words, or tells other cells meets it only
-- where it answers as LINK does.
-- a theorem of stock words
pub link_as_asked : {list text out : List ℕ} {r : LinkAnswer} {out' : List ℕ} → Links list text out r out' → AsAsked list text out (link_numbers r) out'
link_as_asked {list} {text} {out} {r} {out'} call = go (linked_or_refused call)
  where
    go : IsLinked (link_numbers r) ⊎ IsRefusal link_refusal_numbers (link_numbers r) → AsAsked list text out (link_numbers r) out'
    go (inl h) = let (ws, p, has, reads) = linked_by_words call h in linked has reads (linked_as call has reads h)
    go (inr (x, e)) = refused ((link-refused call x).1 e) e (refusal_changes_nothing call (x, e)).3

-- the text first and the other bytes as they were: that is all of the output
all_left : {out : List ℕ} {ws : List Word} {p : Plan ℕ} {told : Numbers} {out' : List ℕ} → LinkedAs out ws p told out'
    → out' ≡ print (linked_by ws p) ++ drop (length (print (linked_by ws p))) out
all_left {out} {told = told} {out' = out'} x =
    sym (take-append-drop told.length out')
    ∙ ap₂ ◌++◌ x.first (x.untouched ∙ ap (λ k. drop k out) (ap (λ (v : Numbers). v.length) x.numbers))

-- a theorem of stock words
pub one_as_asked : {list text out : List ℕ} {m n : Numbers} {a b : List ℕ} → AsAsked list text out m a → AsAsked list text out n b → (m ≡ n) × (a ≡ b)
one_as_asked {list} {text} {out} g h =
    let (r, left, call) = every_link-answered list text out in
    let one = as_called call g in
    let other = as_called call h in (one.0 ∙ sym other.0, one.1 ∙ sym other.1)
  where
    as_called : {r : LinkAnswer} {left : List ℕ} {m : Numbers} {a : List ℕ} → Links list text out r left → AsAsked list text out m a
        → (m ≡ link_numbers r) × (a ≡ left)
    as_called call (refused {x = x} row told same) =
        let e = (link-refused call x).0 row in (told ∙ sym e, same ∙ sym (refusal_changes_nothing call (x, e)).3)
    as_called call (linked has reads x) =
        let y = linked_as call has reads (call_linked call has reads x.few x.fits) in
        (x.numbers ∙ sym y.numbers, all_left x ∙ sym (all_left y))
