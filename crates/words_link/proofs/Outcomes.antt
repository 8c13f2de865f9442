-- What is answered is the outcome's answer: the list's fault, the text's, too many cells, too short an output, or the linked text.
use Prim.Native.Nat.{ℕ, zero, suc, ◌≤◌, ◌<◌}
use mathlib.Core.Path.{◌≡◌, ap, subst, ◌∙◌}
use mathlib.Core.Bool.{Bool, true, false, cond}
use mathlib.Core.List.{List}
use native.Mathlib.Omega.{arith}
use borrow.Author.Tests.{le-leb, lt-leb}
use lib.ListN.{length}
use Rattle.std.specs.Prelude.{Err, Ok, Some}
use Rattle.kinds.specs.Limits.{cell_limit, standard, token_limit}
use Rattle.plan.specs.Outcomes.{GIVES}
use Rattle.plan.specs.Plan.{Plan, cells, print}
use Rattle.plan.specs.Read.{sized}
use Rattle.plan.specs.Reading.{FAULT, PLAN, plan_of, read_text}
use Rattle.plan.specs.Token.{Allowed}
use Rattle.plan.specs.declared.Size.{Size}
use Rattle.plan.specs.declared.TextFault.{TextFault}
use Rattle.plan.proofs.Outcomes.{wrote_fits, wrote_refused, wrote_short}
use Rattle.plan.proofs.Pieces.{shows_allowed}
use Rattle.plan.proofs.ReadBack.{print-bound}
use Rattle.kinds.specs.Written.{put_at}
use Rattle.kinds.proofs.Putting.{put_front}
use Rattle.kinds.proofs.Tests.{never}
use Rattle.stored.specs.Same.{same}
use Rattle.words_meaning.specs.Answers.{LinkAnswer, link_by, link_family, link_read, link_outcome, linked_within}
use Rattle.words_meaning.specs.Linking.{link_plan, stands_for, stock_token}
use Rattle.words_meaning.specs.Stock.{LIST_FAULT as LIST_FAULT, WORDS, stock}
use Rattle.words_meaning.specs.declared.LinkRefusal.TheVariants.{BadWords, Text, Overfull, OutShort}
use Rattle.words_meaning.proofs.Linked.{allowed-link}
use Rattle.words_shelf.specs.Shelf.{Readable, linked_text, stands_to}
use Rattle.words_shelf.specs.Words.{Shelved, word_of, words_to}
use Rattle.words_shelf.specs.declared.WordAt.{WordAt}
use Rattle.words_shelf.proofs.StandsFor.{word_reads}
use Rattle.words_measure.specs.Sizes.{size}
use Rattle.words_link.specs.Calls.{Links}
use Rattle.words_link.specs.Parts.{WroteLinked}
use Rattle.words_link.proofs.TextReads.{reads_plan}

-- a text that reads has allowed tokens, and so has what it links to
readable_allowed : {text : List ℕ} → Readable text → Allowed token_limit (plan_of token_limit text)
readable_allowed {text} r = shows_allowed (plan_of token_limit text) r.shows

module _ (list : List ℕ) (words : List WordAt) where
  stands_allowed : (n : ℕ) → Shelved list words n → (t : List ℕ) (q : Plan ℕ) → stands_to list words n t ≡ Some q → Allowed token_limit q
  unfolding words_to stands_for
  stands_allowed zero s t q e = never cc
  stands_allowed (suc n) s t q e = go (same t (stock_token (word_of list words n))) e (stands_allowed n (λ r h. s r (omega arith)))
    where
      older : Plan ℕ
      older = link_plan (λ u. stands_to list words n u) (plan_of token_limit (word_of list words n).text)

      go : (b : Bool) → cond b (Some older) (stands_to list words n t) ≡ Some q
          → ((u : List ℕ) (z : Plan ℕ) → stands_to list words n u ≡ Some z → Allowed token_limit z) → Allowed token_limit q
      go true h more =
          let is : older ≡ q = cc in
          subst (λ z. Allowed token_limit z) is
          (allowed-link (λ u. stands_to list words n u) token_limit (plan_of token_limit (word_of list words n).text) (readable_allowed (word_reads list words s n (omega arith))) more)
      go false h more = more t q h

  module _ {n : ℕ} (s : Shelved list words n) {text : List ℕ} (r : Readable text) where
    fine : Allowed token_limit (linked_text list words n text)
    unfolding linked_text
    fine = allowed-link (stands_to list words n) token_limit (plan_of token_limit text) (readable_allowed r) (stands_allowed n s)

    module _ {w : Size} (measures : w ≡ size (linked_text list words n text)) where
      -- past the limit
      pub link_overfull : (out : List ℕ) → cell_limit < w.cells → WroteLinked list words n text out (Err Overfull) out
      unfolding size linked_within
      link_overfull out h =
          wrote_refused link_family out (rw (lt-leb (cells (linked_text list words n text)) cell_limit (omega (arith, ap (λ (x : Size). x.cells) measures))))

      module _ (h : w.cells ≤ cell_limit) where
        cells_are : w.cells ≡ cells (linked_text list words n text)
        unfolding size
        cells_are = omega (arith, ap (λ (x : Size). x.cells) measures)

        pub length_is : w.length ≡ length (print (linked_text list words n text))
        unfolding size
        length_is =
            omega (arith, ap (λ (x : Size). x.length) measures, cells_are, print-bound token_limit (linked_text list words n text) (omega arith) fine)

        gives : linked_within standard (linked_text list words n text) ≡ GIVES tt w.cells (print (linked_text list words n text))
        unfolding linked_within
        gives = rw (le-leb (cells (linked_text list words n text)) cell_limit (omega (arith, cells_are)), cells_are)

        pub link_short : (out : List ℕ) → length out < w.length → WroteLinked list words n text out (Err (OutShort w.length)) out
        link_short out l = rw length_is (wrote_short link_family out gives (omega (arith, length_is)))

        pub link-written : (out : List ℕ) → w.length ≤ length out → {out' : List ℕ} → out' ≡ put_at out 0 (print (linked_text list words n text))
            → WroteLinked list words n text out (Ok w) out'
        link-written out room e =
            let fits = wrote_fits link_family out gives (omega (arith, length_is)) in
            record {
              answer = ap (λ l. Ok (sized w.cells l)) length_is ∙ fits.answer;
              output = e ∙ put_front (print (linked_text list words n text)) out ∙ fits.output;
            }

-- a list with a fault, and one that is right
module _ (list text out : List ℕ) where
  pub list_bad : {rank : ℕ} → stock standard list ≡ LIST_FAULT rank → Links list text out (Err (BadWords rank)) out
  unfolding link_outcome link_by
  list_bad e = record { wrote = wrote_refused link_family out (rw e) }

  module _ (list' : List ℕ) (words : List WordAt) (n : ℕ) (right : stock standard list ≡ WORDS (words_to list' words n)) where
    -- the text has a fault
    pub text_bad : {f : TextFault} → read_text standard text ≡ FAULT f → Links list text out (Err (Text f)) out
    unfolding link_outcome link_by link_read
    text_bad e = record { wrote = wrote_refused link_family out (rw (right, e)) }

    -- and a text that reads
    pub text_right : {p : Plan ℕ} → read_text standard text ≡ PLAN p → {r : LinkAnswer} {out' : List ℕ} → WroteLinked list' words n text out r out'
        → Links list text out r out'
    unfolding link_outcome link_by link_read linked_text
    text_right e w = record { wrote = rw (right, reads_plan text e) w }
