-- A word that is written: copied from where it stands in the output, or written by the words before it, and then its place is remembered.
use Prim.Native.Nat.{ℕ, ◌+◌, ◌-◌, ◌≤◌, ◌<◌}
use mathlib.Core.Path.{◌≡◌, refl, ap, sym, subst, ◌∙◌}
use mathlib.Core.List.{List, []}
use native.Mathlib.Omega.{arith}
use lib.ListN.{length, set}
use Rattle.std.specs.Prelude.{Option, Some}
use Rattle.plan.specs.Plan.{Plan, end, operator, token, block, cells, print}
use Rattle.plan.specs.declared.Size.{Size}
use Rattle.kinds.specs.Written.{put_at}
use Rattle.kinds.proofs.Putting.{put_long}
use Rattle.stored.specs.Spans.{part, span}
use Rattle.stored.specs.declared.Span.{Span}
use Rattle.stored.proofs.Pairs.{part_long}
use Rattle.words_shelf.specs.Shelf.{linked_word}
use Rattle.words_shelf.specs.Words.{Shelved, word_of}
use Rattle.words_shelf.specs.declared.WordAt.{WordAt}
use Rattle.words_shelf.proofs.Noting.{noted-right}
use Rattle.words_shelf.proofs.StandsFor.{word_reads}
use Rattle.words_measure.specs.Sizes.{size}
use Rattle.words_write.specs.Writing.{WordsPlaced, Writable, WritableLong, WritableWord, WritableWordLong, WrittenBefore}
use Rattle.words_write.proofs.WrittenBefore.{stands_here, stands_on}

-- a plan of no cells prints nothing
pub nothing_printed : (p : Plan ℕ) {w : Size} → size p ≡ w → w.cells ≡ 0 → print p ≡ []
unfolding size cells print
nothing_printed end e h = refl
nothing_printed (operator l o p) e h = absurd (omega (arith, ap (λ (w : Size). w.cells) e))
nothing_printed (token l t p) e h = absurd (omega (arith, ap (λ (w : Size). w.cells) e))
nothing_printed (block l b p) e h = absurd (omega (arith, ap (λ (w : Size). w.cells) e))

module _ {list : List ℕ} {words : List WordAt} {n rank : ℕ} {sizes : List (Option Size)} {places : List (Option Span)} {out : List ℕ} {put : ℕ}
    (can : WritableWord list words n rank sizes places out put) where
  abbrev bytes : List ℕ
  bytes = print (linked_word list words rank)

  -- it stands in the output
  module _ (s : Span) (stands : WrittenBefore out put s (print (linked_word list words rank))) where
    long : s.len ≡ length bytes
    long = sym (part_long out s (omega (arith, can.room, stands.0))) ∙ ap length stands.1

    pub copied_fits : (s.at + s.len ≤ put) × (put + s.len ≤ length out)
    copied_fits = (stands.0, omega (arith, can.room, long))

    pub copied_behind : {end : ℕ} → end ≡ put + s.len → end ≡ put + length (print (linked_word list words rank))
    copied_behind e = e ∙ ap (put +◌) long

    pub copied_word : {out' : List ℕ} → out' ≡ put_at out put (part out s) → out' ≡ put_at out put (print (linked_word list words rank))
    copied_word e = e ∙ ap (put_at out put) stands.1

    pub copied_placed : {out' : List ℕ} {end : ℕ} → end ≡ put + s.len → out' ≡ put_at out put (part out s) → WordsPlaced list words places out' end
    copied_placed f e r t noted =
        rw (copied_word e, copied_behind f) (stands_on out put (omega (arith, can.room)) bytes t _ (put_long out put bytes can.room) (can.placed r t noted))

  -- its text can be written by the words before it
  pub text_writable : Shelved list words n → Writable list words rank (word_of list words rank).text sizes places out put
  unfolding linked_word
  text_writable s = record { reads = word_reads list words s rank can.below; known = can.known; placed = can.placed; room = can.room }

  -- its place is remembered
  pub word_placed : (places' : List (Option Span)) {out' : List ℕ} {end : ℕ} → end ≡ put + length (print (linked_word list words rank))
      → out' ≡ put_at out put (print (linked_word list words rank)) → rank < length places' → WordsPlaced list words places' out' end
      → WordsPlaced list words (set places' rank (Some (span put (end - put)))) out' end
  word_placed places' {out'} {end} f e room placed =
      let here = stands_here out put (omega (arith, can.room)) bytes (span put (end - put)) refl (omega arith) in
      noted-right (λ k s. WrittenBefore out' end s (print (linked_word list words k))) places' rank room placed
      (subst (λ l. WrittenBefore l end (span put (end - put)) bytes) (sym e)
      (subst (λ m. WrittenBefore (put_at out put bytes) m (span put (end - put)) bytes) (sym f) here))

-- .. and what is remembered has a place for each of these
pub text_writable_long : {list : List ℕ} {words : List WordAt} {n rank : ℕ} {sizes : List (Option Size)} {places : List (Option Span)} {out : List ℕ} {put : ℕ}
    (can : WritableWordLong list words n rank sizes places out put) → Shelved list words n
    → WritableLong list words rank (word_of list words rank).text sizes places out put
text_writable_long can s =
    let below = can.writable.below in
    record {
      writable = text_writable can.writable s;
      sizes_long = omega (arith, below, can.sizes_long);
      places_long = omega (arith, below, can.places_long);
    }
