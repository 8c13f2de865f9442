-- How the code writes a linked plan: piece by piece, with a word's own linked text where its token stands. A word is written once. Where
-- its token comes again, the bytes that stand in the output are copied.
use Rattle.std.specs.Prelude.{ℕ, ◌+◌, ◌≤◌, ◌<◌, ◌≡◌, List, length, get_or, Option, Some, None}
use Rattle.plan.specs.Plan.{print}
use Rattle.plan.specs.declared.Size.{Size}
use Rattle.stored.specs.Spans.{part}
use Rattle.stored.specs.declared.Span.{Span}
use Rattle.words_shelf.specs.Shelf.{Readable, linked_text, linked_word}
use Rattle.words_shelf.specs.declared.WordAt.{WordAt}
use Rattle.words_measure.specs.Sizes.{SizesKnown}

-- bytes that stand in the output before a place
abbrev pub WrittenBefore : (out : List ℕ) → (put : ℕ) → Span → List ℕ → Type 0
WrittenBefore out put s bytes = (s.at + s.len ≤ put) × (part out s ≡ bytes)

-- what is remembered of a word is where its linked text stands
abbrev pub WordsPlaced : (list : List ℕ) → (words : List WordAt) → (places : List (Option Span)) → (out : List ℕ) → (put : ℕ) → Type 0
WordsPlaced list words places out put =
    (r : ℕ) (s : Span) → get_or places r None ≡ Some s → WrittenBefore out put s (print (linked_word list words r))

-- a text can be written at a place of the output, linked by the words of the ranks below n
pub record Writable (list : List ℕ) (words : List WordAt) (n : ℕ) (text : List ℕ) (sizes : List (Option Size)) (places : List (Option Span))
    (out : List ℕ) (put : ℕ) : Type 0 where
  pub reads : Readable text
  pub known : SizesKnown list words sizes
  pub placed : WordsPlaced list words places out put
  pub room : put + length (print (linked_text list words n text)) ≤ length out

-- the word of such a rank can be written
pub record WritableWord (list : List ℕ) (words : List WordAt) (n rank : ℕ) (sizes : List (Option Size)) (places : List (Option Span))
    (out : List ℕ) (put : ℕ) : Type 0 where
  pub below : rank < n
  pub known : SizesKnown list words sizes
  pub placed : WordsPlaced list words places out put
  pub room : put + length (print (linked_word list words rank)) ≤ length out

-- .. and what is remembered has a place for each of these words
pub record WritableLong (list : List ℕ) (words : List WordAt) (n : ℕ) (text : List ℕ) (sizes : List (Option Size)) (places : List (Option Span))
    (out : List ℕ) (put : ℕ) : Type 0 where
  pub writable : Writable list words n text sizes places out put
  pub sizes_long : n ≤ length sizes
  pub places_long : n ≤ length places

pub record WritableWordLong (list : List ℕ) (words : List WordAt) (n rank : ℕ) (sizes : List (Option Size)) (places : List (Option Span))
    (out : List ℕ) (put : ℕ) : Type 0 where
  pub writable : WritableWord list words n rank sizes places out put
  pub sizes_long : n ≤ length sizes
  pub places_long : n ≤ length places
