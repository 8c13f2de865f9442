-- The words of a list, by where each of them stands in it.
use Rattle.std.specs.Prelude.{ℕ, zero, suc, ◌≡◌, ◌<◌, Bool, true, false, List, [], ◌∷◌, get_or}
use Rattle.kinds.specs.Limits.{standard}
use Rattle.plan.specs.Reading.{FAULT, PLAN, Reading, read_text}
use Rattle.stored.specs.Spans.{SpanWithin, part, span}
use Rattle.words_meaning.specs.Linking.{Word}
use Rattle.words_shelf.specs.declared.WordAt.{WordAt}

-- the word that stands there
abbrev pub word_in : (list : List ℕ) → WordAt → Word
word_in list w = record { name = part list w.name; text = part list w.text }

-- where the word of a rank stands, and that word
abbrev pub word_at : (words : List WordAt) → (rank : ℕ) → WordAt
word_at words rank = get_or words rank (record { name = span 0 0; text = span 0 0 })

unfoldable pub word_of : (list : List ℕ) → (words : List WordAt) → (rank : ℕ) → Word
word_of list words rank = word_in list (word_at words rank)

-- the words of the ranks below n, the newest first
unfoldable pub words_to : (list : List ℕ) → (words : List WordAt) → (n : ℕ) → List Word
words_to list words zero = []
words_to list words (suc n) = word_of list words n ∷ words_to list words n

-- whether a text reads as a plan, however many cells that has; as a test, since what a shelf promises of its words has one proof at most
unfoldable pub is_plan : Reading → Bool
is_plan (PLAN p) = true
is_plan (FAULT f) = false

-- its bytes are all there, and its text reads
abbrev pub WordKept : (list : List ℕ) → WordAt → Type 0
WordKept list w = SpanWithin list w.name × SpanWithin list w.text × (is_plan (read_text standard (part list w.text)) ≡ true)

-- so are all the words of the ranks below n
abbrev pub Shelved : (list : List ℕ) → (words : List WordAt) → (n : ℕ) → Type 0
Shelved list words n = (r : ℕ) → r < n → WordKept list (word_at words r)
