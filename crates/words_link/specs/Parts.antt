-- What the parts of linking promise each other.
use Rattle.std.specs.Prelude.{ℕ, List}
use Rattle.kinds.specs.Limits.{standard}
use Rattle.plan.specs.Outcomes.{Wrote}
use Rattle.words_meaning.specs.Answers.{LinkAnswer, link_family, linked_within}
use Rattle.words_shelf.specs.Shelf.{linked_text}
use Rattle.words_shelf.specs.declared.WordAt.{WordAt}

-- what was answered and written for a text that reads, linked by the words of the ranks below n
abbrev pub WroteLinked : (list : List ℕ) → (words : List WordAt) → (n : ℕ) → (text out : List ℕ) → LinkAnswer → (out' : List ℕ) → Type 0
WroteLinked list words n text out r out' = Wrote link_family (linked_within standard (linked_text list words n text)) out r out'
