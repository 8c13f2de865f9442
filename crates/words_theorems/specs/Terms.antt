-- The words for what a caller of LINK sees, and for what the linked text is.
use Rattle.std.specs.Prelude.{ℕ, ◌≤◌, ◌≡◌, cond, List, [], ◌∷◌, eqb, length}
use Rattle.kinds.specs.Limits.{text_limit, token_limit}
use Rattle.numbers.specs.declared.Numbers.{Numbers}
use Rattle.plan.specs.Plan.{Plan}
use Rattle.plan.specs.Reading.{OUTSIDE, PLAN, read_bytes, without_marks}
use Rattle.words_meaning.specs.Linking.{Word, link_plan, stands_for}
use Rattle.demands.specs.Terms.{OVERFULL, READ}

-- the number of a bad list
abbrev pub BADWORDS : ℕ
BADWORDS = 26

-- the call linked the text
abbrev pub IsLinked : Numbers → Type 0
IsLinked told = told.number ≡ READ

-- the text is within its limit and reads as the plan p, however many cells that has
pub record HasPlan (text : List ℕ) (p : Plan ℕ) : Type 0 where
  pub short : length text ≤ text_limit
  pub reads : read_bytes token_limit text ≡ PLAN p

-- the plan, linked by these words
abbrev pub linked_by : List Word → Plan ℕ → Plan ℕ
linked_by ws p = link_plan (stands_for token_limit ws) p

-- the word with the marks taken out of its text
abbrev pub without_its_marks : Word → Word
without_its_marks w = record { name = w.name; text = without_marks OUTSIDE w.text }

-- the list of no words: a count of 0
abbrev pub no_words : List ℕ
no_words = 0 ∷ 0 ∷ 0 ∷ 0 ∷ []

-- the same numbers, except OVERFULL's place, which is 0
abbrev pub placeless : Numbers → Numbers
placeless n =
    record { number = n.number; steps = n.steps; cells = n.cells; length = n.length; place = cond (eqb n.number OVERFULL) 0 n.place }
