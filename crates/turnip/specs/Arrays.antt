-- What a call over the C interface did: what a call of its service did, with the answer told by five numbers in the array lent
-- for them. One record serves every service: it takes the five numbers of an answer, and what the service promises of its answer.
use Rattle.std.specs.Prelude.{ℕ, ◌≡◌, List, [], ◌∷◌}
use Rattle.numbers.specs.declared.Numbers.{Numbers}
use Rattle.answers.specs.Run.{run_numbers}
use Rattle.run.specs.Calls.{Runs}

-- the order in which the array has them
abbrev pub five_of : Numbers → List ℕ
five_of n = n.number ∷ n.steps ∷ n.cells ∷ n.length ∷ n.place ∷ []

pub record InArray {A : Type 0} (numbers : A → List ℕ) (Did : A → Type 0) (array : List ℕ) : Type 0 where
  pub answer : A
  pub did : Did answer
  pub told : array ≡ numbers answer

-- RUN over the C interface, with every number and byte that was lent
abbrev pub RunsInArray : (text : List ℕ) → (quota : ℕ) → (memory out memory' out' array : List ℕ) → Type 0
RunsInArray text quota memory out memory' out' array = InArray (λ r. five_of (run_numbers r)) (λ r. Runs text quota memory out r memory' out') array
