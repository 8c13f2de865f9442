-- Stock words: what a token `{%name}` stands for, and linking, which puts that where the token stands. Words are given the newest first, so
-- that the words before a word are the rest of the list.
use Rattle.std.specs.Prelude.{ℕ, Bool, false, cond, ◌||◌, List, [], ◌∷◌}
use Rattle.std.specs.Prelude.{Option, None, Some}
use Rattle.plan.specs.Plan.{Plan, end, operator, token, block, ◌then◌}
use Rattle.plan.specs.Reading.{plan_of}
use Rattle.stored.specs.Same.{same}

pub record Word : Type 0 where
  pub name : List ℕ
  pub text : List ℕ

-- the bytes between the braces of a word's token: `%` and its name
abbrev pub percent : ℕ
percent = 37

abbrev pub stock_token : Word → List ℕ
stock_token w = percent ∷ w.name

-- the items that a token stands for, put into its sequence; a token that stands for none stays
unfoldable pub in_place : {L : Type 0} → Option (Plan L) → L → List ℕ → Plan L → Plan L
in_place None l t p = token l t p
in_place (Some q) l t p = q then p

unfoldable pub link_plan : {L : Type 0} → (stands : List ℕ → Option (Plan L)) → Plan L → Plan L
link_plan stands end = end
link_plan stands (operator l o p) = operator l o (link_plan stands p)
link_plan stands (token l t p) = in_place (stands t) l t (link_plan stands p)
link_plan stands (block l b p) = block l (link_plan stands b) (link_plan stands p)

-- what a token stands for by these words: the plan of the word that it names, linked by the words before that one
unfoldable pub stands_for : (limit : ℕ) → List Word → List ℕ → Option (Plan ℕ)
stands_for limit [] t = None
stands_for limit (w ∷ older) t =
    let earlier = stands_for limit older t in
    cond (same t (stock_token w)) (Some (link_plan (λ u. stands_for limit older u) (plan_of limit w.text))) earlier

-- a token with the text t stands in the plan, at any depth
unfoldable pub holds : {L : Type 0} → (t : List ℕ) → Plan L → Bool
holds t end = false
holds t (operator l o p) = holds t p
holds t (token l u p) = same t u || holds t p
holds t (block l b p) = holds t b || holds t p

-- one of the words has this token, and one of them uses it
unfoldable pub listed : (t : List ℕ) → List Word → Bool
listed t [] = false
listed t (w ∷ older) = same t (stock_token w) || listed t older

unfoldable pub used : (limit : ℕ) → (t : List ℕ) → List Word → Bool
used limit t [] = false
used limit t (w ∷ older) = holds t (plan_of limit w.text) || used limit t older
