-- No word that the theorems of stock words are stated in is empty: an instance of each, on small lists. With a word that nothing meets,
-- the theorems about it would hold and say nothing.
use Prim.Native.Nat.{ℕ, zero, suc, ◌<◌}
use mathlib.Core.Path.{refl}
use mathlib.Core.List.{List, [], ◌∷◌, ◌++◌, map}
use native.Mathlib.Omega.{arith}
use lib.ListN.{length, replicate, length-replicate}
use Rattle.plan.specs.Read.{sized}
use Rattle.std.specs.Prelude.{Ok, Err}
use Rattle.kinds.specs.Limits.{text_limit}
use Rattle.plan.specs.declared.TextFault.TheVariants.{TooLong, Unmatched}
use Rattle.plan.specs.Plan.{Plan}
use Rattle.plan.specs.Reading.{enter, leave, place, without_marks}
use Rattle.numbers.specs.Rows.{bytes}
use Rattle.stored.specs.Same.{same}
use Rattle.words_meaning.specs.Answers.{link_numbers, link_refusal_numbers}
use Rattle.plan.proofs.Worked.{read_answer}
use Rattle.words_meaning.proofs.Worked.{worked_lists}
use Rattle.words_meaning.specs.Linking.{Word, holds}
use Rattle.words_meaning.specs.declared.LinkRefusal.TheVariants.{BadWords, Text, Overfull, OutShort}
use Rattle.words_link.specs.Calls.{Links}
use Rattle.turnip.specs.Arrays.{InArray, five_of}
use Rattle.words_theorems.specs.Lists.{BadList, FaultyWord, HasWords, bad_name, unacceptable_text, an_older, named_already, the_newest, no_name, used_already}
use Rattle.words_theorems.specs.Table.{AsAsked, HasFault, LinkRefuses, LinkedAs, row_11}
use Rattle.words_theorems.specs.Terms.{IsLinked, HasPlan, no_words, without_its_marks}
use Rattle.words_theorems.proofs.Cases.{linked_as, linked_by_words}
use Rattle.words_theorems.proofs.Lists.{right_exactly_when}
use Rattle.words_theorems.proofs.OneAnswer.{link_as_asked}
use Rattle.words_theorems.proofs.Refused.{badwords_exactly_when, link-refused}

-- a list's word, each part behind its count
abbrev in_list : (name text : List ℕ) → List ℕ
in_list name text = length name ∷ 0 ∷ 0 ∷ 0 ∷ (name ++ length text ∷ 0 ∷ 0 ∷ 0 ∷ text)

-- the word x, and z, which uses it twice
abbrev list : List ℕ
list = 2 ∷ 0 ∷ 0 ∷ 0 ∷ in_list (bytes "x") (bytes "[{y}]") ++ in_list (bytes "z") (bytes "{%x}{%x}")

abbrev text : List ℕ
text = bytes "{%z}[ {%x}]{%q}a"

abbrev out : List ℕ
out = replicate 24 7

-- a word of 64 cells, and 65 uses of it
abbrev big : List ℕ
big = 1 ∷ 0 ∷ 0 ∷ 0 ∷ in_list (bytes "x") (replicate 64 97)

unfoldable pub uses : ℕ → List ℕ
uses zero = []
uses (suc n) = bytes "{%x}" ++ uses n

-- a list with a word whose linked plan is too big, which is no fault
abbrev too_big : List ℕ
too_big = 3 ∷ 0 ∷ 0 ∷ 0 ∷ in_list (bytes "x") (replicate 64 97) ++ 1 ∷ 0 ∷ 0 ∷ 0 ∷ (bytes "z" ++ 4 ∷ 1 ∷ 0 ∷ 0 ∷ uses 65) ++ in_list (bytes "w") (bytes "a")

abbrev of : (name text : List ℕ) → Word
of name text = record { name = name; text = text }

-- one word with this text
abbrev annotated : (text : List ℕ) → List ℕ
annotated text = 1 ∷ 0 ∷ 0 ∷ 0 ∷ in_list (bytes "x") text

pub calls : Links list text out (Ok (sized 9 22)) (bytes "[{y}][{y}][[{y}]]{%q}a" ++ 7 ∷ 7 ∷ [])
    × Links list text [] (Err (OutShort 22)) []
    × Links list (bytes "{y}]") out (Err (Text (Unmatched (place 3)))) out
    × Links (1 ∷ 0 ∷ 0 ∷ []) text out (Err (BadWords 0)) out
    × Links (1 ∷ 1 ∷ 0 ∷ 0 ∷ []) text out (Err (BadWords 256)) out
    × Links (1 ∷ 0 ∷ 0 ∷ 0 ∷ 1 ∷ []) text out (Err (BadWords 0)) out
    × Links (2 ∷ 0 ∷ 0 ∷ 0 ∷ in_list (bytes "x") [] ++ in_list (bytes "x") []) text out (Err (BadWords 1)) out
    × Links (no_words ++ 0 ∷ []) text out (Err (BadWords 0)) out
    × Links big (uses 65) out (Err Overfull) out
    × Links (2 ∷ 0 ∷ 0 ∷ 0 ∷ in_list (bytes "x") (bytes "[{%z}]") ++ in_list (bytes "z") []) text out (Err (BadWords 1)) out
    × Links too_big (bytes "{%w}") out (Ok (sized 1 1)) (97 ∷ replicate 23 7)
    × Links (annotated (bytes "{&}{y}")) (bytes "{&a}{%x}") out (Ok (sized 1 3)) (bytes "{y}" ++ replicate 21 7)
unfolding worked_lists uses
calls = (
  record { wrote = record { answer = refl; output = refl } },
  record { wrote = record { answer = refl; output = refl } },
  record { wrote = record { answer = refl; output = refl } },
  record { wrote = record { answer = refl; output = refl } },
  record { wrote = record { answer = refl; output = refl } },
  record { wrote = record { answer = refl; output = refl } },
  record { wrote = record { answer = refl; output = refl } },
  record { wrote = record { answer = refl; output = refl } },
  record { wrote = record { answer = refl; output = refl } },
  record { wrote = record { answer = refl; output = refl } },
  record { wrote = record { answer = refl; output = refl } },
  record { wrote = record { answer = refl; output = refl } },
)

-- a list with an annotation in a word's text, and the list without it
pub annotated_lists : HasWords (annotated (bytes "{&}{y}")) (of (bytes "x") (bytes "{&}{y}") ∷ [])
    × HasWords (annotated (bytes "{y}")) (map without_its_marks (of (bytes "x") (bytes "{&}{y}") ∷ []))
unfolding calls without_marks enter leave
annotated_lists = ((right_exactly_when _ _).1 refl, (right_exactly_when _ _).1 refl)

-- a list at fault, in each of the ways
pub bad_lists : BadList (1 ∷ 0 ∷ 0 ∷ []) 0 × BadList (1 ∷ 1 ∷ 0 ∷ 0 ∷ []) 256 × BadList (1 ∷ 0 ∷ 0 ∷ 0 ∷ 1 ∷ []) 0
    × BadList (2 ∷ 0 ∷ 0 ∷ 0 ∷ in_list (bytes "x") [] ++ in_list (bytes "x") []) 1 × BadList (no_words ++ 0 ∷ []) 0
bad_lists = (
  (badwords_exactly_when calls.3 0).1 refl,
  (badwords_exactly_when calls.4 256).1 refl,
  (badwords_exactly_when calls.5 0).1 refl,
  (badwords_exactly_when calls.6 1).1 refl,
  (badwords_exactly_when calls.7 0).1 refl,
)

-- a word at fault, in each of the ways: `OneOf` in both of its own, and `Uses` in a block
pub faulty_words : FaultyWord [] (of [] []) × FaultyWord [] (of (bytes "{") []) × FaultyWord (of (bytes "z") [] ∷ of (bytes "x") [] ∷ []) (of (bytes "x") [])
    × FaultyWord [] (of (bytes "x") (bytes "{y}]")) × FaultyWord [] (of (bytes "x") (bytes "[{%x}]"))
unfolding read_answer holds same bytes
faulty_words = (
  no_name refl,
  bad_name refl,
  named_already (an_older (the_newest refl)),
  unacceptable_text refl,
  used_already (the_newest refl),
)

-- `HasWords`, with `WholeWords` in it, `HasPlan`, and what a call that links answers and leaves
pub a_linked_call : IsLinked (link_numbers (Ok (sized 9 22))) × ((ws : List Word) × (p : Plan ℕ) × HasWords list ws × HasPlan text p
    × LinkedAs out ws p (link_numbers (Ok (sized 9 22))) (bytes "[{y}][{y}][[{y}]]{%q}a" ++ 7 ∷ 7 ∷ []))
a_linked_call =
    let (ws, p, has, reads) = linked_by_words calls.0 refl in (refl, (ws, p, has, reads, linked_as calls.0 has reads refl))

-- a refused call by each row of the table
pub refused_calls : LinkRefuses (1 ∷ 0 ∷ 0 ∷ []) text out (BadWords 0) × LinkRefuses list (bytes "{y}]") out (Text (Unmatched (place 3)))
    × LinkRefuses big (uses 65) out Overfull × LinkRefuses list text [] (OutShort 22)
refused_calls = (
  (link-refused calls.3 (BadWords 0)).1 refl,
  (link-refused calls.2 (Text (Unmatched (place 3)))).1 refl,
  (link-refused calls.8 Overfull).1 refl,
  (link-refused calls.1 (OutShort 22)).1 refl,
)

-- and a text that is too long
pub too_long : (n : ℕ) → text_limit < n → HasFault (replicate n 32) TooLong
too_long n long = row_11 (omega (arith, length-replicate {A = ℕ} n 32))

-- five numbers stored over the C interface
pub five_in_array : InArray (λ r. five_of (link_numbers r)) (λ r. Links list text out r (bytes "[{y}][{y}][[{y}]]{%q}a" ++ 7 ∷ 7 ∷ [])) (3 ∷ 0 ∷ 9 ∷ 22 ∷ 0 ∷ [])
five_in_array = record { answer = Ok (sized 9 22); did = calls.0; told = refl }

-- and the whole table as one statement, in both of its ways
pub as_asked : AsAsked list text out (link_numbers (Ok (sized 9 22))) (bytes "[{y}][{y}][[{y}]]{%q}a" ++ 7 ∷ 7 ∷ [])
    × AsAsked list text [] (link_refusal_numbers (OutShort 22)) []
as_asked = (link_as_asked calls.0, link_as_asked calls.1)
