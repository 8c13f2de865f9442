-- Lists and texts to try, and what linking answers. A word is used twice, in a block, and by another word. One word is not listed, and one
-- is empty. Texts have annotations. Each refusal that comes after the list's is there, except 11, and each kind of fault with its rank.
-- Plans may have 4 cells here, so that a small one is too large.
use Rattle.std.specs.Prelude.{ℕ, List, [], ◌∷◌, ◌++◌, length, drop, replicate, take}
use Prim.Native.String.{String}
use Rattle.kinds.specs.Limits.{Limits, text_limit, token_limit}
use Rattle.plan.specs.Outcomes.{write}
use Rattle.numbers.specs.Rows.{Told, bytes, five}
use Rattle.numbers.specs.declared.Numbers.{Numbers}
use Rattle.stored.specs.Counted.{four_bytes, with_count}
use Rattle.words_meaning.specs.Answers.{link_family, link_numbers, link_outcome}

-- one word as it is stored, and a list of words behind a count
abbrev pub stored_word : (name text : String) → List ℕ
stored_word name text = with_count (bytes name) ++ with_count (bytes text)

unfoldable pub stored_list : (count : ℕ) → List (List ℕ) → List ℕ
stored_list count [] = four_bytes count
stored_list count (w ∷ ws) = stored_list count ws ++ w

pub record LinkRow : Type 0 where
  pub list : List ℕ
  pub text : List ℕ
  pub room : ℕ
  pub numbers : Numbers
  pub printed : List ℕ

-- the words, the last first; the text; cells, length and the printed text of the linked plan
abbrev pub row_linked : (count : ℕ) → List (List ℕ) → String → (cells length : ℕ) → String → LinkRow
row_linked count words text cells length printed =
    record { list = stored_list count words; text = bytes text; room = 20; numbers = five 3 0 cells length 0; printed = bytes printed }

-- .. or the number and the place of a refusal, with an output of so many bytes
abbrev pub row_refused : (list : List ℕ) → String → (room number place : ℕ) → LinkRow
row_refused list text room number place = record { list = list; text = bytes text; room = room; numbers = five number 0 0 0 place; printed = [] }

abbrev pub row_bad_list : (count : ℕ) → List (List ℕ) → (rank : ℕ) → LinkRow
row_bad_list count words rank = row_refused (stored_list count words) "]" 20 26 rank

unfoldable pub worked_links : List LinkRow
worked_links =
    row_linked 0 [] "a [ ] {%s}" 3 7 "a[]{%s}" ∷
    row_linked 1 (stored_word "s" "{x}" ∷ []) "{%s}{%s}" 2 6 "{x}{x}" ∷
    row_linked 1 (stored_word "s" "{x} b" ∷ []) "[[{%s}]]" 4 8 "[[{x}b]]" ∷
    row_linked 1 (stored_word "s" "a" ∷ []) "{%s}{%t}{s}{%}" 4 11 "a{%t}{s}{%}" ∷
    row_linked 2 (stored_word "t" "[{%s}]{%s}" ∷ stored_word "s" "c" ∷ []) "{%t}" 3 4 "[c]c" ∷
    row_linked 1 (stored_word "s" " " ∷ []) "{%s}[{%s}]{%s}{%s}{%s}{%s}" 1 2 "[]" ∷
    row_linked 2 (stored_word "t" "{%s}{%s}" ∷ stored_word "s" "abc" ∷ []) "{%s}" 3 3 "abc" ∷
    row_linked 2 (stored_word "t" "{&a}[{%s}]{&%t}" ∷ stored_word "s" "{&}c" ∷ []) "{&b}{%t}{&%u}" 2 3 "[c]" ∷
    row_linked 1 (stored_word "s" "{&a}{&b}" ∷ []) "{%s}[{%s}]{&}" 1 2 "[]" ∷
    row_refused (stored_list 1 (stored_word "s" "abc" ∷ [])) "{%s}{%s}" 20 17 0 ∷
    row_refused (stored_list 1 (stored_word "s" "abc" ∷ [])) "{%s}{%s}]" 20 15 8 ∷
    row_refused (stored_list 1 (stored_word "s" "abc" ∷ [])) "{%s}x" 20 13 4 ∷
    row_refused (stored_list 1 (stored_word "s" "abc" ∷ [])) "{%s}{}" 20 21 5 ∷
    row_refused (stored_list 1 (stored_word "s" "abc" ∷ [])) "[{%s}" 20 16 5 ∷
    row_refused (stored_list 1 (stored_word "s" "{x}" ∷ [])) "{%s}" 2 18 3 ∷
    row_bad_list 257 [] 256 ∷
    row_refused (1 ∷ 0 ∷ 0 ∷ []) "]" 20 26 0 ∷
    row_bad_list 2 (stored_word "s" "a" ∷ []) 1 ∷
    row_refused (take 13 (stored_list 1 (stored_word "s" "ab" ∷ []))) "]" 20 26 0 ∷
    row_bad_list 1 (stored_word "t" "a" ∷ stored_word "s" "a" ∷ []) 1 ∷
    row_bad_list 2 (stored_word "" "a" ∷ stored_word "s" "a" ∷ []) 1 ∷
    row_bad_list 2 (stored_word "}" "a" ∷ stored_word "s" "a" ∷ []) 1 ∷
    row_bad_list 3 (stored_word "s" "b" ∷ stored_word "t" "" ∷ stored_word "s" "a" ∷ []) 2 ∷
    row_bad_list 2 (stored_word "t" "]" ∷ stored_word "s" "a" ∷ []) 1 ∷
    row_bad_list 2 (stored_word "t" "abcda" ∷ stored_word "s" "a" ∷ []) 1 ∷
    row_bad_list 2 (stored_word "t" "{&{}" ∷ stored_word "s" "{&}" ∷ []) 1 ∷
    row_bad_list 1 (stored_word "s" "[{%s}]" ∷ []) 0 ∷
    row_bad_list 3 (stored_word "u" "a" ∷ stored_word "t" "" ∷ stored_word "s" "[{%u}]" ∷ []) 2 ∷
    row_bad_list 3 (stored_word "u" "]" ∷ stored_word "t" "" ∷ stored_word "s" "{%u}{%t}" ∷ []) 1 ∷ []

-- plans of 4 cells at most; an output's bytes each held 7
abbrev pub small : Limits
small = record { token = token_limit; cells = 4; text = text_limit }

unfoldable pub row_output : LinkRow → List ℕ
row_output r = replicate r.room 7

unfoldable pub link_told : LinkRow → Told
link_told r =
    let w = write link_family (link_outcome small r.list r.text) (row_output r) in
    record { says = link_numbers w.answer; holds = w.output }

unfoldable pub link_expected : LinkRow → Told
link_expected r = record { says = r.numbers; holds = r.printed ++ drop (length r.printed) (row_output r) }
