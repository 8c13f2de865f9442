-- The worked tokens. Some tokens are read. Each fault of request 1 stands at each place where it can: at the token's second, 62nd,
-- 63rd and 64th byte. So does the text's end. Characters have one to four bytes. Some rows have two faults that meet. Last come
-- annotations, which have the same faults.
use Rattle.std.specs.Prelude.{ℕ, ◌-◌, List, [], ◌∷◌, ◌++◌, length, replicate}
use Rattle.plan.specs.Plan.{open_brace, close_brace}
use Rattle.plan.specs.Token.{ampersand}
use Rattle.answers.specs.Worked.{WorkedRow}
use Rattle.numbers.specs.Rows.{bytes, five}

-- A text that begins with a token. The token's bytes from number n on, counted from 1, are these. Before these, its text is all x.
abbrev from_byte : (n : ℕ) → List ℕ → List ℕ
from_byte n bs = open_brace ∷ (replicate (n - 2) 0x78 ++ bs)

-- a token is read and printed as it stands
abbrev is_read : (n : ℕ) → List ℕ → WorkedRow
is_read n bs =
    let text = from_byte n (bs ++ close_brace ∷ []) in
    record { text = text; quota = 0; cells = 1; numbers = five 0 0 1 (length text) 0; printed = text }

-- a text is refused with a number and a place
abbrev refused : List ℕ → (number place : ℕ) → WorkedRow
refused text number place = record { text = text; quota = 0; cells = 1; numbers = five number 0 0 0 place; printed = [] }

-- a refused text whose token goes wrong at byte n or behind it; the text goes on with the token's `}`
abbrev wrong : (n : ℕ) → List ℕ → (number place : ℕ) → WorkedRow
wrong n bs number place = refused (from_byte n (bs ++ close_brace ∷ [])) number place

-- the same, with the text's end in place of the `}`
abbrev cut : (n : ℕ) → List ℕ → (number place : ℕ) → WorkedRow
cut n bs number place = refused (from_byte n bs) number place

-- Bytes that cannot stand in a token, put at its second, 62nd and 63rd byte. From there they may reach over the 64th. Put at the 64th, they
-- make the token too long. A `}` comes behind them, or the text ends.
abbrev at_each_byte : List ℕ → (number : ℕ) → List WorkedRow
at_each_byte bs number =
    wrong 2 bs number 1 ∷ wrong 62 bs number 61 ∷ wrong 63 bs number 62 ∷ wrong 64 bs 22 63 ∷
    cut 2 bs number 1 ∷ cut 62 bs number 61 ∷ cut 63 bs number 62 ∷ cut 64 bs 22 63 ∷ []

-- a character of two bytes, one of three and one of four
abbrev two : List ℕ
two = 0xC3 ∷ 0xA9 ∷ []

abbrev three : List ℕ
three = 0xE2 ∷ 0x82 ∷ 0xAC ∷ []

abbrev four : List ℕ
four = 0xF0 ∷ 0x9F ∷ 0x98 ∷ 0x80 ∷ []

-- nothing between the braces, whatever comes behind
abbrev empty_rows : List WorkedRow
empty_rows = wrong 2 [] 21 1 ∷ cut 2 (bytes "}{{}") 21 1 ∷ cut 2 (bytes "}#") 21 1 ∷ cut 2 (bytes "}]") 21 1 ∷ []

-- the text's end at each byte, also behind a character of two to four bytes
abbrev ended_rows : List WorkedRow
ended_rows =
    cut 2 [] 22 1 ∷ cut 62 [] 22 61 ∷ cut 63 [] 22 62 ∷ cut 64 [] 22 63 ∷
    cut 2 two 22 3 ∷ cut 2 three 22 4 ∷ cut 2 four 22 5 ∷
    cut 60 two 22 61 ∷ cut 61 two 22 62 ∷ cut 62 two 22 63 ∷ cut 63 two 22 63 ∷
    cut 60 three 22 62 ∷ cut 61 three 22 63 ∷ cut 62 three 22 63 ∷
    cut 59 four 22 62 ∷ cut 60 four 22 63 ∷ cut 61 four 22 63 ∷ []

-- good characters before the 64th byte, at it and over it
abbrev full_rows : List WorkedRow
full_rows =
    is_read 63 [] ∷ is_read 64 [] ∷ wrong 65 [] 22 63 ∷
    is_read 62 two ∷ wrong 63 two 22 63 ∷ wrong 64 two 22 63 ∷
    is_read 61 three ∷ wrong 62 three 22 63 ∷ wrong 63 three 22 63 ∷ wrong 64 three 22 63 ∷
    is_read 60 four ∷ wrong 61 four 22 63 ∷ wrong 62 four 22 63 ∷ wrong 63 four 22 63 ∷ wrong 64 four 22 63 ∷ []

-- bytes that begin no character: cut short, overlong, a surrogate, past the last, or with a brace where a byte should follow
abbrev utf8_rows : List WorkedRow
utf8_rows =
    at_each_byte (0x80 ∷ []) 23
    ++ at_each_byte (0xC3 ∷ []) 23
    ++ at_each_byte (0xE2 ∷ 0x82 ∷ []) 23
    ++ at_each_byte (0xF0 ∷ 0x9F ∷ 0x98 ∷ []) 23
    ++ at_each_byte (0xC1 ∷ 0xBF ∷ []) 23
    ++ at_each_byte (0xED ∷ 0xA0 ∷ 0x80 ∷ []) 23
    ++ at_each_byte (0xF4 ∷ 0x90 ∷ 0x80 ∷ 0x80 ∷ []) 23
    ++ at_each_byte (0xE2 ∷ open_brace ∷ []) 23

-- characters of one to three bytes that no token may hold; of four bytes there is none
abbrev forbidden_rows : List WorkedRow
forbidden_rows =
    at_each_byte (0x1F ∷ []) 24
    ++ at_each_byte (0x7F ∷ []) 24
    ++ at_each_byte (0xC2 ∷ 0x9F ∷ []) 24
    ++ at_each_byte (0xEF ∷ 0xBF ∷ 0xBD ∷ []) 24
    ++ is_read 2 (0x20 ∷ []) ∷ is_read 2 (0x7E ∷ []) ∷ is_read 2 (0xC2 ∷ 0xA0 ∷ []) ∷ is_read 2 (0xEF ∷ 0xBF ∷ 0xBC ∷ []) ∷
    is_read 2 (0xF4 ∷ 0x8F ∷ 0xBF ∷ 0xBF ∷ []) ∷ []

abbrev brace_rows : List WorkedRow
brace_rows = at_each_byte (open_brace ∷ []) 25

-- Two faults meet. The first by place is told. Against a byte or a `]` outside tokens, a token counts by the place of its
-- `{`. A token's fault comes before 16 and 17.
abbrev meeting_rows : List WorkedRow
meeting_rows =
    wrong 2 (0x1F ∷ open_brace ∷ []) 24 1 ∷ wrong 2 (open_brace ∷ 0x1F ∷ []) 25 1 ∷ wrong 2 (0x1F ∷ 0x80 ∷ []) 24 1 ∷
    wrong 2 (0x80 ∷ 0x1F ∷ []) 23 1 ∷
    refused (bytes "]{}") 15 0 ∷ refused (bytes "#{}") 13 0 ∷ refused (bytes "{x]") 22 3 ∷ refused (bytes "{x#") 22 3 ∷
    refused (bytes "[{}") 21 2 ∷ refused (bytes "{x}b{}") 21 5 ∷ []

-- An annotation. Its bytes from number n on, counted from 1, are these. Before these, its text is all x behind the `&`.
abbrev annotated : (n : ℕ) → List ℕ → List ℕ
annotated n bs = open_brace ∷ ampersand ∷ (replicate (n - 3) 0x78 ++ bs)

-- a text is read as the empty plan
abbrev is_nothing : List ℕ → WorkedRow
is_nothing text = record { text = text; quota = 0; cells = 0; numbers = five 0 0 0 0 0; printed = [] }

abbrev annotation_rows : List WorkedRow
annotation_rows =
    is_nothing (annotated 3 (close_brace ∷ [])) ∷ is_nothing (annotated 64 (close_brace ∷ [])) ∷ refused (annotated 65 (close_brace ∷ [])) 22 63 ∷
    refused (annotated 3 []) 22 2 ∷ refused (annotated 3 (0x80 ∷ close_brace ∷ [])) 23 2 ∷ refused (annotated 3 (0x1F ∷ close_brace ∷ [])) 24 2 ∷
    refused (annotated 3 (open_brace ∷ close_brace ∷ [])) 25 2 ∷ []

unfoldable pub worked_tokens : List WorkedRow
worked_tokens = empty_rows ++ ended_rows ++ full_rows ++ utf8_rows ++ forbidden_rows ++ brace_rows ++ meeting_rows ++ annotation_rows
