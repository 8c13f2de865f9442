-- The three limits of document 01 and how many numbers a cell has, each written here once. Every definition takes its limits as arguments;
-- only the services put these numbers in.
use Rattle.std.specs.Prelude.{ℕ}

-- the bytes of a token, both braces among them
abbrev pub token_limit : ℕ
token_limit = 64

-- the cells of a plan
abbrev pub cell_limit : ℕ
cell_limit = 4096

-- the numbers of the work memory that are lent for one cell
abbrev pub cell_numbers : ℕ
cell_numbers = 4

-- the bytes of a text
abbrev pub text_limit : ℕ
text_limit = 1048576

-- the limits that reading takes as arguments, and the standard ones
pub record Limits : Type 0 where
  pub token : ℕ
  pub cells : ℕ
  pub text : ℕ

abbrev pub standard : Limits
standard = record { token = token_limit; cells = cell_limit; text = text_limit }
