-- What is kept on disk is made of two things, here and in every request that stores: a number in four bytes, lowest first, and bytes behind
-- their count. Each is read from the front of some bytes; or the bytes are cut before its end.
use Rattle.std.specs.Prelude.{ℕ, ◌+◌, ◌*◌, ◌/◌, ◌%◌, cond, List, [], ◌∷◌, ◌++◌, leb, length, take, drop}

-- what stands at the front, and the bytes behind it
pub data AtFront (A : Type 0) : Type 0 where
  CUT : AtFront A
  FRONT : A → (rest : List ℕ) → AtFront A

-- one thing, then what is read from the bytes behind it
unfoldable pub then_read : {A B : Type 0} → AtFront A → (A → List ℕ → AtFront B) → AtFront B
then_read CUT go = CUT
then_read (FRONT a rest) go = go a rest

-- the largest number that four bytes hold
abbrev pub largest : ℕ
largest = 4294967295

abbrev pub four : (a b c d : ℕ) → ℕ
four a b c d = a + 256 * b + 65536 * c + 16777216 * d

unfoldable pub number : List ℕ → AtFront ℕ
number [] = CUT
number (a ∷ []) = CUT
number (a ∷ b ∷ []) = CUT
number (a ∷ b ∷ c ∷ []) = CUT
number (a ∷ b ∷ c ∷ d ∷ rest) = FRONT (four a b c d) rest

unfoldable pub so_many : ℕ → List ℕ → AtFront (List ℕ)
so_many n bs = cond (leb n (length bs)) (FRONT (take n bs) (drop n bs)) CUT

unfoldable pub counted : List ℕ → AtFront (List ℕ)
counted bs = then_read (number bs) so_many

-- counted bytes twice in a row, and what is made of the two
unfoldable pub two_counted : {A : Type 0} → (List ℕ → List ℕ → A) → List ℕ → AtFront A
two_counted f bs = then_read (counted bs) (λ one rest. then_read (counted rest) (λ two later. FRONT (f one two) later))

-- a number, and bytes behind their count, written
unfoldable pub four_bytes : ℕ → List ℕ
four_bytes n = n % 256 ∷ n / 256 % 256 ∷ n / 65536 % 256 ∷ n / 16777216 % 256 ∷ []

unfoldable pub with_count : List ℕ → List ℕ
with_count bs = four_bytes (length bs) ++ bs
