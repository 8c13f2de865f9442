-- An output with bytes in it, whatever they are: the rest of it is as it was.
use Rattle.std.specs.Prelude.{ℕ, ◌+◌, List, ◌++◌, length, take, drop}

-- the output with bytes in it from a place on
abbrev pub put_at : (out : List ℕ) → (put : ℕ) → List ℕ → List ℕ
put_at out put bytes = take put out ++ bytes ++ drop (put + length bytes) out

-- the output with a text in its front
abbrev pub written : List ℕ → List ℕ → List ℕ
written t out = t ++ drop (length t) out
