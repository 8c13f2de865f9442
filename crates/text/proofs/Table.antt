-- A table that a rule makes: its first n entries. Where a constant of the code is this list by computation,
-- it has at each place what the rule gives.
use Prim.Native.Nat.{ℕ, zero, suc, ◌<◌}
use mathlib.Core.Path.{◌≡◌, refl}
use mathlib.Core.List.{List, [], ◌∷◌}
use native.Mathlib.Nat.{le_of_suc-le-suc, not-suc-le-zero}
use lib.ListN.{get_or}

abbrev pub table : (ℕ → ℕ) → (n : ℕ) → List ℕ
table rule zero = []
table rule (suc n) = rule zero ∷ table (λ i. rule (suc i)) n

pub entry : (rule : ℕ → ℕ) (n k : ℕ) → k < n → get_or (table rule n) k 0 ≡ rule k
entry rule zero k h = absurd (not-suc-le-zero h)
entry rule (suc n) zero h = refl
entry rule (suc n) (suc k) h = entry (λ i. rule (suc i)) n k (le_of_suc-le-suc h)
