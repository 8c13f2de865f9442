-- What was written is read: a number that fits into four bytes, and bytes behind their count.
use Prim.Native.Nat.{ℕ, ◌/◌, ◌%◌, ◌≤◌}
use mathlib.Core.Path.{◌≡◌, ap, ◌∙◌}
use mathlib.Core.List.{List, ◌++◌, append_assoc}
use native.Mathlib.Omega.{arith}
use lib.ListN.{length}
use Rattle.std.proofs.lemmas.Nat.{from_le_bytes-to_le_bytes_4}
use Rattle.stored.specs.Counted.{FRONT, counted, four, four_bytes, largest, number, so_many, then_read, with_count}
use Rattle.stored.proofs.Exact.{exact_bytes}

four_back : (n : ℕ) → n ≤ largest → four (n % 256) (n / 256 % 256) (n / 65536 % 256) (n / 16777216 % 256) ≡ n
four_back n h = omega (arith, from_le_bytes-to_le_bytes_4 n (omega arith))

pub number_back : (n : ℕ) (more : List ℕ) → n ≤ largest → number (four_bytes n ++ more) ≡ FRONT n more
unfolding number four_bytes
number_back n more h = ap (λ k. FRONT k more) (four_back n h)

pub counted_back : (given more : List ℕ) → length given ≤ largest → counted (with_count given ++ more) ≡ FRONT given more
unfolding counted with_count then_read
counted_back given more h =
    ap (λ x. then_read x so_many) (ap number (append_assoc (four_bytes (length given)) given more) ∙ number_back (length given) (given ++ more) h) ∙ (exact_bytes given).whole more
