-- The numbers of the lent cells with the outermost start behind them are one list: a link is read from it and stored to it
-- in the same way, wherever it is kept.
use Prim.Native.Nat.{ℕ, ◌+◌, ◌*◌, ◌<◌}
use mathlib.Core.Path.{◌≡◌, refl, ap, sym, ◌∙◌}
use mathlib.Core.List.{List, [], ◌∷◌, ◌++◌, append_assoc}
use native.Mathlib.Omega.{arith}
use lib.ListN.{length, get_or, take, set, length-append, length-set, get_or-append}
use lib.Seq.{drop-set-lt, get_or-append-add, get_or-take, length-take-le, set-append_left, set_at, take-set-lt}
use Rattle.kinds.specs.Limits.{cell_numbers}
use Rattle.memory.specs.Memory.{start, link, whole, block_kind}
use Rattle.memory.specs.Lent.{Aside, Lent}

-- what changes lent cells alone leaves the rest as it was, one change after the other
pub aside_same : {n : ℕ} {m : List ℕ} → Aside n m m
aside_same = record { as_long = refl; rest = refl }

pub aside_on : {n : ℕ} {m m' m'' : List ℕ} → Aside n m m' → Aside n m' m'' → Aside n m m''
aside_on p q = record { as_long = q.as_long ∙ p.as_long; rest = q.rest ∙ p.rest }

pub aside_set : (n : ℕ) (m : List ℕ) (i a : ℕ) → i < cell_numbers * n → Aside n m (set m i a)
aside_set n m i a h = record { as_long = length-set m i a; rest = drop-set-lt (cell_numbers * n) m i a h }

module _ (n : ℕ) (m : List ℕ) (first : ℕ) (lent : Lent n m) where
  front : length (take (cell_numbers * n) m) ≡ cell_numbers * n
  front = length-take-le (cell_numbers * n) m (omega (arith, lent.room))

  pub length_whole : length (whole n m first) ≡ cell_numbers * n + 2
  length_whole = length-append (take (cell_numbers * n) m) (block_kind ∷ first ∷ []) ∙ ap (◌+ 2) front

  -- a number of a lent cell
  pub number-whole : (i : ℕ) → i < cell_numbers * n → get_or m i 0 ≡ get_or (whole n m first) i 0
  number-whole i h =
      sym (get_or-append (take (cell_numbers * n) m) (block_kind ∷ first ∷ []) 0 i (omega (arith, front)) ∙ get_or-take (cell_numbers * n) m i 0 h)

  -- the link of the outermost start
  pub first-whole : (p : ℕ) → p ≡ start n → first ≡ link (whole n m first) p
  first-whole p e =
      sym (ap (λ k. get_or (whole n m first) k 0) (let there : 2 * p + 1 ≡ length (take (cell_numbers * n) m) + 1 = omega (arith, front) in there)
      ∙ get_or-append-add (take (cell_numbers * n) m) (block_kind ∷ first ∷ []) 1 0)

  pub set-whole : (i a : ℕ) → i < cell_numbers * n → whole n (set m i a) first ≡ set (whole n m first) i a
  set-whole i a h =
      ap (◌++ block_kind ∷ first ∷ []) (take-set-lt (cell_numbers * n) m i a h)
      ∙ sym (set-append_left (take (cell_numbers * n) m) (block_kind ∷ first ∷ []) i a (omega (arith, front)))

  pub set_first : (p a : ℕ) → p ≡ start n → whole n m a ≡ set (whole n m first) (2 * p + 1) a
  set_first p a e =
      let before = take (cell_numbers * n) m ++ block_kind ∷ [] in
      let regrouped : (k : ℕ) → before ++ k ∷ [] ≡ whole n m k = λ k. append_assoc (take (cell_numbers * n) m) (block_kind ∷ []) (k ∷ []) in
      sym (ap (λ l. set l (2 * p + 1) a) (sym (regrouped first))
      ∙ set_at before first [] a (2 * p + 1) (omega (arith, front, length-append (take (cell_numbers * n) m) (block_kind ∷ []))) ∙ regrouped a)
