-- Ports cut out of a chain and ports put into it, on plain lists. The chain is linked again. Ports keep their
-- links, except those at the place of a store.
use Prim.Native.Nat.{ℕ, ◌+◌, ◌*◌, ◌<◌}
use mathlib.Core.Path.{◌≡◌, refl, ap, sym, subst}
use mathlib.Core.List.{List, [], ◌∷◌, ◌++◌, append_assoc}
use native.Mathlib.Omega.{arith}
use lib.ListN.{length, set, length-set}
use lib.Seq.{get_or-set_same}
use Rattle.memory.specs.Memory.{link, Linked, Absent, Distinct, last_of}
use Rattle.memory.proofs.Freeing.{distinct_swap}
use Rattle.memory.proofs.Lists.{absent_split, distinct_split, linked_before, linked_beside, linked_join, linked_split, not_before}
use Rattle.splices.specs.Splices.{cut, put_in}

-- the first and the last of a list that is not empty

pub record Last (x : ℕ) (xs : List ℕ) : Type 0 where
  pub before : List ℕ
  pub parts : x ∷ xs ≡ before ++ last_of x xs ∷ []

pub last_split : (x : ℕ) (xs : List ℕ) → Last x xs
last_split x [] = record { before = []; parts = refl }
last_split x (y ∷ ys) = let r = last_split y ys in record { before = x ∷ r.before; parts = ap (x ∷◌) r.parts }

pub record HasFirst (l : List ℕ) : Type 0 where
  pub first : ℕ
  pub rest : List ℕ
  pub parts : l ≡ first ∷ rest

pub first_split : (xs : List ℕ) (y : ℕ) (ys : List ℕ) → HasFirst (xs ++ y ∷ ys)
first_split [] y ys = record { first = y; rest = ys; parts = refl }
first_split (x ∷ xs) y ys = record { first = x; rest = xs ++ y ∷ ys; parts = refl }

-- the middle left out
pub distinct_without : (xs ms ys : List ℕ) → Distinct (xs ++ (ms ++ ys)) → Distinct (xs ++ ys)
distinct_without xs ms ys d = (distinct_split ms (xs ++ ys) (distinct_swap xs ms ys d)).1

-- the last port of a chain linked on to the first of another
pub relink : (w xs : List ℕ) (x y : ℕ) (ys : List ℕ) → Distinct (xs ++ x ∷ y ∷ ys) → 2 * x + 1 < length w → Linked w (xs ++ x ∷ [])
    → Linked w (y ∷ ys) → Linked (set w (2 * x + 1) y) (xs ++ x ∷ y ∷ ys)
relink w xs x y ys d room front behind =
    let own = (distinct_split xs (x ∷ y ∷ ys) d).1.0 in
    let apart = not_before x xs (x ∷ y ∷ ys) d (λ k. k.0 refl) in
    linked_join (set w (2 * x + 1) y) xs x (y ∷ ys)
    (linked_before w xs x (2 * x + 1) y (λ p e. subst (λ z. Absent z xs) (omega arith) apart) front)
    (get_or-set_same w (2 * x + 1) y 0 room, linked_beside w (y ∷ ys) (2 * x + 1) y (λ p e. subst (λ z. Absent z (y ∷ ys)) (omega arith) own) behind)

-- the ports ms and z leave the chain
module _ (w xs : List ℕ) (x : ℕ) (ms : List ℕ) (z y : ℕ) (ys : List ℕ) (d : Distinct (xs ++ x ∷ (ms ++ z ∷ y ∷ ys)))
    (room : 2 * x + 1 < length w) (h : Linked w (xs ++ x ∷ (ms ++ z ∷ y ∷ ys))) where
  pub left_distinct : Distinct (xs ++ x ∷ y ∷ ys)
  left_distinct =
      let grouped : xs ++ x ∷ (ms ++ z ∷ y ∷ ys) ≡ (xs ++ x ∷ []) ++ ((ms ++ z ∷ []) ++ y ∷ ys) = simp append_assoc in
      let apart = distinct_without (xs ++ x ∷ []) (ms ++ z ∷ []) (y ∷ ys) (subst Distinct grouped d) in
      subst Distinct (append_assoc xs (x ∷ []) (y ∷ ys)) apart

  pub cut_linked : Linked (cut w x z) (xs ++ x ∷ y ∷ ys)
  unfolding cut
  cut_linked =
      let front = linked_split w xs x (ms ++ z ∷ y ∷ ys) h in
      let behind = (linked_split w (x ∷ ms) z (y ∷ ys) front.1).1 in
      subst (λ v. Linked (set w (2 * x + 1) v) (xs ++ x ∷ y ∷ ys)) (sym behind.0) (relink w xs x y ys left_distinct room front.0 behind.1)

  -- and stay linked among themselves
  pub cut_run : Linked (cut w x z) (ms ++ z ∷ [])
  unfolding cut
  cut_run =
      let chain = (linked_split w xs x (ms ++ z ∷ y ∷ ys) h).1 in
      let own = absent_split x ms (z ∷ y ∷ ys) (distinct_split xs (x ∷ (ms ++ z ∷ y ∷ ys)) d).1.0 in
      linked_before w ms z (2 * x + 1) (link w z) (λ p e. subst (λ q. Absent q ms) (omega arith) own.0)
      (linked_tail w x (ms ++ z ∷ []) (linked_split w (x ∷ ms) z (y ∷ ys) chain).0)
    where
      linked_tail : (w : List ℕ) (x : ℕ) (xs : List ℕ) → Linked w (x ∷ xs) → Linked w xs
      linked_tail w x [] h = tt
      linked_tail w x (y ∷ ys) h = h.1

-- the ports from u over us to z are put in behind the port x
pub put_in_linked : (w xs : List ℕ) (x u : ℕ) (us : List ℕ) (z y : ℕ) (ys : List ℕ) → Distinct (xs ++ x ∷ ((u ∷ us) ++ z ∷ y ∷ ys))
    → 2 * x + 1 < length w → 2 * z + 1 < length w → Linked w (xs ++ x ∷ y ∷ ys) → Linked w ((u ∷ us) ++ z ∷ [])
    → Linked (put_in w x u z) (xs ++ x ∷ ((u ∷ us) ++ z ∷ y ∷ ys))
unfolding put_in
put_in_linked w xs x u us z y ys d room room_z chain run =
    let front = linked_split w xs x (y ∷ ys) chain in
    let behind = (distinct_split xs (x ∷ ((u ∷ us) ++ z ∷ y ∷ ys)) d).1 in
    let w₁ = set w (2 * z + 1) (link w x) in
    let joined : Linked w₁ ((u ∷ us) ++ z ∷ y ∷ ys) =
    subst (λ v. Linked (set w (2 * z + 1) v) ((u ∷ us) ++ z ∷ y ∷ ys)) (sym front.1.0) (relink w (u ∷ us) z y ys behind.1 room_z run front.1.1) in
    let apart : Absent z (xs ++ x ∷ []) =
    not_before z (xs ++ x ∷ []) ((u ∷ us) ++ z ∷ y ∷ ys) (subst Distinct (sym (append_assoc xs (x ∷ []) ((u ∷ us) ++ z ∷ y ∷ ys))) d)
    (λ k. (absent_split z (u ∷ us) (z ∷ y ∷ ys) k).1.0 refl) in
    relink w₁ xs x u (us ++ z ∷ y ∷ ys) d (let long = length-set w (2 * z + 1) (link w x) in omega arith)
    (linked_beside w (xs ++ x ∷ []) (2 * z + 1) (link w x) (λ p e. subst (λ q. Absent q (xs ++ x ∷ [])) (omega arith) apart) front.0) joined
