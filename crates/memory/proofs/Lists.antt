-- Laws of the lists that a plan in memory is told by: a number that is absent from a list, lists without a number twice,
-- chains of ports, and the last of a chain; each over `◌++◌`, and what a store leaves as it is. `¬ Absent c cs` is what says
-- that c is in cs. A cell has `cell_numbers` numbers of the memory and two ports.
use Prim.Native.Nat.{ℕ, ◌+◌, ◌*◌, ◌≤◌, ◌<◌}
use mathlib.Core.Path.{◌≡◌, refl, sym, ◌∙◌, subst}
use mathlib.Core.Logic.{◌≢◌}
use mathlib.Core.List.{List, [], ◌∷◌, ◌++◌}
use native.Mathlib.Omega.{arith}
use lib.ListN.{length, set}
use lib.Seq.{get_or-set_same, get_or-set_other}
use Rattle.memory.specs.Memory.{start, link, Linked, Free, Below, Absent, Distinct, last_of}

-- a number that is not in a list, and numbers below a bound

pub absent_join : (c : ℕ) (xs ys : List ℕ) → Absent c xs → Absent c ys → Absent c (xs ++ ys)
absent_join c [] ys h k = k
absent_join c (x ∷ xs) ys h k = (h.0, absent_join c xs ys h.1 k)

pub absent_split : (c : ℕ) (xs ys : List ℕ) → Absent c (xs ++ ys) → Absent c xs × Absent c ys
absent_split c [] ys h = (tt, h)
absent_split c (x ∷ xs) ys h = let r = absent_split c xs ys h.1 in ((h.0, r.0), r.1)

-- a number that cannot be in the list is not in it
pub absent_stable : (c : ℕ) (xs : List ℕ) → ¬ (¬ Absent c xs) → Absent c xs
absent_stable c [] h = tt
absent_stable c (x ∷ xs) h = (λ e. h (λ k. k.0 e), absent_stable c xs (λ m. h (λ k. m k.1)))

pub below_join : (n : ℕ) (xs ys : List ℕ) → Below n xs → Below n ys → Below n (xs ++ ys)
below_join n [] ys h k = k
below_join n (x ∷ xs) ys h k = (h.0, below_join n xs ys h.1 k)

pub below_split : (n : ℕ) (xs ys : List ℕ) → Below n (xs ++ ys) → Below n xs × Below n ys
below_split n [] ys h = (tt, h)
below_split n (x ∷ xs) ys h = let r = below_split n xs ys h.1 in ((h.0, r.0), r.1)

pub below_absent : (n c : ℕ) (xs : List ℕ) → n ≤ c → Below n xs → Absent c xs
below_absent n c [] l h = tt
below_absent n c (x ∷ xs) l h = (omega arith, below_absent n c xs l h.1)

-- lists without a number twice

pub distinct_join : (xs ys : List ℕ) → Distinct xs → Distinct ys → ((c : ℕ) → ¬ Absent c xs → Absent c ys) → Distinct (xs ++ ys)
distinct_join [] ys d e h = e
distinct_join (x ∷ xs) ys d e h =
    (absent_join x xs ys d.0 (h x (λ k. k.0 refl)), distinct_join xs ys d.1 e (λ c m. h c (λ k. m k.1)))

pub distinct_split : (xs ys : List ℕ) → Distinct (xs ++ ys) → Distinct xs × Distinct ys
distinct_split [] ys d = (tt, d)
distinct_split (x ∷ xs) ys d =
    let r = distinct_split xs ys d.1 in
    (((absent_split x xs ys d.0).0, r.0), r.1)

-- what is in the second list is not in the first, and the other way round
pub not_before : (c : ℕ) (xs ys : List ℕ) → Distinct (xs ++ ys) → ¬ Absent c ys → Absent c xs
not_before c [] ys d m = tt
not_before c (x ∷ xs) ys d m =
    (λ e. m (subst (λ z. Absent z ys) (sym e) (absent_split x xs ys d.0).1), not_before c xs ys d.1 m)

pub not_behind : (c : ℕ) (xs ys : List ℕ) → Distinct (xs ++ ys) → ¬ Absent c xs → Absent c ys
not_behind c xs ys d m = absent_stable c ys (λ k. m (not_before c xs ys d k))

-- the last of a chain

pub last_append : (x y : ℕ) (xs ys : List ℕ) → last_of x (xs ++ y ∷ ys) ≡ last_of y ys
last_append x y [] ys = refl
last_append x y (z ∷ xs) ys = last_append z y xs ys

pub last_in : (x : ℕ) (xs : List ℕ) → ¬ Absent (last_of x xs) (x ∷ xs)
last_in x [] h = h.0 refl
last_in x (y ∷ xs) h = last_in y xs h.1

pub last_differs : (c x : ℕ) (xs : List ℕ) → Absent c (x ∷ xs) → c ≢ last_of x xs
last_differs c x xs h e = last_in x xs (subst (λ z. Absent z (x ∷ xs)) e h)

-- chains

pub linked_join : (w xs : List ℕ) (y : ℕ) (ys : List ℕ) → Linked w (xs ++ y ∷ []) → Linked w (y ∷ ys) → Linked w (xs ++ y ∷ ys)
linked_join w [] y ys h k = k
linked_join w (x ∷ []) y ys h k = (h.0, k)
linked_join w (x ∷ z ∷ xs) y ys h k = (h.0, linked_join w (z ∷ xs) y ys h.1 k)

pub linked_split : (w xs : List ℕ) (y : ℕ) (ys : List ℕ) → Linked w (xs ++ y ∷ ys) → Linked w (xs ++ y ∷ []) × Linked w (y ∷ ys)
linked_split w [] y ys h = (tt, h)
linked_split w (x ∷ []) y ys h = ((h.0, tt), h.1)
linked_split w (x ∷ z ∷ xs) y ys h = let r = linked_split w (z ∷ xs) y ys h.1 in ((h.0, r.0), r.1)

-- a store that is no link of the ports, or of all but the last of them
pub linked_beside : (w xs : List ℕ) (i a : ℕ) → ((p : ℕ) → i ≡ 2 * p + 1 → Absent p xs) → Linked w xs → Linked (set w i a) xs
linked_beside w [] i a h k = tt
linked_beside w (x ∷ []) i a h k = tt
linked_beside w (x ∷ y ∷ xs) i a h k =
    (get_or-set_other w i (2 * x + 1) a 0 (λ e. (h x (sym e)).0 refl) ∙ k.0, linked_beside w (y ∷ xs) i a (λ p e. (h p e).1) k.1)

pub linked_before : (w xs : List ℕ) (y i a : ℕ) → ((p : ℕ) → i ≡ 2 * p + 1 → Absent p xs) → Linked w (xs ++ y ∷ []) → Linked (set w i a) (xs ++ y ∷ [])
linked_before w [] y i a h k = tt
linked_before w (x ∷ []) y i a h k = (get_or-set_other w i (2 * x + 1) a 0 (λ e. (h x (sym e)).0 refl) ∙ k.0, tt)
linked_before w (x ∷ z ∷ xs) y i a h k =
    (get_or-set_other w i (2 * x + 1) a 0 (λ e. (h x (sym e)).0 refl) ∙ k.0, linked_before w (z ∷ xs) y i a (λ p e. (h p e).1) k.1)

-- one more port behind the last
pub linked_on : (w : List ℕ) (x y : ℕ) (xs : List ℕ) → Distinct (x ∷ xs) → 2 * last_of x xs + 1 < length w → Linked w (x ∷ xs)
    → Linked (set w (2 * last_of x xs + 1) y) (x ∷ (xs ++ y ∷ []))
linked_on w x y [] d l k = (get_or-set_same w (2 * x + 1) y 0 l, tt)
linked_on w x y (z ∷ xs) d l k =
    let other = last_differs x z xs d.0 in
    (get_or-set_other w (2 * last_of z xs + 1) (2 * x + 1) y 0 (omega arith) ∙ k.0, linked_on w z y xs d.1 l k.1)

-- free cells: a store that is no link of theirs
pub free_beside : (w : List ℕ) (f : ℕ) (cs : List ℕ) (stop i a : ℕ) → ((c : ℕ) → i ≡ 2 * start c + 1 → Absent c cs)
    → Free w f cs stop → Free (set w i a) f cs stop
free_beside w f [] stop i a h k = k
free_beside w f (c ∷ cs) stop i a h k =
    (k.0, rw (get_or-set_other w i (2 * start c + 1) a 0 (λ e. (h c (sym e)).0 refl)) (free_beside w (link w (start c)) cs stop i a (λ d e. (h d e).1) k.1))
