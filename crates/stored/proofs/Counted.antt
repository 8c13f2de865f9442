-- Laws of numbers and of counted bytes at the front of bytes: where they stand, that what was written is read, and what a cut leaves.
use Prim.Native.Nat.{ℕ, ◌+◌, ◌≤◌, ◌<◌}
use mathlib.Core.Path.{◌≡◌, refl}
use mathlib.Core.Bool.{Bool, true, false, cond}
use mathlib.Core.List.{List, [], ◌∷◌}
use native.Mathlib.Omega.{arith}
use borrow.Author.Tests.{leb-true}
use lib.Dec.{leb}
use lib.ListN.{length, take, drop, length-drop}
use Rattle.kinds.proofs.Tests.{never}
use Rattle.stored.specs.Counted.{AtFront, CUT, FRONT, counted, number, so_many, then_read, two_counted}

-- one thing and then another was read: the first left what the second was read from
pub then-parts : {A B : Type 0} (x : AtFront A) (go : A → List ℕ → AtFront B) {b : B} {rest : List ℕ} → then_read x go ≡ FRONT b rest
    → (a : A) × (between : List ℕ) × (x ≡ FRONT a between) × (go a between ≡ FRONT b rest)
unfolding then_read
then-parts CUT go e = never cc
then-parts (FRONT a between) go e = (a, between, refl, e)

-- a number at a place
short_number : (bs : List ℕ) → length bs < 4 → number bs ≡ CUT
unfolding number
short_number [] h = refl
short_number (a ∷ []) h = refl
short_number (a ∷ b ∷ []) h = refl
short_number (a ∷ b ∷ c ∷ []) h = refl
short_number (a ∷ b ∷ c ∷ d ∷ bs) h = absurd (omega arith)

pub number_cut : (bytes : List ℕ) (at : ℕ) → length bytes < at + 4 → number (drop at bytes) ≡ CUT
number_cut bytes at h = short_number (drop at bytes) (omega (arith, length-drop at bytes))

-- what a number at the front leaves behind it
pub number_front : (bs : List ℕ) {n : ℕ} {rest : List ℕ} → number bs ≡ FRONT n rest → (4 ≤ length bs) × (rest ≡ drop 4 bs)
unfolding number
number_front [] e = never cc
number_front (a ∷ []) e = never cc
number_front (a ∷ b ∷ []) e = never cc
number_front (a ∷ b ∷ c ∷ []) e = never cc
number_front (a ∷ b ∷ c ∷ d ∷ bs) {n} {rest} e = (omega arith, let same : rest ≡ bs = cc in same)

-- counted bytes that are there
pub so_many-parts : (n : ℕ) (bs : List ℕ) {given rest : List ℕ} → so_many n bs ≡ FRONT given rest → (n ≤ length bs) × (given ≡ take n bs) × (rest ≡ drop n bs)
unfolding so_many
so_many-parts n bs {given} {rest} e = go (leb n (length bs)) refl e
  where
    go : (t : Bool) → leb n (length bs) ≡ t → cond t (FRONT (take n bs) (drop n bs)) CUT ≡ FRONT given rest → (n ≤ length bs) × (given ≡ take n bs) × (rest ≡ drop n bs)
    go true h e = (leb-true n (length bs) h, let same : given ≡ take n bs = cc in same, let same : rest ≡ drop n bs = cc in same)
    go false h e = never cc

-- twice in a row, whatever is made of the two
module _ {A : Type 0} (f : List ℕ → List ℕ → A) (bs : List ℕ) where
  pub two_first-cut : counted bs ≡ CUT → two_counted f bs ≡ CUT
  unfolding two_counted then_read
  two_first-cut e = rw e refl

  module _ {one rest : List ℕ} (e : counted bs ≡ FRONT one rest) where
    pub two_second_cut : counted rest ≡ CUT → two_counted f bs ≡ CUT
    unfolding two_counted then_read
    two_second_cut g = rw (e, g) refl

    pub two-whole : {two later : List ℕ} → counted rest ≡ FRONT two later → two_counted f bs ≡ FRONT (f one two) later
    unfolding two_counted then_read
    two-whole g = rw (e, g) refl
