-- What each byte that follows makes of a character's value, and that the value has room for the bytes that are still to come.
use Prim.Native.Nat.{ℕ, zero, suc, ◌+◌, ◌*◌, ◌-◌, ◌^◌, ◌≤◌, ◌<◌}
use mathlib.Core.Path.{◌≡◌, refl, ap, sym, ◌∙◌}
use mathlib.Core.Bool.{Bool, true, false, cond}
use mathlib.Core.List.{List, [], ◌∷◌}
use native.Mathlib.Nat.{sub-zero, mul-le-mul_right, mul-le-mul_left, mul_assoc, mul-one, pow-succ', one-le-pow}
use native.Mathlib.Numerals.{add-one}
use native.Mathlib.Omega.{arith}
use borrow.Author.Tests.{le-leb, lt-ltb}
use lib.ListN.{length, get_or, take, drop}
use lib.Seq.{drop-cons}
use Rattle.std.specs.Prelude.{Option, None}
use Rattle.plan.specs.Token.{follows, value}
use Rattle.characters.specs.Continued.{Room}

-- a byte adds less than 64
room_step : (n v b : ℕ) → b < 192 → Room (suc n) v → Room n (v * 64 + (b - 128))
room_step n v b high r =
    omega (arith, mul-le-mul_right (64 ^ n) (added v b high), mul_assoc (v + 1) 64 (64 ^ n), rw pow-succ' at r)
  where
    added : (v b : ℕ) → b < 192 → v * 64 + (b - 128) + 1 ≤ (v + 1) * 64
    added v b high = omega arith

room_fits : (n v : ℕ) → Room n v → v < 4294967296
room_fits n v r = omega (arith, mul-le-mul_left (v + 1) (one-le-pow n 64 (omega arith)), mul-one (v + 1))

-- where fewer bytes are there than are to come, there is no value
pub value_short : (n v : ℕ) (bs : List ℕ) → length bs < n → None ≡ value n v bs
unfolding value
value_short zero v bs h = absurd (omega arith)
value_short (suc n) v [] h = refl
value_short (suc n) v (b ∷ bs) h = rw (← value_short n (v * 64 + (b - 128)) bs (omega arith)) (both (follows b))
  where
    both : (t : Bool) → ◌≡◌ {A = Option ℕ} None (cond t None None)
    both true = refl
    both false = refl

-- no byte behind the n that are to come is looked at
value_take : (n v : ℕ) (bs : List ℕ) → value n v bs ≡ value n v (take n bs)
unfolding value
value_take zero v bs = refl
value_take (suc n) v [] = refl
value_take (suc n) v (b ∷ bs) = ap (λ r. cond (follows b) r None) (value_take n (v * 64 + (b - 128)) bs)

-- the n bytes alone
module _ (n v : ℕ) (bs taken : List ℕ) (is : taken ≡ take (n - 0) bs) (size : length taken + 0 ≡ n) where
  counted : n ≡ length taken
  counted = omega (arith, size)

  pub value_taken : value n v bs ≡ value (length taken) v taken
  value_taken = value_take n v bs ∙ ap (λ k. value n v (take k bs)) (sym (sub-zero n)) ∙ ap (value n v) (sym is) ∙ ap (λ k. value k v taken) counted

  pub room_taken : Room n v → Room (length taken) v
  room_taken r = rw counted at r

-- the byte at k of those that are to come
module _ (bs : List ℕ) (k v : ℕ) (there : k < length bs) where
  one_more : Room (length (drop k bs)) v → Room (suc (length (drop (suc k) bs))) v
  one_more r = rw (drop-cons bs k 0 there) at r

  pub times_fits : Room (length (drop k bs)) v → v * 64 < 4294967296
  times_fits r = omega (arith, room_fits _ _ (room_step _ v 128 (omega arith) (one_more r)))

  module _ (low : 128 ≤ get_or bs k 0) (high : get_or bs k 0 < 192) where
    pub value_step : value (length (drop k bs)) v (drop k bs) ≡ value (length (drop (k + 1) bs)) (v * 64 + (get_or bs k 0 - 128)) (drop (k + 1) bs)
    unfolding value follows
    value_step = rw (add-one k, drop-cons bs k 0 there) (simp (le-leb _ _ low, lt-ltb _ _ high))

    pub room_more : Room (length (drop k bs)) v → Room (length (drop (k + 1) bs)) (v * 64 + (get_or bs k 0 - 128))
    room_more r = rw (add-one k) (room_step _ v (get_or bs k 0) high (one_more r))

    pub sum_fits : Room (length (drop k bs)) v → v * 64 + (get_or bs k 0 - 128) < 4294967296
    sum_fits r = room_fits _ _ (room_more r)
