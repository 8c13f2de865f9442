-- A word's name, character by character: with `%` before it, it is an allowed token when it is short enough and each character is permitted.
use Prim.Native.Nat.{ℕ, zero, suc, ◌+◌, ◌-◌, ◌≤◌, ◌<◌}
use mathlib.Core.Path.{◌≡◌, refl, ap, sym, ◌∙◌}
use mathlib.Core.Bool.{Bool, true, false, ◌&&◌, and-false}
use mathlib.Core.List.{List, [], ◌∷◌}
use native.Mathlib.Omega.{arith}
use borrow.Author.Tests.{le-leb, lt-leb}
use lib.Dec.{leb}
use lib.ListN.{length, drop, length-drop}
use lib.Seq.{drop-drop, drop-length}
use Rattle.kinds.specs.Limits.{standard, token_limit}
use Rattle.std.specs.Prelude.{None, Some}
use Rattle.plan.specs.Token.{all_permitted, allowed, character, may_hold, permits, whole}
use Rattle.plan.proofs.Utf8.{character_width}
use Rattle.words_meaning.specs.Linking.{percent}
use Rattle.words_meaning.specs.Stock.{is_name, name_limit}

-- passing over bytes is leaving them out
skipped : (skip : ℕ) (bs : List ℕ) → all_permitted skip bs ≡ all_permitted 0 (drop skip bs)
unfolding all_permitted
skipped zero bs = refl
skipped (suc skip) [] = refl
skipped (suc skip) (b ∷ bs) = skipped skip bs

-- the first character is one that a token may hold, and so are those behind it
next_permitted : (bs : List ℕ) {v w : ℕ} → character bs ≡ Some (whole v w) → all_permitted 0 bs ≡ (may_hold v && all_permitted 0 (drop w bs))
unfolding all_permitted permits
next_permitted [] e = absurd (omega (arith, character_width [] e))
next_permitted (b ∷ bs) {v} {w} e = rw e (ap (may_hold v &&◌) (skipped (w - 1) bs ∙ ap (all_permitted 0) (behind w (character_width (b ∷ bs) e).0)))
  where
    behind : (k : ℕ) → 1 ≤ k → drop (k - 1) bs ≡ drop k (b ∷ bs)
    behind zero h = absurd (omega arith)
    behind (suc k) h = ap (λ j. drop j bs) (let z : suc k - 1 ≡ k = omega arith in z)

-- bytes that begin no character are not permitted
malformed : (bs : List ℕ) → 1 ≤ length bs → character bs ≡ None → all_permitted 0 bs ≡ false
unfolding all_permitted permits
malformed [] h e = absurd (omega arith)
malformed (b ∷ bs) h e = rw e refl

-- What the loop over a name knows: the rest of it decides.
pub record PermittedSoFar (name : List ℕ) (at : ℕ) : Type 0 where
  pub within : at ≤ length name
  pub decides : all_permitted 0 name ≡ all_permitted 0 (drop at name)

-- before any
pub permitted_first : (name : List ℕ) → PermittedSoFar name 0
permitted_first name = record { within = omega arith; decides = refl }

module _ {name : List ℕ} {at : ℕ} (inv : PermittedSoFar name at) where
  -- behind the last, the name is permitted
  pub permitted_last : (at < length name → ⊥) → true ≡ all_permitted 0 name
  unfolding all_permitted
  permitted_last h =
      let end : at ≡ length name = omega (arith, inv.within) in
      sym (inv.decides ∙ ap (λ k. all_permitted 0 (drop k name)) end ∙ ap (all_permitted 0) (drop-length name))

  -- no character is ahead
  pub permitted_cut : at < length name → character (drop at name) ≡ None → false ≡ all_permitted 0 name
  permitted_cut h e = sym (inv.decides ∙ malformed (drop at name) (omega (arith, length-drop at name)) e)

  -- the next character
  module _ {v w : ℕ} (e : character (drop at name) ≡ Some (whole v w)) where
    -- it and the characters behind it decide
    next : all_permitted 0 name ≡ (may_hold v && all_permitted 0 (drop (at + w) name))
    next = inv.decides ∙ next_permitted (drop at name) e ∙ ap (λ us. may_hold v && all_permitted 0 us) (drop-drop w at name)

    -- it is not one that a token may hold
    pub permitted_not : {r : Bool} → r ≡ may_hold v → r ≡ false → false ≡ all_permitted 0 name
    permitted_not told found = sym (next ∙ ap (◌&& all_permitted 0 (drop (at + w) name)) (sym told ∙ found))

    -- it stands within the name
    pub permitted_within : (1 ≤ w) × (at + w ≤ length name)
    permitted_within = let wide = character_width (drop at name) e in (wide.0, omega (arith, wide.1, length-drop at name, inv.within))

    -- it is one
    pub permitted_on : {r : Bool} → r ≡ may_hold v → r ≡ true → PermittedSoFar name (at + w)
    permitted_on told found =
        record { within = permitted_within.1; decides = next ∙ ap (◌&& all_permitted 0 (drop (at + w) name)) (sym told ∙ found) }

-- an empty name is none
pub name_empty : (name : List ℕ) → length name < 1 → is_name standard name ≡ false
unfolding is_name
name_empty name e = ap (◌&& allowed token_limit (percent ∷ name)) (lt-leb 1 (length name) e)

module _ (name : List ℕ) where
  -- `%` itself is permitted, and one byte
  all : allowed token_limit (percent ∷ name) ≡ (leb (suc (length name) + 2) token_limit && all_permitted 0 name)
  unfolding allowed all_permitted permits character may_hold
  all = rw (le-leb 1 (suc (length name)) (omega arith)) refl

  -- one that is longer than a token has room for is none
  pub name_long : name_limit < length name → is_name standard name ≡ false
  unfolding is_name
  name_long h = rw (all, lt-leb (suc (length name) + 2) token_limit (omega arith)) (and-false (leb 1 (length name)))

  -- of any other its characters decide
  pub name_told : 1 ≤ length name → length name ≤ name_limit → is_name standard name ≡ all_permitted 0 name
  unfolding is_name
  name_told some short = rw (all, le-leb 1 (length name) some, le-leb (suc (length name) + 2) token_limit (omega arith)) refl
