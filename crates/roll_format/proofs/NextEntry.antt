-- Of entries that stand one behind the other up to a place, the one at the front; where they end there is none.
use Prim.Native.Nat.{ℕ, ◌+◌, ◌≤◌}
use mathlib.Core.Path.{◌≡◌, refl, ap, ap₂, subst, sym, ◌∙◌}
use mathlib.Core.Logic.{◌≢◌}
use mathlib.Core.List.{List, [], ◌∷◌}
use native.Mathlib.Omega.{arith}
use lib.ListN.{length, drop, length-drop}
use Rattle.stored.specs.Counted.{FRONT}
use Rattle.roll_format.specs.Format.{Entry, entry}
use Rattle.roll_format.specs.EntriesStand.{EntriesStand}
use Rattle.roll_format.proofs.Format.{stands_within}

pub record NextEntry (bytes : List ℕ) (at upto : ℕ) (come : List Entry) : Type 0 where
  pub first : Entry
  pub others : List Entry
  pub parts : come ≡ first ∷ others
  pub place : first.place ≡ at
  pub next : ℕ
  pub whole : entry (drop at bytes) ≡ FRONT first.parts (drop next bytes)
  pub low : at + 4 ≤ next
  pub high : next ≤ length bytes
  pub stand : EntriesStand bytes next others upto

module _ (bytes : List ℕ) (at upto : ℕ) where
  pub next-entry : at ≢ upto → (come : List Entry) → EntriesStand bytes at come upto → NextEntry bytes at upto come
  next-entry more [] s = absurd (more s)
  next-entry more (e ∷ es) (p, (next, whole, low, high, s)) =
      record { first = e; others = es; parts = refl; place = p; next = next; whole = whole; low = low; high = high; stand = s }

  pub no_next-entry : at ≡ upto → (come : List Entry) → EntriesStand bytes at come upto → come ≡ []
  no_next-entry e [] s = refl
  no_next-entry e (f ∷ fs) (p, (next, whole, low, high, more)) = absurd (omega (arith, e, low, stands_within bytes next upto fs more))

-- they are the only ones
pub stand_once : (bytes : List ℕ) (from upto : ℕ) (es fs : List Entry) → EntriesStand bytes from es upto → EntriesStand bytes from fs upto → es ≡ fs
stand_once bytes from upto [] fs e s = sym (no_next-entry bytes from upto e fs s)
stand_once bytes from upto (e ∷ es) [] s f = no_next-entry bytes from upto f (e ∷ es) s
stand_once bytes from upto (e ∷ es) (f ∷ fs) (p, (next, whole, low, high, more)) (p', (next', whole', low', high', more')) =
    let parts : e.parts ≡ f.parts = cc in
    let left : drop next bytes ≡ drop next' bytes = cc in
    let same : next ≡ next' = omega (arith, ap length left, length-drop next bytes, length-drop next' bytes) in
    ap₂ ◌∷◌ (ap₂ (λ k ps. record { place = k; parts = ps }) (p ∙ sym p') parts)
    (stand_once bytes next upto es fs more (subst (λ k. EntriesStand bytes k fs upto) (sym same) more'))
