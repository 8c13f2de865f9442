-- Laws of linking, whatever the tokens stand for: of sequences, of what is held, and of allowed tokens.
use Prim.Native.Nat.{ℕ}
use mathlib.Core.Path.{◌≡◌, refl, ap, ap₂, sym, ◌∙◌}
use mathlib.Core.Bool.{Bool, true, false, ◌||◌, or_assoc, or-true}
use Rattle.std.specs.Prelude.{Option, None, Some}
use mathlib.Core.List.{List}
use Rattle.plan.specs.Plan.{Plan, end, operator, token, block, ◌then◌}
use Rattle.plan.specs.Token.{Allowed, KeptToken}
use Rattle.plan.proofs.Plans.{allowed_then, then_assoc}
use Rattle.kinds.proofs.Tests.{false_is_not_true}
use Rattle.stored.specs.Same.{same}
use Rattle.stored.proofs.Same.{same_equal, same_self}
use Rattle.words_meaning.specs.Linking.{holds, in_place, link_plan}

-- two tests of which not one holds
pub neither : (a b : Bool) → (a || b) ≡ false → (a ≡ false) × (b ≡ false)
neither true b e = false_is_not_true (sym e)
neither false b e = (refl, e)

module _ {L : Type 0} where
  -- a token stands in one sequence then another if it stands in either
  holds_then : (t : List ℕ) (p q : Plan L) → holds t (p then q) ≡ (holds t p || holds t q)
  unfolding holds ◌then◌
  holds_then t end q = refl
  holds_then t (operator l o p) q = holds_then t p q
  holds_then t (token l u p) q = ap (same t u ||◌) (holds_then t p q) ∙ sym (or_assoc (same t u) (holds t p) (holds t q))
  holds_then t (block l b p) q = ap (holds t b ||◌) (holds_then t p q) ∙ sym (or_assoc (holds t b) (holds t p) (holds t q))

  -- what is put in a token's place, before more items
  in_place-then : (s : Option (Plan L)) (l : L) (t : List ℕ) (p q : Plan L) → in_place s l t (p then q) ≡ in_place s l t p then q
  unfolding in_place ◌then◌
  in_place-then None l t p q = refl
  in_place-then (Some r) l t p q = sym (then_assoc r p q)

  -- it holds a token only if the plan stood for does, or the token that stays is that one, or the items behind hold it
  holds-in_place : (t : List ℕ) (s : Option (Plan L)) (l : L) (u : List ℕ) (p : Plan L) → (s ≡ None → same t u ≡ false)
      → ((q : Plan L) → s ≡ Some q → holds t q ≡ false) → holds t p ≡ false → holds t (in_place s l u p) ≡ false
  unfolding holds in_place
  holds-in_place t None l u p stays put more = ap₂ ◌||◌ (stays refl) more
  holds-in_place t (Some q) l u p stays put more = holds_then t q p ∙ ap₂ ◌||◌ (put q refl) more

  -- its tokens are allowed if the plan's and the rest's are
  allowed-in_place : (limit : ℕ) (s : Option (Plan L)) (l : L) (t : List ℕ) (p : Plan L) → KeptToken limit t
      → ((q : Plan L) → s ≡ Some q → Allowed limit q) → Allowed limit p → Allowed limit (in_place s l t p)
  unfolding in_place
  allowed-in_place limit None l t p fine put more = (fine, more)
  allowed-in_place limit (Some q) l t p fine put more = allowed_then limit q p (put q refl) more

module _ {L : Type 0} (stands : List ℕ → Option (Plan L)) where
  -- one sequence then another is linked part by part
  pub link-then : (p q : Plan L) → link_plan stands (p then q) ≡ link_plan stands p then link_plan stands q
  unfolding link_plan ◌then◌
  link-then end q = refl
  link-then (operator l o p) q = ap (operator l o) (link-then p q)
  link-then (token l t p) q = ap (in_place (stands t) l t) (link-then p q) ∙ in_place-then (stands t) l t (link_plan stands p) (link_plan stands q)
  link-then (block l b p) q = ap (block l (link_plan stands b)) (link-then p q)

  -- a plan stays as it is where each of its tokens stands for none
  pub link_unlisted : (p : Plan L) → ((t : List ℕ) → holds t p ≡ true → stands t ≡ None) → link_plan stands p ≡ p
  unfolding link_plan holds in_place
  link_unlisted end h = refl
  link_unlisted (operator l o p) h = ap (operator l o) (link_unlisted p h)
  link_unlisted (token l t p) h =
      let more = link_unlisted p (λ u e. h u (ap (same u t ||◌) e ∙ or-true (same u t))) in
      rw (h t (ap (◌|| holds t p) (same_self t)), more)
  link_unlisted (block l b p) h =
      ap₂ (block l) (link_unlisted b (λ u e. h u (ap (◌|| holds u p) e))) (link_unlisted p (λ u e. h u (ap (holds u b ||◌) e ∙ or-true (holds u b))))

  -- a linked plan does not hold a token that stands for a plan, or that the plan did not hold, if no plan that is put in holds it
  pub holds-link : (t : List ℕ) (p : Plan L) → (stands t ≡ None → holds t p ≡ false)
      → ((u : List ℕ) (q : Plan L) → holds u p ≡ true → stands u ≡ Some q → holds t q ≡ false) → holds t (link_plan stands p) ≡ false
  unfolding link_plan holds
  holds-link t end gone put = refl
  holds-link t (operator l o p) gone put = holds-link t p gone put
  holds-link t (token l u p) gone put =
      let more = holds-link t p (λ e. (neither (same t u) (holds t p) (gone e)).1) (λ v q h. put v q (ap (same v u ||◌) h ∙ or-true (same v u))) in
      holds-in_place t (stands u) l u (link_plan stands p) (λ e. other (same t u) refl e) (λ q. put u q (ap (◌|| holds u p) (same_self u))) more
    where
      other : (x : Bool) → same t u ≡ x → stands u ≡ None → same t u ≡ false
      other true h e = (neither (same t u) (holds t p) (gone (ap stands (same_equal t u h) ∙ e))).0
      other false h e = h
  holds-link t (block l b p) gone put =
      let inner = holds-link t b (λ e. (neither (holds t b) (holds t p) (gone e)).0) (λ v q h. put v q (ap (◌|| holds v p) h)) in
      let more = holds-link t p (λ e. (neither (holds t b) (holds t p) (gone e)).1) (λ v q h. put v q (ap (holds v b ||◌) h ∙ or-true (holds v b))) in
      ap₂ ◌||◌ inner more

  -- a plan with allowed tokens is linked to one, if the plans put in have allowed tokens
  pub allowed-link : (limit : ℕ) (p : Plan L) → Allowed limit p → ((t : List ℕ) (q : Plan L) → stands t ≡ Some q → Allowed limit q)
      → Allowed limit (link_plan stands p)
  unfolding link_plan
  allowed-link limit end h put = tt
  allowed-link limit (operator l o p) h put = allowed-link limit p h put
  allowed-link limit (token l t p) h put = allowed-in_place limit (stands t) l t (link_plan stands p) h.0 (put t) (allowed-link limit p h.1 put)
  allowed-link limit (block l b p) h put = (allowed-link limit b h.0 put, allowed-link limit p h.1 put)
