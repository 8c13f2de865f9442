-- A token's text holds no `}`, so that it ends at the first one, and is found again where it was printed.
use Prim.Native.Nat.{ℕ, zero, suc, ◌+◌, ◌-◌, ◌≤◌, ◌<◌}
use mathlib.Core.Path.{◌≡◌, refl, ap, ◌∙◌}
use mathlib.Core.Logic.{◌≢◌}
use mathlib.Core.Bool.{Bool, true}
use Rattle.std.specs.Prelude.{Option, None, Some}
use mathlib.Core.List.{List, [], ◌∷◌, ◌++◌}
use native.Mathlib.Omega.{arith}
use lib.ListN.{length, get_or}
use lib.Dec.{eqb}
use borrow.Author.Tests.{leb-true, eqb-true, ne_eqb}
use Rattle.plan.specs.declared.Character.{Character}
use Rattle.plan.specs.Options.{under}
use Rattle.plan.specs.Plan.{close_brace}
use Rattle.plan.specs.Token.{annotation, character, whole, may_hold, permits, all_permitted, allowed, before_brace, if_allowed, token_text}
use Rattle.plan.specs.Pieces.{Found}
use Rattle.plan.proofs.MayHold.{closing}
use Rattle.plan.proofs.Options.{Each, under_each}
use Rattle.kinds.proofs.Tests.{cond_cases, and_true, false_is_not_true}
use Rattle.plan.proofs.Utf8.{character-bytes, character-one}

abbrev pub NoBrace : List ℕ → Type 0
NoBrace [] = Unit {0}
NoBrace (b ∷ bs) = (b ≢ close_brace) × NoBrace bs

pub permits-parts : (c : Option Character) (after : ℕ → Bool) → permits c after ≡ true → (v : ℕ) × (w : ℕ) × (c ≡ Some (whole v w)) × (may_hold v ≡ true) × (after (w - 1) ≡ true)
unfolding permits
permits-parts None after e = false_is_not_true e
permits-parts (Some c) after e =
    let h = and_true (may_hold c.value) (after (c.width - 1)) e in
    (c.value, c.width, refl, h.0, h.1)

-- the bytes of a character already looked at are at least 128
no_brace_from : (skip : ℕ) (t : List ℕ) → ((i : ℕ) → i < skip → 128 ≤ get_or t i 0) → all_permitted skip t ≡ true → NoBrace t
unfolding all_permitted
no_brace_from skip [] high e = tt
no_brace_from (suc skip) (b ∷ bs) high e =
    let h : 128 ≤ b = high 0 (omega arith) in
    (λ (z : b ≡ close_brace). omega arith, no_brace_from skip bs (λ i g. high (suc i) (omega arith)) e)
no_brace_from zero (b ∷ bs) high e =
    let c = permits-parts (character (b ∷ bs)) (λ width. all_permitted width bs) e in (
      λ (z : b ≡ close_brace).
          let one = character-one b bs c.2 (omega arith) in
          let v : c.0 ≡ close_brace = one.0 ∙ z in
          false_is_not_true (closing close_brace refl ∙ (rw v at c.3)),
      no_brace_from (c.1 - 1) bs (λ i g. character-bytes b bs c.2 (suc i) (omega arith) (omega arith)) c.4,
    )

pub allowed-parts : (limit : ℕ) (t : List ℕ) → allowed limit t ≡ true → (1 ≤ length t) × (length t + 2 ≤ limit) × (all_permitted 0 t ≡ true)
unfolding allowed
allowed-parts limit t e =
    let h = and_true _ _ e in
    let g = and_true _ _ h.1 in
    (leb-true _ _ h.0, leb-true _ _ g.0, g.1)

pub allowed_no_brace : (limit : ℕ) (t : List ℕ) → allowed limit t ≡ true → NoBrace t
allowed_no_brace limit t e = no_brace_from 0 t (λ i g. omega arith) (allowed-parts limit t e).2

-- what stands behind a token's text does not tell whether it is an annotation, since the text is not empty
pub annotation-of : (limit : ℕ) (t rest : List ℕ) → allowed limit t ≡ true → annotation (t ++ rest) ≡ annotation t
unfolding annotation
annotation-of limit [] rest a = absurd (omega (arith, (allowed-parts limit [] a).0))
annotation-of limit (b ∷ t) rest a = refl

pub before_brace-at : (t rest : List ℕ) → NoBrace t → before_brace (t ++ close_brace ∷ rest) ≡ Some t
unfolding before_brace under
before_brace-at [] rest h = refl
before_brace-at (b ∷ bs) rest h = rw (ne_eqb b close_brace h.0, before_brace-at bs rest h.1)

pub token_text-at : (limit : ℕ) (t rest : List ℕ) → allowed limit t ≡ true → token_text limit (t ++ close_brace ∷ rest) ≡ Some t
unfolding token_text if_allowed
token_text-at limit t rest e = rw (before_brace-at t rest (allowed_no_brace limit t e), e)

-- what stands before the first `}` is a front part, with that `}` after it
abbrev Splits : List ℕ → List ℕ → Type 0
Splits bs t = (rest : List ℕ) × (bs ≡ t ++ close_brace ∷ rest)

before_brace_splits : (bs : List ℕ) → Each (Splits bs) (before_brace bs)
unfolding before_brace
before_brace_splits [] = tt
before_brace_splits (b ∷ bs) =
    let longer = under_each (b ∷◌) (Splits bs) (Splits (b ∷ bs)) (λ t s. (s.0, ap (b ∷◌) s.1)) (before_brace bs) (before_brace_splits bs) in
    cond_cases (Each (Splits (b ∷ bs))) (eqb b close_brace) (λ e. (bs, ap (◌∷ bs) (eqb-true b close_brace e))) (λ _. longer)

pub token_text_finds : (limit : ℕ) (bs : List ℕ) → Each (Found limit bs) (token_text limit bs)
unfolding token_text if_allowed
token_text_finds limit bs = go (before_brace bs) (before_brace_splits bs)
  where
    go : (o : Option (List ℕ)) → Each (Splits bs) o → Each (Found limit bs) (if_allowed limit o)
    go None s = tt
    go (Some t) s =
        cond_cases (Each (Found limit bs)) (allowed limit t) (λ e. record { rest = s.0; splits = s.1; fine = e }) (λ _. tt)
