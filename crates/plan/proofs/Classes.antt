-- The class of a byte says which byte it is, and for the refused ones which it is not.
use Prim.Native.Nat.{ℕ}
use mathlib.Core.Path.{◌≡◌, ◌∙◌, refl, ap, subst}
use mathlib.Core.Logic.{◌↔◌, ◌≢◌, inl, inr, ⊎_elim}
use mathlib.Core.Bool.{true, false, not}
use lib.Dec.{T, T_not, eqb, eqb_refl}
use borrow.Author.Tests.{eqb-true, eqb-false, ne_eqb}
use Rattle.plan.specs.Plan.{Operator, op_a, op_b, op_c, op_d, letter, open_bracket, close_bracket, open_brace}
use Rattle.plan.specs.Reading.{Class, OPERATOR, OPEN, CLOSE, BRACE, BLANK, BAD, class, Byte}
use Rattle.kinds.proofs.Tests.{cond_cases}

pub class_byte : (b : ℕ) → Byte (class b) b
unfolding class letter
class_byte b =
    let P : Class → Type 0 = λ c. Byte c b in
    let is : (k : ℕ) → eqb b k ≡ true → b ≡ k = λ k. eqb-true b k in
    let not : (k : ℕ) → eqb b k ≡ false → b ≢ k = λ k. eqb-false b k in
    cond_cases P _ (is 97) λ a. cond_cases P _ (is 98) λ b'. cond_cases P _ (is 99) λ c. cond_cases P _ (is 100) λ d.
    cond_cases P _ (is open_bracket) λ opens. cond_cases P _ (is close_bracket) λ closes. cond_cases P _ (is open_brace) λ brace.
    cond_cases P _ (λ e. inl (is 32 e)) λ sp. cond_cases P _ (λ e. inr (is 10 e)) λ lf.
    (none_of a b' c d, not open_bracket opens, not close_bracket closes, not open_brace brace, not 32 sp, not 10 lf)
  where
    none_of : eqb b 97 ≡ false → eqb b 98 ≡ false → eqb b 99 ≡ false → eqb b 100 ≡ false → (o : Operator) → b ≢ letter o
    none_of a b' c d op_a = eqb-false b 97 a
    none_of a b' c d op_b = eqb-false b 98 b'
    none_of a b' c d op_c = eqb-false b 99 c
    none_of a b' c d op_d = eqb-false b 100 d

pub class-letter : (o : Operator) → class (letter o) ≡ OPERATOR o
unfolding class letter
class-letter op_a = refl
class-letter op_b = refl
class-letter op_c = refl
class-letter op_d = refl

-- the other way round, each byte of the table has its class
pub class_open : class open_bracket ≡ OPEN
unfolding class
class_open = refl

pub class-close : class close_bracket ≡ CLOSE
unfolding class
class-close = refl

pub class_brace : class open_brace ≡ BRACE
unfolding class
class_brace = refl

-- Each byte has exactly one class, the refused one too: that in whose row it stands.
pub class_exactly_when : (b : ℕ) (c : Class) → (class b ≡ c) ↔ Byte c b
unfolding class
class_exactly_when b c = (λ e. subst (λ k. Byte k b) e (class_byte b), has c)
  where
    refused : (k : Class) → Byte k b → Byte BAD b → k ≡ BAD
    refused (OPERATOR o) h none = absurd (none.0 o h)
    refused OPEN h none = absurd (none.1 h)
    refused CLOSE h none = absurd (none.2 h)
    refused BRACE h none = absurd (none.3 h)
    refused BLANK h none = absurd (⊎_elim none.4 none.5 h)
    refused BAD h none = refl

    has : (c : Class) → Byte c b → class b ≡ c
    has (OPERATOR o) e = ap class e ∙ class-letter o
    has OPEN e = ap class e ∙ class_open
    has CLOSE e = ap class e ∙ class-close
    has BRACE e = ap class e ∙ class_brace
    has BLANK e = ⊎_elim (ap class) (ap class) e
    has BAD none = refused (class b) (class_byte b) none

-- different classes have different ranks
abbrev pub rank : Class → ℕ
rank (OPERATOR o) = 0
rank OPEN = 1
rank CLOSE = 2
rank BRACE = 3
rank BLANK = 4
rank BAD = 5

pub clash : {c d : Class} → c ≡ d → T (not (eqb (rank c) (rank d))) → ⊥
clash {c} {d} e h = T_not (eqb (rank c) (rank d)) h (subst (λ x. T (eqb (rank c) (rank x))) e (eqb_refl (rank c)))

-- what is not of the class BRACE opens no token
pub not_brace : (b : ℕ) → class b ≢ BRACE → eqb b open_brace ≡ false
not_brace b h = ne_eqb b open_brace (λ e. h (ap class e ∙ class_brace))
