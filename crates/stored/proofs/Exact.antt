-- What is read from the front of bytes is read from its own bytes and from no other: with anything behind them it is read, and when
-- one of them is missing it is cut. Said of a number, of bytes behind their count, and of one thing after another.
use Prim.Native.Nat.{ℕ, zero, suc, ◌+◌, ◌-◌, ◌<◌}
use mathlib.Core.Path.{◌≡◌, refl, ap, ap₂, sym, subst, ◌∙◌}
use mathlib.Core.List.{List, [], ◌∷◌, ◌++◌, append_assoc}
use native.Mathlib.Omega.{arith}
use native.Mathlib.Decide.{dec_lt}
use borrow.Author.Tests.{le-leb, lt-leb}
use lib.ListN.{length, take, length-append, length-take, take-append-drop}
use lib.Seq.{drop-append_seam, take-append-add, take-append-le, take-append_seam}
use Rattle.stored.specs.Counted.{AtFront, CUT, FRONT, counted, four, number, so_many, then_read}
use Rattle.stored.proofs.Counted.{number_front, so_many-parts, then-parts}

pub record Exact {A : Type 0} (f : List ℕ → AtFront A) (a : A) (own : List ℕ) : Type 0 where
  pub whole : (more : List ℕ) → f (own ++ more) ≡ FRONT a more
  pub cut : (k : ℕ) → k < length own → f (take k own) ≡ CUT

-- what was read, with its own bytes
pub record FoundFront {A : Type 0} (f : List ℕ → AtFront A) (a : A) (bs rest : List ℕ) (size : ℕ) : Type 0 where
  pub own : List ℕ
  pub is : bs ≡ own ++ rest
  pub exact : Exact f a own
  pub long : length own ≡ size

exact_then : {A B : Type 0} (f : List ℕ → AtFront A) (g : A → List ℕ → AtFront B) {a : A} {b : B} {u v : List ℕ} → Exact f a u → Exact (g a) b v
    → Exact (λ bs. then_read (f bs) g) b (u ++ v)
unfolding then_read
exact_then {A} {B} f g {a} {b} {u} {v} x y =
    record {
      whole = λ more. ap (λ z. then_read z g) (ap f (append_assoc u v more) ∙ x.whole (v ++ more)) ∙ y.whole more;
      cut = λ k h. missing k h (dec_lt k (length u));
    }
  where
    missing : (k : ℕ) → k < length (u ++ v) → Dec (k < length u) → then_read (f (take k (u ++ v))) g ≡ CUT
    missing k h (yes few) = ap (λ z. then_read z g) (ap f (take-append-le k u v (omega arith)) ∙ x.cut k few)
    missing k h (no some) =
        let split : k ≡ length u + (k - length u) = omega arith in
        let at : take k (u ++ v) ≡ u ++ take (k - length u) v = ap (λ i. take i (u ++ v)) split ∙ take-append-add u v (k - length u) in
        ap (λ z. then_read z g) (ap f at ∙ x.whole (take (k - length u) v)) ∙ y.cut (k - length u) (omega (arith, length-append u v))

pub found_then : {A B : Type 0} (f : List ℕ → AtFront A) (g : A → List ℕ → AtFront B) {a : A} {b : B} {bs between rest : List ℕ} {m n : ℕ}
    → FoundFront f a bs between m → FoundFront (g a) b between rest n → FoundFront (λ xs. then_read (f xs) g) b bs rest (m + n)
found_then {A} {B} f g {a} {b} {bs} {between} {rest} x y =
    record {
      own = x.own ++ y.own;
      is = x.is ∙ ap (x.own ++◌) y.is ∙ sym (append_assoc x.own y.own rest);
      exact = exact_then f g x.exact y.exact;
      long = length-append x.own y.own ∙ ap₂ ◌+◌ x.long y.long;
    }

pub found_number : (bs : List ℕ) {n : ℕ} {rest : List ℕ} → number bs ≡ FRONT n rest → FoundFront number n bs rest 4
unfolding number
found_number [] e = absurd (omega (arith, (number_front [] e).0))
found_number (a ∷ []) e = absurd (omega (arith, (number_front (a ∷ []) e).0))
found_number (a ∷ b ∷ []) e = absurd (omega (arith, (number_front (a ∷ b ∷ []) e).0))
found_number (a ∷ b ∷ c ∷ []) e = absurd (omega (arith, (number_front (a ∷ b ∷ c ∷ []) e).0))
found_number (a ∷ b ∷ c ∷ d ∷ bs) {n} {rest} e =
    let same : bs ≡ rest = cc in
    let is : four a b c d ≡ n = cc in
    record {
      own = a ∷ b ∷ c ∷ d ∷ [];
      is = ap (λ r. a ∷ b ∷ c ∷ d ∷ r) same;
      exact = record { whole = λ more. ap (λ k. FRONT k more) is; cut = missing };
      long = refl;
    }
  where
    missing : (k : ℕ) → k < 4 → number (take k (a ∷ b ∷ c ∷ d ∷ [])) ≡ CUT
    missing zero h = refl
    missing (suc zero) h = refl
    missing (suc (suc zero)) h = refl
    missing (suc (suc (suc zero))) h = refl
    missing (suc (suc (suc (suc k)))) h = absurd (omega arith)

pub exact_bytes : (given : List ℕ) → Exact (so_many (length given)) given given
unfolding so_many
exact_bytes given =
    record {
      whole = λ more. rw (le-leb (length given) (length (given ++ more)) (omega (arith, length-append given more))) (ap₂ FRONT (take-append_seam given more) (drop-append_seam given more));
      cut = λ k h. rw (lt-leb (length given) (length (take k given)) (omega (arith, length-take k given))) refl;
    }

pub found_bytes : (n : ℕ) (bs : List ℕ) {given rest : List ℕ} → so_many n bs ≡ FRONT given rest → FoundFront (so_many n) given bs rest (length given)
found_bytes n bs {given} {rest} e =
    let (fits, is, left) = so_many-parts n bs e in
    let long : length given ≡ n = omega (arith, ap length is, length-take n bs) in
    record {
      own = given;
      is = sym (take-append-drop n bs) ∙ ap₂ ◌++◌ (sym is) (sym left);
      exact = subst (λ k. Exact (so_many k) given given) long (exact_bytes given);
      long = refl;
    }

pub found_counted : (bs : List ℕ) {given rest : List ℕ} → counted bs ≡ FRONT given rest → FoundFront counted given bs rest (4 + length given)
unfolding counted
found_counted bs e =
    let (n, between, one, two) = then-parts (number bs) so_many e in
    found_then number so_many (found_number bs one) (found_bytes n between two)

pub found_none : {A : Type 0} (a : A) (bs : List ℕ) → FoundFront (λ later. FRONT a later) a bs bs 0
found_none a bs = record { own = []; is = refl; exact = record { whole = λ more. refl; cut = λ k h. absurd (omega arith) }; long = refl }
