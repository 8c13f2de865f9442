-- An entry is read from its own bytes and from no other.
use Prim.Native.Nat.{ℕ, zero, suc, ◌+◌}
use mathlib.Core.Path.{◌≡◌, sym, subst}
use mathlib.Core.List.{List, [], ◌∷◌}
use native.Mathlib.Omega.{arith}
use lib.ListN.{length}
use Rattle.stored.specs.Counted.{FRONT, counted, number, then_read}
use Rattle.stored.proofs.Counted.{then-parts}
use Rattle.stored.proofs.Exact.{FoundFront, found_counted, found_none, found_number, found_then}
use Rattle.roll_format.specs.Format.{entry, sections}
use Rattle.roll_format.proofs.Format.{section_parts}
use Rattle.roll_theorems.specs.Terms.{sections_size}

found_sections : (k : ℕ) (bs : List ℕ) {ss : List (List ℕ)} {rest : List ℕ} → sections k bs ≡ FRONT ss rest → FoundFront (sections k) ss bs rest (sections_size ss)
unfolding sections sections_size
found_sections zero bs {ss} {rest} e =
    let none : [] ≡ ss = cc in
    let same : bs ≡ rest = cc in
    subst (λ (z : List (List ℕ)). FoundFront (sections zero) z bs rest (sections_size z)) none (subst (λ r. FoundFront (sections zero) [] bs r 0) same (found_none [] bs))
found_sections (suc k) bs {ss} {rest} e =
    let (s, between, more, one, two, is) = section_parts k bs e in
    let others = found_then (sections k) (λ (more : List (List ℕ)) last. FRONT (s ∷ more) last) (found_sections k between two) (found_none (s ∷ more) rest) in
    let all = found_then counted (λ s later. then_read (sections k later) (λ more last. FRONT (s ∷ more) last)) (found_counted bs one) others in
    let size : 4 + length s + (sections_size more + 0) ≡ 4 + length s + sections_size more = omega arith in
    subst (λ (z : List (List ℕ)). FoundFront (sections (suc k)) z bs rest (sections_size z)) (sym is) (subst (FoundFront (sections (suc k)) (s ∷ more) bs rest) size all)

pub found_entry : (bs : List ℕ) {parts : List (List ℕ)} {rest : List ℕ} → entry bs ≡ FRONT parts rest → FoundFront entry parts bs rest (4 + sections_size parts)
unfolding entry
found_entry bs e =
    let (k, between, one, two) = then-parts (number bs) sections e in
    found_then number sections (found_number bs one) (found_sections k between two)
