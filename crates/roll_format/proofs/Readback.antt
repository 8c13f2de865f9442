-- What was written is read: an entry whose counts fit into four bytes.
use Prim.Native.Nat.{ℕ, ◌≤◌}
use mathlib.Core.Path.{◌≡◌, refl, ap, ◌∙◌}
use mathlib.Core.List.{List, [], ◌∷◌, ◌++◌, append_assoc}
use lib.ListN.{length}
use Rattle.stored.specs.Counted.{FRONT, counted, four_bytes, number, then_read, with_count}
use Rattle.stored.proofs.Readback.{counted_back, number_back}
use Rattle.roll_format.specs.Format.{entry, entry_bytes, longest, sections, sections_bytes}
use Rattle.roll_format.specs.EntriesStand.{Storable}

sections_back : (ss : List (List ℕ)) (more : List ℕ) → Storable ss → sections (length ss) (sections_bytes ss ++ more) ≡ FRONT ss more
unfolding sections sections_bytes then_read
sections_back [] more fits = refl
sections_back (s ∷ ss) more (fits, later) =
    let first = ap counted (append_assoc (with_count s) (sections_bytes ss) more) ∙ counted_back s (sections_bytes ss ++ more) fits in
    rw (first, sections_back ss more later) refl

pub entry_back : (parts : List (List ℕ)) (more : List ℕ) → length parts ≤ longest → Storable parts → entry (entry_bytes parts ++ more) ≡ FRONT parts more
unfolding entry entry_bytes then_read
entry_back parts more few fits =
    ap (λ x. then_read x sections) (ap number (append_assoc (four_bytes (length parts)) (sections_bytes parts) more) ∙ number_back (length parts) (sections_bytes parts ++ more) few) ∙ sections_back parts more fits
