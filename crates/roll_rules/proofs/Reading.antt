-- Laws of reading: a roll that does not read is refused, and so is one with more entries than the list holds; any other is listed.
use Prim.Native.Nat.{ℕ, ◌≤◌, ◌<◌}
use mathlib.Core.Path.{◌≡◌, refl, ap, ◌∙◌}
use mathlib.Core.List.{List, ◌++◌, reverse}
use borrow.Author.Tests.{le-leb, lt-leb}
use lib.ListN.{length, drop}
use Rattle.std.specs.Prelude.{Err}
use Rattle.roll_rules.specs.Answers.{Edition, ENTRIES, REFUSED, fill, judged, listed_as, places, read_roll}
use Rattle.roll_format.specs.Format.{Entry}
use Rattle.roll_rules.specs.declared.RollRefusal.{RollRefusal}
use Rattle.roll_rules.specs.declared.RollRefusal.TheVariants.{MoreEntries}

module _ (ed : Edition) (bytes list : List ℕ) where
  pub read_refuses : {q : RollRefusal} → judged ed bytes ≡ REFUSED q → read_roll ed bytes list ≡ record { answer = Err q; list = list }
  unfolding read_roll fill
  read_refuses e = ap (λ j. fill j list) e

  module _ {es : List Entry} {end : ℕ} (reads : judged ed bytes ≡ ENTRIES es end) where
    pub read_short : length list < length es → read_roll ed bytes list ≡ record { answer = Err (MoreEntries (length es)); list = list }
    unfolding read_roll fill
    read_short h = ap (λ j. fill j list) reads ∙ rw (lt-leb (length es) (length list) h) refl

    pub read_fits : length es ≤ length list
        → read_roll ed bytes list ≡ record { answer = listed_as (reverse es) end; list = places es ++ drop (length es) list }
    unfolding read_roll fill
    read_fits h = ap (λ j. fill j list) reads ∙ rw (le-leb (length es) (length list) h) refl
