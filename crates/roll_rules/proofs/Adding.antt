-- Laws of adding: a refused roll comes first, then what is wrong with the entry, and lack of room last.
use Prim.Native.Nat.{ℕ, ◌+◌, ◌≤◌, ◌<◌, min}
use mathlib.Core.Path.{◌≡◌, refl}
use Rattle.std.specs.Prelude.{Option, None, Some}
use mathlib.Core.List.{List, reverse}
use borrow.Author.Tests.{le-leb, lt-leb}
use lib.ListN.{length}
use Rattle.plan.specs.Options.{◌else◌}
use Rattle.roll_rules.specs.Answers.{Edition, ENTRIES, REFUSED, add_to, added_entry, new_bytes, new_entry, no_room, not_added, unless}
use Rattle.roll_format.specs.Format.{Entry, longest}
use Rattle.roll_rules.specs.Rules.{fault}
use Rattle.roll_rules.specs.declared.RollRefusal.{RollRefusal}
use Rattle.roll_rules.specs.declared.RollRefusal.TheVariants.{NoRoom}

module _ (ed : Edition) (buffer : List ℕ) (parts : List (List ℕ)) where
  pub roll-first : (q : RollRefusal) → add_to ed buffer (REFUSED q) parts ≡ not_added buffer q
  unfolding add_to
  roll-first q = refl

  module _ (es : List Entry) (end : ℕ) where
    -- what is wrong with the new entry
    abbrev pub wrong : Option RollRefusal
    wrong = fault ed.limits (reverse es) (new_entry end parts)

    pub fault-first : {q : RollRefusal} → wrong ≡ Some q → add_to ed buffer (ENTRIES es end) parts ≡ not_added buffer q
    unfolding add_to unless ◌else◌
    fault-first e = rw e refl

    pub room_last : wrong ≡ None → length buffer < end + length (new_bytes ed end parts)
        → add_to ed buffer (ENTRIES es end) parts ≡ not_added buffer (NoRoom (min (end + length (new_bytes ed end parts)) longest))
    unfolding add_to unless ◌else◌ no_room
    room_last e h = rw (e, lt-leb (end + length (new_bytes ed end parts)) (length buffer) h) refl

    pub entry_made : wrong ≡ None → end + length (new_bytes ed end parts) ≤ length buffer
        → add_to ed buffer (ENTRIES es end) parts ≡ added_entry ed buffer (reverse es) end parts
    unfolding add_to unless ◌else◌ no_room
    entry_made e h = rw (e, le-leb (end + length (new_bytes ed end parts)) (length buffer) h) refl
