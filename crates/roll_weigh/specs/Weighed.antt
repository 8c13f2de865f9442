-- What the code says of an entry: what is wrong with it, or what it adds to the tally.
use Rattle.std.specs.Prelude.{ℕ, Bool, true, false, cond, List, Result, Ok, Err}
use Rattle.std.specs.Prelude.{Option, None, Some}
use Rattle.kinds.specs.Limits.{standard}
use Rattle.roll_format.specs.Format.{Entry, says}
use Rattle.roll_rules.specs.Rules.{after_done, counts_done, counts_filed, fault, is_new, is_printed, standing, unfinished}
use Rattle.roll_rules.specs.declared.Counts.{Counts}
use Rattle.roll_rules.specs.declared.RollRefusal.{RollRefusal}
use Rattle.roll_rules.specs.declared.RollRefusal.TheVariants.{BadText}

abbrev pub Weighed : Type 0
Weighed = Result Counts RollRefusal

-- nothing is wrong, and it counts as this
abbrev pub fine : (filed done : Bool) → Weighed
fine filed done = Ok (record { filed = filed; done = done })

abbrev pub weight_told : Option RollRefusal → (filed done : Bool) → Weighed
weight_told None filed done = fine filed done
weight_told (Some r) filed done = Err r

-- the entry with these sections at a place
unfoldable pub weighed_at : (earlier : List Entry) → (place : ℕ) → (parts : List (List ℕ)) → Weighed
weighed_at earlier place parts =
    weight_told (fault standard earlier (record { place = place; parts = parts })) (counts_filed earlier (says parts)) (counts_done (says parts))

-- the same of an entry of each kind whose job number is right
unfoldable pub weighed_filed : (earlier : List Entry) → (job text : List ℕ) → Weighed
weighed_filed earlier job text = weight_told (cond (is_printed standard text) (after_done (standing job earlier)) (Some BadText)) (is_new (standing job earlier)) false

unfoldable pub weighed_done : (earlier : List Entry) → (job : List ℕ) → Weighed
weighed_done earlier job = weight_told (unfinished standard (standing job earlier)) false true
