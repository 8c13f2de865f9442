-- What `file` and `close_job` share: an entry added, and then counted, is what they promise.
use mathlib.Core.Path.{◌≡◌, refl, ap, ◌∙◌, subst, sym}
use mathlib.Core.Bool.{Bool}
use mathlib.Core.List.{List}
use Prim.Native.Nat.{ℕ}
use Rattle.std.specs.Prelude.{Err}
use Rattle.roll_rules.specs.Answers.{Added, RollAnswer, grown}
use Rattle.roll_rules.specs.declared.RollRefusal.{RollRefusal}
use Rattle.roll_rules.specs.declared.Tally.{Tally}
use Rattle.roll_add.specs.Calls.{Adds}
use Rattle.roll_add.specs.Entering.{Entering, TallyCounted, EnteredAs}

pub adds : (a : Added) (h k : Tally) (e : Entering) (r : RollAnswer) (zs : List ℕ) → EnteredAs a e zs → TallyCounted h e r k → Adds a h r zs k
adds a h k e r zs n c = record {
  answer = c.0 ∙ n.answer;
  bytes = n.bytes;
  filed = c.1 ∙ ap (λ (more : Bool). grown more h.filed) n.more_filed;
  done = c.2 ∙ ap (λ (more : Bool). grown more h.done) n.more_done;
}

-- nothing of a refusal is counted
pub counted_none : (h : Tally) {q : RollRefusal} {e : Entering} {r : RollAnswer} → e ≡ Err q → r ≡ Err q → TallyCounted h e r h
unfolding grown
counted_none h {q} {e} {r} is said = subst (λ (x : Entering). TallyCounted h x r h) (sym is) (said, refl, refl)
