-- The walk over the entries before a place: how the job stands by those passed, and the others still ahead.
use Prim.Native.Nat.{ℕ, ◌-◌, ◌≤◌, ◌<◌}
use mathlib.Core.Path.{◌≡◌, refl, ap, ap₂, sym, subst, ◌∙◌}
use mathlib.Core.Logic.{◌≢◌}
use mathlib.Core.List.{List, [], ◌∷◌, ◌++◌, reverse, reverse-append}
use native.Mathlib.Omega.{arith}
use lib.ListN.{length}
use Rattle.std.specs.Prelude.{Option}
use Rattle.roll_entries.specs.declared.EntryAt.{EntryAt}
use Rattle.roll_entries.specs.Entries.{EntryWithin, entry_at, next_told, says_told}
use Rattle.roll_entries.proofs.Parts.{Tells, entry_tells}
use Rattle.roll_format.specs.Format.{Entry}
use Rattle.roll_rules.specs.Rules.{UNFILED, newest, standing}
use Rattle.roll_rules.specs.EntriesBefore.{EntriesBefore, HasEntriesBefore}
use Rattle.roll_format.specs.EntriesStand.{EntriesStand}
use Rattle.roll_format.proofs.NextEntry.{NextEntry, next-entry, stand_once}
use Rattle.roll_format.proofs.Format.{stands_on, stands_within}
use Rattle.roll_standing.specs.Looking.{StandingWithin, standing_told}
use Rattle.roll_standing.specs.declared.StandingAt.{StandingAt}
use Rattle.roll_standing.specs.declared.StandingAt.TheVariants.{Unfiled}

-- before 0 there is no entry
pub unfiled_at_0 : (roll job : List ℕ) {upto : ℕ} → upto ≡ 0 → (es : List Entry) → EntriesBefore roll es upto → UNFILED ≡ standing job (reverse es)
unfolding standing
unfiled_at_0 roll job e es b = sym (ap (λ fs. standing job (reverse fs)) (b.none_there e))

pub record LookedBack (roll job : List ℕ) (upto at : ℕ) (found : StandingAt) : Type 0 where
  pub gone : List Entry
  pub come : List Entry
  pub passed : EntriesStand roll 1 gone at
  pub ahead : EntriesStand roll at come upto
  pub within : StandingWithin roll found
  pub told : standing_told roll found ≡ standing job (reverse gone)

pub looked_first : {roll : List ℕ} (job : List ℕ) {upto : ℕ} → HasEntriesBefore roll upto → upto ≢ 0 → LookedBack roll job upto 1 Unfiled
unfolding standing
looked_first job s h = record { gone = []; come = s.es; passed = refl; ahead = s.before.stand (omega arith); within = tt; told = refl }

module _ {roll job : List ℕ} {upto at : ℕ} {found : StandingAt} (l : LookedBack roll job upto at found) where
  pub looked_end : upto ≢ 0 → at ≡ upto → (es : List Entry) → EntriesBefore roll es upto → standing_told roll found ≡ standing job (reverse es)
  looked_end h e es b =
      let same = stand_once roll 1 upto l.gone es (subst (EntriesStand roll 1 l.gone) e l.passed) (b.stand (omega arith)) in
      l.told ∙ ap (λ x. standing job (reverse x)) same

  module _ (more : at ≢ upto) where
    here : NextEntry roll at upto l.come
    here = next-entry roll at upto more l.come l.ahead

    tells : Tells roll at here.first.parts here.next
    tells = entry_tells roll at here.next here.high here.first.parts here.whole

    pub looked_within : (x : Option EntryAt) → x ≡ entry_at roll at → EntryWithin roll x
    looked_within x is = subst (EntryWithin roll) (sym is) tells.within

    pub looked_there : at ≤ length roll
    looked_there = omega (arith, here.low, here.high)

    module _ (x : Option EntryAt) (next : ℕ) (is : x ≡ entry_at roll at) (there : next ≡ next_told x upto) where
      far : next ≡ here.next
      far = there ∙ ap (λ (y : Option EntryAt). next_told y upto) is ∙ tells.behind upto

      pub looked_less : upto - next < upto - at
      looked_less = omega (arith, far, here.low, stands_within roll here.next upto here.others here.stand)

      pub looked_on : (found' : StandingAt) → StandingWithin roll found'
          → standing_told roll found' ≡ newest job at (says_told roll x) (standing_told roll found) → LookedBack roll job upto next found'
      unfolding standing
      looked_on found' inside made =
          let e : Entry = record { place = at; parts = here.first.parts } in
          record {
            gone = l.gone ++ e ∷ [];
            come = here.others;
            passed = subst (EntriesStand roll 1 (l.gone ++ e ∷ [])) (sym far) (stands_on roll 1 at here.next l.gone l.passed here.whole here.low here.high);
            ahead = subst (λ k. EntriesStand roll k here.others upto) (sym far) here.stand;
            within = inside;
            told =
                made ∙ ap₂ (newest job at) (ap (says_told roll) is ∙ tells.tells) l.told
                ∙ ap (standing job) (sym (reverse-append l.gone (e ∷ [])));
          }
