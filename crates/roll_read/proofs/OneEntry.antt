-- One entry, as the code finds it and as the definition tells it.
use Prim.Native.Nat.{ℕ, ◌+◌, ◌≤◌, ◌<◌}
use mathlib.Core.Path.{◌≡◌, refl, ap, ap₂, sym, subst, ◌∙◌}
use mathlib.Core.List.{List, [], ◌∷◌}
use native.Mathlib.Omega.{arith}
use borrow.Author.Tests.{le-ltb, lt-ltb}
use lib.ListN.{length, drop}
use Rattle.std.specs.Prelude.{Option, Some, None, Err}
use Rattle.stored.specs.Counted.{AtFront, CUT, FRONT}
use Rattle.roll_rules.specs.Answers.{EntryAnswer, entry_told, found_entry, one_entry}
use Rattle.roll_format.specs.Format.{entry, longest}
use Rattle.roll_rules.specs.declared.EntryRefusal.TheVariants.{NoEntry, TooLong}
use Rattle.roll_entries.specs.declared.EntryAt.{EntryAt}
use Rattle.roll_entries.specs.declared.EntryAt.TheVariants.{Known, Other}
use Rattle.roll_format.specs.declared.EntryKind.{EntryKind}
use Rattle.stored.specs.declared.Span.{Span}
use Rattle.roll_entries.specs.Entries.{entry_at, parts_told}
use Rattle.roll_entries.proofs.Parts.{EntryFound, entry_found}

pub entry_too_long : (bytes : List ℕ) (at : ℕ) → longest < length bytes → Err TooLong ≡ one_entry bytes at
unfolding one_entry
entry_too_long bytes at h = rw (lt-ltb longest (length bytes) h) refl

-- the code's three answers
abbrev answered : Option EntryAt → EntryAnswer
answered None = Err NoEntry
answered (Some (Other next)) = Err NoEntry
answered (Some (Known kind job text next)) = found_entry job.at job.len text.at text.len

module _ (bytes : List ℕ) (at : ℕ) (short : length bytes ≤ longest) where
  told_alike : (x : AtFront (List (List ℕ))) → answered (parts_told bytes (at + 4) x) ≡ entry_told at x
  unfolding entry_told
  told_alike CUT = refl
  told_alike (FRONT [] rest) = refl
  told_alike (FRONT (job ∷ []) rest) = ap (λ k. found_entry k (length job) 0 0) (let e : at + 4 + 4 ≡ at + 8 = omega arith in e)
  told_alike (FRONT (job ∷ text ∷ []) rest) =
      ap₂ (λ j k. found_entry j (length job) k (length text)) (let e : at + 4 + 4 ≡ at + 8 = omega arith in e)
      (let e : at + 4 + 4 + length job + 4 ≡ at + 12 + length job = omega arith in e)
  told_alike (FRONT (a ∷ b ∷ c ∷ more) rest) = refl

  module _ {x : Option EntryAt} (told : x ≡ entry_at bytes at) where
    answered_so : answered x ≡ one_entry bytes at
    unfolding one_entry entry_at
    answered_so = rw (le-ltb longest (length bytes) short) (ap answered told ∙ told_alike (entry (drop at bytes)))

    pub entry_torn : x ≡ None → Err NoEntry ≡ one_entry bytes at
    entry_torn e = sym (ap answered e) ∙ answered_so

    pub entry_other : {next : ℕ} → x ≡ Some (Other next) → Err NoEntry ≡ one_entry bytes at
    entry_other e = sym (ap answered e) ∙ answered_so

    module _ {kind : EntryKind} {job text : Span} {next : ℕ} (e : x ≡ Some (Known kind job text next)) where
      pub entry_known : found_entry job.at job.len text.at text.len ≡ one_entry bytes at
      entry_known = sym (ap answered e) ∙ answered_so

      -- and its places and lengths are short enough to be told
      pub known_fits : (job.at + job.len ≤ longest) × (text.at + text.len ≤ longest)
      known_fits =
          let k = subst (EntryFound bytes at) (sym told ∙ e) (entry_found bytes at) in
          (omega (arith, k.job_within, short), omega (arith, k.text_within, short))
