-- How a job stands behind one entry more, by what the code finds the entry to be.
use Prim.Native.Nat.{ℕ}
use mathlib.Core.Path.{◌≡◌, refl, ap, sym, subst, ◌∙◌}
use mathlib.Core.Bool.{Bool, true, false, cond, not, ◌&&◌}
use mathlib.Core.List.{List, [], ◌∷◌}
use lib.Dec.{eqb}
use lib.Pointwise.{pointwise}
use Rattle.std.specs.Prelude.{Option, Some, None}
use Rattle.stored.specs.Same.{same}
use Rattle.stored.specs.Spans.{part}
use Rattle.stored.specs.declared.Span.{Span}
use Rattle.roll_entries.specs.declared.EntryAt.{EntryAt}
use Rattle.roll_entries.specs.declared.EntryAt.TheVariants.{Known, Other}
use Rattle.roll_entries.specs.Entries.{EntryWithin, says_told}
use Rattle.roll_format.specs.Format.{parts_of, says}
use Rattle.roll_rules.specs.Rules.{JobStanding, FILED_AT, DONE_AT, newest}
use Rattle.roll_format.specs.declared.EntryKind.{EntryKind}
use Rattle.roll_format.specs.declared.EntryKind.TheVariants.{Filed, Done}

pub within_by : (bytes : List ℕ) {e x : Option EntryAt} → e ≡ x → EntryWithin bytes e → EntryWithin bytes x
within_by bytes is h = subst (EntryWithin bytes) is h

-- byte for byte, as the code asks it
pub bytes_told : (xs ys : List ℕ) → pointwise eqb xs ys ≡ same xs ys
unfolding same
bytes_told [] [] = refl
bytes_told [] (y ∷ ys) = refl
bytes_told (x ∷ xs) [] = refl
bytes_told (x ∷ xs) (y ∷ ys) = ap (eqb x y &&◌) (bytes_told xs ys)

-- the code asks whether they differ
pub job_told : {r t : Bool} {p a : List ℕ} (b : List ℕ) → r ≡ t → r ≡ not (pointwise eqb p b) → p ≡ a → same a b ≡ not t
job_told {r} {t} {p} {a} b is h e = ap (λ x. same x b) (sym e) ∙ sym (bytes_told p b) ∙ sym (not-not (pointwise eqb p b)) ∙ ap not (sym h ∙ is)
  where
    not-not : (x : Bool) → not (not x) ≡ x
    not-not true = refl
    not-not false = refl

module _ (bytes job : List ℕ) (at : ℕ) (older : JobStanding) {e : Option EntryAt} where
  newest_by : {x : Option EntryAt} → e ≡ x → newest job at (says_told bytes x) older ≡ newest job at (says_told bytes e) older
  newest_by is = ap (λ (y : Option EntryAt). newest job at (says_told bytes y) older) (sym is)

  pub torn_older : e ≡ None → older ≡ newest job at (says_told bytes e) older
  unfolding newest
  torn_older is = newest_by is

  pub other_older : {next : ℕ} → e ≡ Some (Other next) → older ≡ newest job at (says_told bytes e) older
  unfolding newest
  other_older is = newest_by is

  module _ {kind : EntryKind} {found text : Span} {next : ℕ} (is : e ≡ Some (Known kind found text next)) where
    -- of another job, whatever it is
    pub of_another : same (part bytes found) job ≡ false → older ≡ newest job at (says_told bytes e) older
    unfolding newest says
    of_another h = go kind ∙ newest_by is
      where
        go : (k : EntryKind) → older ≡ newest job at (says (parts_of k (part bytes found) (part bytes text))) older
        go Filed = sym (ap (λ (b : Bool). cond b (FILED_AT at (part bytes text)) older) h)
        go Done = sym (ap (λ (b : Bool). cond b (DONE_AT at) older) h)

    pub filed-same : same (part bytes found) job ≡ true → kind ≡ Filed → FILED_AT at (part bytes text) ≡ newest job at (says_told bytes e) older
    unfolding newest says
    filed-same h k =
        sym (ap (λ (b : Bool). cond b (FILED_AT at (part bytes text)) older) h)
        ∙ ap (λ (x : EntryKind). newest job at (says (parts_of x (part bytes found) (part bytes text))) older) (sym k) ∙ newest_by is

    pub done-same : same (part bytes found) job ≡ true → kind ≡ Done → DONE_AT at ≡ newest job at (says_told bytes e) older
    unfolding newest says
    done-same h k =
        sym (ap (λ (b : Bool). cond b (DONE_AT at) older) h)
        ∙ ap (λ (x : EntryKind). newest job at (says (parts_of x (part bytes found) (part bytes text))) older) (sym k) ∙ newest_by is
