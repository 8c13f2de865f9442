-- A roll weighed for a new entry: by what looking it over said, and by the rules.
use Prim.Native.Nat.{ℕ, ◌+◌, ◌*◌, ◌≤◌, ◌<◌}
use mathlib.Core.Path.{◌≡◌, refl, ap, subst, sym, ◌∙◌}
use mathlib.Core.Logic.{inl, inr}
use Rattle.std.specs.Prelude.{Option, None, Some, Ok, Err}
use mathlib.Core.List.{List, [], ◌∷◌, reverse}
use native.Mathlib.Omega.{arith}
use native.Mathlib.Decide.{dec_lt}
use lib.ListN.{length}
use Rattle.kinds.specs.Limits.{standard}
use Rattle.kinds.proofs.Tests.{never}
use Rattle.roll_rules.specs.Answers.{RollAnswer, edition_1, judged, new_entry}
use Rattle.roll_format.specs.Format.{Entry, says}
use Rattle.roll_rules.specs.Rules.{counts_done, counts_filed, fault}
use Rattle.roll_rules.specs.EntriesBefore.{Behind, EntriesBefore, HasEntriesBefore}
use Rattle.roll_format.specs.EntriesStand.{EntriesStand}
use Rattle.roll_rules.specs.declared.Counts.{Counts}
use Rattle.roll_rules.specs.declared.RollRefusal.{RollRefusal}
use Rattle.roll_rules.specs.declared.Sums.{Sums}
use Rattle.roll_read.specs.Judging.{judged_as}
use Rattle.roll_read.proofs.Reading.{ReadsAs, judged_reads, judged-refused, reads_many}
use Rattle.roll_weigh.specs.Weighed.{Weighed, weighed_at, weight_told}
use Rattle.roll_add.specs.Entering.{Admission, RollWeighed}

-- each entry has four bytes at least
entries_few : (bytes : List ℕ) (from upto : ℕ) (es : List Entry) → EntriesStand bytes from es upto → from + 4 * length es ≤ upto
entries_few bytes from upto [] e = omega arith
entries_few bytes from upto (e ∷ es) (p, (next, whole, low, high, more)) = omega (arith, low, entries_few bytes next upto es more)

pub before_few : {bytes : List ℕ} {es : List Entry} {upto : ℕ} → EntriesBefore bytes es upto → 4 * length es ≤ upto
before_few {bytes} {es} {upto} b = go (dec_lt 0 upto)
  where
    go : Dec (0 < upto) → 4 * length es ≤ upto
    go (yes h) = omega (arith, entries_few bytes 1 upto es (b.stand h))
    go (no h) = omega (arith, ap length (b.none_there (omega arith)))

module _ (roll : List ℕ) {x : RollAnswer} (told : x ≡ judged_as (judged edition_1 roll)) (parts : List (List ℕ)) where
  pub refused-roll : {q : RollRefusal} → x ≡ Err q → {r : Admission} → r ≡ Err q → RollWeighed roll parts r
  refused-roll e is = subst (RollWeighed roll parts) (sym is) (inl (judged-refused roll told e))

  module _ {s : Sums} (e : x ≡ Ok s) where
    it : ReadsAs roll s
    it = judged_reads roll told e

    pub stands_before : HasEntriesBefore roll s.end
    stands_before = record { es = it.es; before = it.before }

    -- what is wrong with the entry
    module _ {w : Weighed} (weighs : Behind roll s.end (λ earlier. ((place : ℕ) → w ≡ weighed_at earlier place parts))) where
      told_so : (o : Option RollRefusal) → fault standard (reverse it.es) (new_entry s.end parts) ≡ o
          → w ≡ weight_told o (counts_filed (reverse it.es) (says parts)) (counts_done (says parts))
      unfolding weighed_at
      told_so o h =
          weighs it.es it.before (new_entry s.end parts).place
          ∙ ap (λ p. weight_told p (counts_filed (reverse it.es) (says parts)) (counts_done (says parts))) h

      pub entry_faulty : {q : RollRefusal} → w ≡ Err q → {r : Admission} → r ≡ Err q → RollWeighed roll parts r
      entry_faulty {q} h is = subst (RollWeighed roll parts) (sym is) (go (fault standard (reverse it.es) (new_entry s.end parts)) refl)
        where
          go : (o : Option RollRefusal) → fault standard (reverse it.es) (new_entry s.end parts) ≡ o → RollWeighed roll parts (Err q)
          go None g = never (let z = told_so None g in cc)
          go (Some r) g = let z = told_so (Some r) g in let same : r ≡ q = cc in inr (it.es, s.end, it.reads, g ∙ ap Some same)

      pub entry_fine : {counts : Counts} → w ≡ Ok counts → RollWeighed roll parts (Ok (s, counts))
      entry_fine {counts} h = go (fault standard (reverse it.es) (new_entry s.end parts)) refl
        where
          go : (o : Option RollRefusal) → fault standard (reverse it.es) (new_entry s.end parts) ≡ o → RollWeighed roll parts (Ok (s, counts))
          go (Some r) g = never (let z = told_so (Some r) g in cc)
          go None g =
              let z = told_so None g in
              let same : counts ≡ record { filed = counts_filed (reverse it.es) (says parts); done = counts_done (says parts) } = cc in
              record {
                es = it.es;
                reads = it.reads;
                comes = it.comes;
                within = it.before.within;
                few = omega (arith, before_few it.before, reads_many it);
                short = it.before.short;
                fine = g;
                filed_so = ap (λ (c : Counts). c.filed) same;
                done_so = ap (λ (c : Counts). c.done) same;
              }
