-- What looking over a roll says of its entries, and what reading it then answers.
use Prim.Native.Nat.{ℕ, ◌≤◌, ◌<◌}
use mathlib.Core.Path.{◌≡◌, refl, ap, sym, ◌∙◌, subst}
use mathlib.Core.List.{List, ◌++◌, reverse}
use native.Mathlib.Omega.{arith}
use lib.ListN.{length, take, drop, length-reverse}
use lib.Seq.{length-take-le}
use Rattle.std.specs.Prelude.{Ok, Err}
use Rattle.kinds.proofs.Tests.{never}
use Rattle.roll_rules.specs.Answers.{Judged, ENTRIES, REFUSED, Read, RollAnswer, edition_1, judged, places, read_roll, sums}
use Rattle.roll_format.specs.Format.{Entry}
use Rattle.roll_rules.specs.EntriesBefore.{EntriesBefore}
use Rattle.roll_rules.specs.declared.RollRefusal.{RollRefusal}
use Rattle.roll_rules.specs.declared.RollRefusal.TheVariants.{MoreEntries}
use Rattle.roll_rules.specs.declared.Sums.{Sums}
use Rattle.roll_rules.proofs.Reading.{read_fits, read_refuses, read_short}
use Rattle.roll_rules.proofs.Sound.{reads_before}
use Rattle.roll_read.specs.Calls.{Lists}
use Rattle.roll_read.specs.Judging.{Fillable, judged_as}
use Rattle.roll_read.proofs.Filling.{front_filled}

-- a roll that reads: what its entries come to, and where they stand
pub record ReadsAs (bytes : List ℕ) (s : Sums) : Type 0 where
  pub es : List Entry
  pub reads : judged edition_1 bytes ≡ ENTRIES es s.end
  pub comes : s ≡ sums (reverse es) s.end
  pub before : EntriesBefore bytes es s.end

pub reads_many : {bytes : List ℕ} {s : Sums} (r : ReadsAs bytes s) → s.entries ≡ length r.es
reads_many r = ap (λ (x : Sums). x.entries) r.comes ∙ length-reverse r.es

module _ (bytes : List ℕ) {x : RollAnswer} (told : x ≡ judged_as (judged edition_1 bytes)) where
  pub judged-refused : {r : RollRefusal} → x ≡ Err r → judged edition_1 bytes ≡ REFUSED r
  judged-refused {r} e = go (judged edition_1 bytes) refl (sym told ∙ e)
    where
      go : (y : Judged) → judged edition_1 bytes ≡ y → judged_as y ≡ Err r → judged edition_1 bytes ≡ REFUSED r
      go (ENTRIES es end) h g = never cc
      go (REFUSED q) h g = h ∙ ap REFUSED (let same : q ≡ r = cc in same)

  pub judged_reads : {s : Sums} → x ≡ Ok s → ReadsAs bytes s
  judged_reads {s} e = go (judged edition_1 bytes) refl (sym told ∙ e)
    where
      go : (y : Judged) → judged edition_1 bytes ≡ y → judged_as y ≡ Ok s → ReadsAs bytes s
      go (ENTRIES es end) h g =
          let is : sums (reverse es) end ≡ s = cc in
          let ends : end ≡ s.end = ap (λ (z : Sums). z.end) is in
          let reads = h ∙ ap (ENTRIES es) ends in
          record { es = es; reads = reads; comes = sym is ∙ ap (sums (reverse es)) ends; before = reads_before bytes reads }
      go (REFUSED q) h g = never cc

module _ (bytes list : List ℕ) where
  lists_by : {r : RollAnswer} {list' : List ℕ} → read_roll edition_1 bytes list ≡ record { answer = r; list = list' } → Lists bytes list r list'
  lists_by e = record { answer = sym (ap (λ (x : Read). x.answer) e); places = sym (ap (λ (x : Read). x.list) e) }

  pub lists_refused : {r : RollRefusal} {a : RollAnswer} → judged edition_1 bytes ≡ REFUSED r → a ≡ Err r → Lists bytes list a list
  lists_refused e is = subst (λ (x : RollAnswer). Lists bytes list x list) (sym is) (lists_by (read_refuses edition_1 bytes list e))

  module _ {s : Sums} (r : ReadsAs bytes s) where
    pub lists_short : length list < s.entries → Lists bytes list (Err (MoreEntries s.entries)) list
    lists_short h =
        subst (λ k. Lists bytes list (Err (MoreEntries k)) list) (sym (reads_many r)) (lists_by (read_short edition_1 bytes list r.reads (omega (arith, reads_many r))))

    module _ (room : s.entries ≤ length list) where
      pub lists_fillable : Fillable bytes s.end (length (take s.entries list))
      lists_fillable = record { es = r.es; before = r.before; room = sym (reads_many r) ∙ sym (length-take-le s.entries list room) }

      pub lists_filled : {last : List ℕ} → ((es : List Entry) → EntriesBefore bytes es s.end → last ≡ places es) → Lists bytes list (Ok s) (last ++ drop s.entries list)
      lists_filled {last} h =
          let it = lists_by (read_fits edition_1 bytes list r.reads (omega (arith, reads_many r))) in
          record { answer = ap Ok r.comes ∙ it.answer; places = front_filled r.es list last (reads_many r) (h r.es r.before) ∙ it.places }
