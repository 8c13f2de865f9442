-- The walk that judges a roll: the entries passed obey the rules and are counted, and the others still come.
use Prim.Native.Nat.{ℕ, ◌+◌, ◌-◌, ◌*◌, ◌≤◌, ◌<◌}
use mathlib.Core.Path.{◌≡◌, refl, ap, ap₂, sym, subst, ◌∙◌}
use mathlib.Core.Logic.{◌≢◌}
use mathlib.Core.Bool.{cond}
use Rattle.std.specs.Prelude.{Option, Some, None, Ok, Err}
use mathlib.Core.List.{List, [], ◌∷◌, ◌++◌, append-nil, reverse, reverse-append}
use native.Mathlib.Omega.{arith}
use borrow.Author.Tests.{eq-eqb, le-ltb, lt-ltb, ne_eqb}
use lib.ListN.{length, drop, get_or, length-drop}
use lib.Seq.{drop-cons}
use Rattle.kinds.specs.Limits.{standard}
use Rattle.kinds.proofs.Tests.{never}
use Rattle.stored.specs.Counted.{AtFront, CUT, FRONT, largest}
use Rattle.roll_rules.specs.Answers.{by_rules, edition_1, judged, sums, unbroken}
use Rattle.roll_format.specs.Format.{Entry, Listing, entry, listing, longest, parts_of, roll, says, with_first}
use Rattle.roll_rules.specs.Rules.{broken, counts_done, counts_filed, done, fault, fault_of, filed}
use Rattle.roll_rules.specs.EntriesBefore.{EntriesBefore, HasEntriesBefore, one_entry_more}
use Rattle.roll_format.specs.EntriesStand.{EntriesStand}
use Rattle.roll_rules.specs.declared.Counts.{Counts}
use Rattle.roll_rules.specs.declared.RollRefusal.{RollRefusal}
use Rattle.roll_rules.specs.declared.RollRefusal.TheVariants.{TooLong, BadRoll}
use Rattle.roll_rules.specs.declared.Sums.{Sums}
use Rattle.roll_rules.proofs.Growing.{sums_on}
use Rattle.roll_format.proofs.Format.{entry-there, front_end, front_entries, in_front, listing-cut, listing_stands, listing-whole, stands_on}
use Rattle.roll_rules.proofs.Rules.{broken-at, obeyed_on}
use Rattle.roll_entries.specs.declared.EntryAt.{EntryAt}
use Rattle.roll_entries.specs.declared.EntryAt.TheVariants.{Known, Other}
use Rattle.roll_entries.specs.Entries.{entry_at}
use Rattle.roll_entries.proofs.Parts.{EntryFound, KnownAt, entry_found}
use Rattle.roll_format.specs.declared.EntryKind.{EntryKind}
use Rattle.stored.specs.Spans.{part}
use Rattle.stored.specs.declared.Span.{Span}
use Rattle.roll_weigh.specs.Weighed.{Weighed, weighed_at, weight_told}
use Rattle.roll_read.specs.Judging.{Judgement, entry_judged, judged_as, judged_entry, weight_judged}
use Rattle.roll_read.specs.declared.JudgedEntry.{JudgedEntry}

-- one entry, by what the code finds it to be

module _ (bytes : List ℕ) (at : ℕ) {x : Option EntryAt} (is : x ≡ entry_at bytes at) where
  found : {y : Option EntryAt} → x ≡ y → EntryFound bytes at y
  found e = subst (EntryFound bytes at) (sym is ∙ e) (entry_found bytes at)

  pub known : {kind : EntryKind} {job text : Span} {next : ℕ} → x ≡ Some (Known kind job text next) → KnownAt bytes at kind job text next
  known e = found e

  module _ (earlier : List Entry) where
    pub torn_judged : x ≡ None → Ok None ≡ entry_judged earlier at (entry (drop at bytes)) bytes
    unfolding entry_judged
    torn_judged e = sym (ap (λ f. entry_judged earlier at f bytes) (found e))

    pub other_judged : {next : ℕ} → x ≡ Some (Other next) → Err (BadRoll at) ≡ entry_judged earlier at (entry (drop at bytes)) bytes
    unfolding entry_judged weighed_at fault fault_of
    other_judged e =
        let o = found e in
        let wrong : fault standard earlier (record { place = at; parts = o.parts }) ≡ Some (BadRoll at) = ap (fault_of standard earlier at) o.neither in
        sym (ap (λ f. entry_judged earlier at f bytes) o.whole
        ∙ ap (λ w. weight_judged at (weight_told w (counts_filed earlier (says o.parts)) (counts_done (says o.parts))) (length bytes - length o.rest)) wrong)

    module _ {kind : EntryKind} {job text : Span} {next : ℕ} (e : x ≡ Some (Known kind job text next)) {ps : List (List ℕ)} (its : ps ≡ parts_of kind (part bytes job) (part bytes text))
        {w : Weighed} (weighs : w ≡ weighed_at earlier at ps) where
      by_weight : weight_judged at w next ≡ entry_judged earlier at (entry (drop at bytes)) bytes
      unfolding entry_judged
      by_weight =
          let k = known e in
          ap (λ (v : Weighed). weight_judged at v next) (weighs ∙ ap (weighed_at earlier at) its)
          ∙ ap (weight_judged at (weighed_at earlier at (parts_of kind (part bytes job) (part bytes text)))) k.there
          ∙ sym (ap (λ f. entry_judged earlier at f bytes) k.whole)

      pub faulty_judged : {r : RollRefusal} → w ≡ Err r → Err (BadRoll at) ≡ entry_judged earlier at (entry (drop at bytes)) bytes
      faulty_judged h = sym (ap (λ (v : Weighed). weight_judged at v next) h) ∙ by_weight

      pub fine_judged : {counts : Counts} → w ≡ Ok counts → Ok (Some (judged_entry next counts)) ≡ entry_judged earlier at (entry (drop at bytes)) bytes
      fine_judged h = sym (ap (λ (v : Weighed). weight_judged at v next) h) ∙ by_weight

-- what was judged of an entry says what stands there

module _ (earlier : List Entry) (at : ℕ) (bytes : List ℕ) where
  abbrev entry_of : List (List ℕ) → Entry
  entry_of parts = record { place = at; parts = parts }

  unjudge_torn : (x : AtFront (List (List ℕ))) → Ok None ≡ entry_judged earlier at x bytes → x ≡ CUT
  unfolding entry_judged weighed_at
  unjudge_torn CUT e = refl
  unjudge_torn (FRONT parts rest) e = go (fault standard earlier (entry_of parts)) e
    where
      go : (o : Option RollRefusal) → Ok None ≡ weight_judged at (weight_told o (counts_filed earlier (says parts)) (counts_done (says parts))) (length bytes - length rest) → FRONT parts rest ≡ CUT
      go None h = never cc
      go (Some r) h = never cc

  record FaultyEntry (x : AtFront (List (List ℕ))) (told : RollRefusal) : Type 0 where
    parts : List (List ℕ)
    rest : List ℕ
    whole : x ≡ FRONT parts rest
    why : RollRefusal
    wrong : fault standard earlier (entry_of parts) ≡ Some why
    by_place : told ≡ BadRoll at

  unjudge_broken : (x : AtFront (List (List ℕ))) {q : RollRefusal} → Err q ≡ entry_judged earlier at x bytes → FaultyEntry x q
  unfolding entry_judged weighed_at
  unjudge_broken CUT e = never cc
  unjudge_broken (FRONT parts rest) {q} e = go (fault standard earlier (entry_of parts)) refl e
    where
      go : (o : Option RollRefusal) → fault standard earlier (entry_of parts) ≡ o
          → Err q ≡ weight_judged at (weight_told o (counts_filed earlier (says parts)) (counts_done (says parts))) (length bytes - length rest) → FaultyEntry (FRONT parts rest) q
      go None h g = never cc
      go (Some r) h g = record { parts = parts; rest = rest; whole = refl; why = r; wrong = h; by_place = let same : q ≡ BadRoll at = cc in same }

  record FineEntry (x : AtFront (List (List ℕ))) (next : ℕ) (counts : Counts) : Type 0 where
    parts : List (List ℕ)
    rest : List ℕ
    whole : x ≡ FRONT parts rest
    fine : fault standard earlier (entry_of parts) ≡ None
    there : next ≡ length bytes - length rest
    more_filed : counts.filed ≡ counts_filed earlier (says parts)
    more_done : counts.done ≡ counts_done (says parts)

  unjudge_fine : (x : AtFront (List (List ℕ))) {next : ℕ} {counts : Counts} → Ok (Some (judged_entry next counts)) ≡ entry_judged earlier at x bytes → FineEntry x next counts
  unfolding entry_judged weighed_at
  unjudge_fine CUT e = never cc
  unjudge_fine (FRONT parts rest) {next} {counts} e = go (fault standard earlier (entry_of parts)) refl e
    where
      go : (o : Option RollRefusal) → fault standard earlier (entry_of parts) ≡ o
          → Ok (Some (judged_entry next counts)) ≡ weight_judged at (weight_told o (counts_filed earlier (says parts)) (counts_done (says parts))) (length bytes - length rest) → FineEntry (FRONT parts rest) next counts
      go None h g =
          let same : judged_entry next counts ≡ judged_entry (length bytes - length rest) (record { filed = counts_filed earlier (says parts); done = counts_done (says parts) }) = cc in
          record {
            parts = parts;
            rest = rest;
            whole = refl;
            fine = h;
            there = ap (λ (j : JudgedEntry). j.next) same;
            more_filed = ap (λ (j : JudgedEntry). j.counts.filed) same;
            more_done = ap (λ (j : JudgedEntry). j.counts.done) same;
          }
      go (Some r) h g = never cc

pub record JudgedSoFar (bytes : List ℕ) (s : Sums) : Type 0 where
  pub es : List Entry
  pub stand : EntriesStand bytes 1 es s.end
  pub within : s.end ≤ length bytes
  pub short : length bytes ≤ longest
  pub comes : s ≡ sums (reverse es) s.end
  pub few : 4 * s.entries < s.end
  pub obeyed : broken standard [] es ≡ None

pub judged-first : {bytes : List ℕ} → 1 ≤ length bytes → length bytes ≤ longest → JudgedSoFar bytes (record { entries = 0; filed = 0; done = 0; end = 1 })
unfolding filed done broken
judged-first one short =
    record { es = []; stand = refl; within = one; short = short; comes = refl; few = omega arith; obeyed = refl }

module _ {bytes : List ℕ} {s : Sums} (j : JudgedSoFar bytes s) where
  before : EntriesBefore bytes j.es s.end
  before = record { short = j.short; within = j.within; none_there = λ z. absurd (omega (arith, z, j.few)); stand = λ _. j.stand; obeyed = j.obeyed }

  pub judged_before : HasEntriesBefore bytes s.end
  judged_before = record { es = j.es; before = before }

  all : listing 0 1 (drop 1 bytes) ≡ in_front j.es (listing 0 s.end (drop s.end bytes))
  all = listing_stands bytes 1 s.end j.es j.stand

  module _ {r : Judgement} (judges : (es : List Entry) → EntriesBefore bytes es s.end → r ≡ entry_judged (reverse es) s.end (entry (drop s.end bytes)) bytes) where
    weight : r ≡ entry_judged (reverse j.es) s.end (entry (drop s.end bytes)) bytes
    weight = judges j.es before

    pub judged_torn : r ≡ Ok None → Ok s ≡ judged_as (by_rules standard (Some (listing 0 1 (drop 1 bytes))))
    unfolding by_rules unbroken
    judged_torn e =
        let cut = unjudge_torn (reverse j.es) s.end bytes (entry (drop s.end bytes)) (sym e ∙ weight) in
        let rest = listing-cut bytes s.end cut j.within in
        let listed : (listing 0 1 (drop 1 bytes)).entries ≡ j.es =
        ap (λ (l : Listing). l.entries) all ∙ front_entries j.es _ ∙ ap (λ (l : Listing). j.es ++ l.entries) rest ∙ append-nil j.es in
        let ends : (listing 0 1 (drop 1 bytes)).end ≡ s.end =
        ap (λ (l : Listing). l.end) all ∙ front_end j.es _ ∙ ap (λ (l : Listing). l.end) rest in
        let fine : broken standard [] (listing 0 1 (drop 1 bytes)).entries ≡ None = ap (broken standard []) listed ∙ j.obeyed in
        ap Ok j.comes ∙ sym (rw (fine, listed, ends) refl)

    pub judged-broken : {q : RollRefusal} → r ≡ Err q → Err q ≡ judged_as (by_rules standard (Some (listing 0 1 (drop 1 bytes))))
    unfolding by_rules unbroken with_first
    judged-broken e =
        let f = unjudge_broken (reverse j.es) s.end bytes (entry (drop s.end bytes)) (sym e ∙ weight) in
        let (next, is, low, high) = entry-there bytes s.end j.within f.whole in
        let first : Entry = record { place = s.end; parts = f.parts } in
        let others = (listing 0 next (drop next bytes)).entries in
        let listed : (listing 0 1 (drop 1 bytes)).entries ≡ j.es ++ first ∷ others =
        ap (λ (l : Listing). l.entries) all ∙ front_entries j.es _
        ∙ ap (λ (l : Listing). j.es ++ l.entries) (listing-whole bytes s.end next (f.whole ∙ ap (FRONT f.parts) is) low high) in
        let breaks : broken standard [] (listing 0 1 (drop 1 bytes)).entries ≡ Some s.end =
        ap (broken standard []) listed ∙ broken-at standard j.es j.obeyed first f.wrong others in
        ap Err f.by_place ∙ sym (rw breaks refl)

    module _ {i : JudgedEntry} (fine : r ≡ Ok (Some i)) where
      its : FineEntry (reverse j.es) s.end bytes (entry (drop s.end bytes)) i.next i.counts
      its = unjudge_fine (reverse j.es) s.end bytes (entry (drop s.end bytes)) (sym fine ∙ weight)

      there : (n : ℕ) × (its.rest ≡ drop n bytes) × (s.end + 4 ≤ n) × (n ≤ length bytes)
      there = entry-there bytes s.end j.within its.whole

      next_is : i.next ≡ there.0
      next_is = let high = there.3 in its.there ∙ omega (arith, ap length there.1, length-drop there.0 bytes)

      first : Entry
      first = record { place = s.end; parts = its.parts }

      pub judged_room : s.entries < largest
      judged_room = omega (arith, j.few, j.short, j.within)

      pub judged-next : i.next ≤ length bytes
      judged-next = let high = there.3 in omega (arith, next_is)

      pub judged_less : {s' : Sums} → s' ≡ one_entry_more s i.counts.filed i.counts.done i.next → length bytes - s'.end < length bytes - s.end
      judged_less e = let low = there.2 in let high = there.3 in omega (arith, next_is, ap (λ (x : Sums). x.end) e)

      on : JudgedSoFar bytes (one_entry_more s i.counts.filed i.counts.done i.next)
      unfolding first
      on =
          let low = there.2 in
          let high = there.3 in
          let newest : reverse (j.es ++ first ∷ []) ≡ first ∷ reverse j.es = reverse-append j.es (first ∷ []) in
          let many : length (reverse j.es) < largest = omega (arith, judged_room, ap (λ (x : Sums). x.entries) j.comes) in
          record {
            es = j.es ++ first ∷ [];
            stand = subst (EntriesStand bytes 1 (j.es ++ first ∷ [])) (sym next_is)
                (stands_on bytes 1 s.end there.0 j.es j.stand (its.whole ∙ ap (FRONT its.parts) there.1) low high);
            within = judged-next;
            short = j.short;
            comes =
                ap (λ (x : Sums). one_entry_more x i.counts.filed i.counts.done i.next) j.comes ∙ ap₂ (λ a b. one_entry_more (sums (reverse j.es) s.end) a b i.next) its.more_filed its.more_done
                ∙ sums_on (reverse j.es) first s.end i.next many
                ∙ ap (λ earlier. sums earlier i.next) (sym newest);
            few = omega (arith, j.few, next_is);
            obeyed = obeyed_on standard j.es j.obeyed first its.fine;
          }

      pub judged_on : {s' : Sums} → s' ≡ one_entry_more s i.counts.filed i.counts.done i.next → JudgedSoFar bytes s'
      judged_on e = subst (JudgedSoFar bytes) (sym e) on

-- a whole roll

module _ (bytes : List ℕ) where
  pub judged_too_long : longest < length bytes → Err TooLong ≡ judged_as (judged edition_1 bytes)
  unfolding judged
  judged_too_long h = rw (lt-ltb longest (length bytes) h) refl

  module _ (short : length bytes ≤ longest) where
    by : judged edition_1 bytes ≡ by_rules standard (roll 1 bytes)
    unfolding judged
    by = rw (le-ltb longest (length bytes) short) refl

    pub judged_empty : length bytes ≡ 0 → Ok (record { entries = 0; filed = 0; done = 0; end = 0 }) ≡ judged_as (judged edition_1 bytes)
    unfolding by_rules unbroken broken roll filed done
    judged_empty e = sym (ap judged_as (by ∙ ap (λ b. by_rules standard (roll 1 b)) (nothing bytes e)))
      where
        nothing : (b : List ℕ) → length b ≡ 0 → b ≡ []
        nothing [] h = refl
        nothing (x ∷ b) h = absurd (omega arith)

    module _ (some_bytes : length bytes ≢ 0) where
      split : bytes ≡ get_or bytes 0 0 ∷ drop 1 bytes
      split = drop-cons bytes 0 0 (omega arith)

      pub judged-first_byte : get_or bytes 0 0 ≢ 1 → Err (BadRoll 0) ≡ judged_as (judged edition_1 bytes)
      unfolding by_rules roll
      judged-first_byte h = sym (ap judged_as (by ∙ ap (λ b. by_rules standard (roll 1 b)) split
          ∙ ap (λ t. by_rules standard (cond t (Some (listing 0 1 (drop 1 bytes))) None)) (ne_eqb (get_or bytes 0 0) 1 h)))

      pub judged_by_entries : get_or bytes 0 0 ≡ 1 → judged_as (by_rules standard (Some (listing 0 1 (drop 1 bytes)))) ≡ judged_as (judged edition_1 bytes)
      unfolding roll
      judged_by_entries one =
          sym (ap judged_as (by ∙ ap (λ b. by_rules standard (roll 1 b)) split ∙ ap (λ t. by_rules standard (cond t (Some (listing 0 1 (drop 1 bytes))) None)) (eq-eqb (get_or bytes 0 0) 1 one)))
