-- An entry added: what the definition says of the roll that was weighed.
use Prim.Native.Nat.{ℕ, ◌+◌, ◌≤◌, ◌<◌, min}
use mathlib.Core.Path.{◌≡◌, refl, ap, ap₂, sym, subst, ◌∙◌}
use mathlib.Core.Logic.{inl, inr}
use mathlib.Core.Bool.{Bool, true, false, ◌&&◌, false≢true}
use Rattle.std.specs.Prelude.{None, Ok, Err}
use mathlib.Core.List.{List, [], ◌∷◌, reverse}
use native.Mathlib.Omega.{arith}
use borrow.Author.Tests.{leb-true}
use lib.Dec.{leb, ltb}
use lib.ListN.{length}
use Rattle.kinds.specs.Limits.{standard}
use Rattle.kinds.specs.Written.{put_at}
use Rattle.stored.specs.Counted.{largest}
use Rattle.roll_rules.specs.Answers.{Added, Judged, add_to, edition_1, new_bytes, new_entry, not_added, sums}
use Rattle.roll_format.specs.Format.{Entry, entry_bytes, longest, parts_in, parts_of, says}
use Rattle.roll_format.specs.EntriesStand.{Storable}
use Rattle.roll_rules.specs.EntriesBefore.{one_entry_more}
use Rattle.roll_rules.specs.Rules.{digits, fault, is_job, job_limit}
use Rattle.roll_format.specs.declared.EntryKind.{EntryKind}
use Rattle.roll_format.specs.declared.EntryKind.TheVariants.{Filed, Done}
use Rattle.roll_format.specs.declared.NewEntry.{NewEntry}
use Rattle.roll_format.specs.declared.NewEntry.TheVariants.{Filed as NewFiled, Done as NewDone}
use Rattle.roll_rules.specs.declared.Counts.{Counts}
use Rattle.roll_rules.specs.declared.RollRefusal.{RollRefusal}
use Rattle.roll_rules.specs.declared.RollRefusal.TheVariants.{NoRoom}
use Rattle.roll_rules.specs.declared.Sums.{Sums}
use Rattle.roll_rules.proofs.Adding.{entry_made, fault-first, room_last, roll-first}
use Rattle.roll_rules.proofs.Growing.{sums_on}
use Rattle.roll_rules.proofs.Rules.{done_fine, filed_fine}
use Rattle.roll_rules.proofs.Texts.{printed-text}
use Rattle.roll_put.specs.Putting.{RoomFor, opening}
use Rattle.roll_put.proofs.Bytes.{done_long, filed_long, new_long}
use Rattle.roll_add.specs.Entering.{Admission, EnteredAs, Entering, FineRoll, JudgedWeighed}

-- how long a job number and a printed text can be

job_few : (job : List ℕ) → is_job job ≡ true → length job ≤ job_limit
unfolding is_job
job_few job e = go (ltb 0 (length job)) (leb (length job) job_limit) refl e
  where
    go : (s t : Bool) → leb (length job) job_limit ≡ t → ((s && t) && digits job) ≡ true → length job ≤ job_limit
    go true true h g = leb-true (length job) job_limit h
    go true false h g = absurd (false≢true g)
    go false t h g = absurd (false≢true g)

-- an entry with which nothing is wrong is short, and its counts fit into four bytes
pub record ShortEntry (parts : List (List ℕ)) : Type 0 where
  pub storable : Storable parts
  pub few : length parts ≤ longest
  pub short : length (entry_bytes parts) ≤ longest

pub short_entry : (kind : EntryKind) (job text : List ℕ) (earlier : List Entry) (place : ℕ) → fault standard earlier (record { place = place; parts = parts_of kind job text }) ≡ None
    → ShortEntry (parts_of kind job text)
unfolding fault says
short_entry Filed job text earlier place e =
    let (j, t, may) = filed_fine standard earlier place job text e in
    let few = job_few job j in
    let long = (printed-text standard text t).0.short in
    record { storable = (omega arith, (omega arith, tt)); few = omega arith; short = omega (arith, filed_long job text) }
short_entry Done job text earlier place e =
    let (j, may) = done_fine standard earlier place job e in
    let few = job_few job j in
    record { storable = (omega arith, tt); few = omega arith; short = omega (arith, done_long job text) }

pub short_new : (e : NewEntry) (earlier : List Entry) (place : ℕ) → fault standard earlier (record { place = place; parts = parts_in e }) ≡ None
    → ShortEntry (parts_in e)
short_new (NewFiled job text) earlier place e = short_entry Filed job.now text.now earlier place e
short_new (NewDone job) earlier place e = short_entry Done job.now [] earlier place e

module _ (buffer : List ℕ) (j : Judged) (parts : List (List ℕ)) where
  refused : {q : RollRefusal} → JudgedWeighed j parts (length buffer) (Err q) → EnteredAs (add_to edition_1 buffer j parts) (Err q) buffer
  refused {q} w = subst (λ (a : Added). EnteredAs a (Err q) buffer) (sym (told w)) record { answer = refl; bytes = refl; more_filed = refl; more_done = refl }
    where
      told : JudgedWeighed j parts (length buffer) (Err q) → add_to edition_1 buffer j parts ≡ not_added buffer q
      told (inl e) = rw e (roll-first edition_1 buffer parts q)
      told (inr (es, end, reads, e)) = rw reads (fault-first edition_1 buffer parts es end e)

  pub entry-refused : {x : Admission} {q : RollRefusal} {r : Entering} → JudgedWeighed j parts (length buffer) x → x ≡ Err q → r ≡ Err q
      → EnteredAs (add_to edition_1 buffer j parts) r buffer
  entry-refused w e said =
      subst (λ (y : Entering). EnteredAs (add_to edition_1 buffer j parts) y buffer) (sym said) (refused (subst (JudgedWeighed j parts (length buffer)) e w))

  module _ {s : Sums} {counts : Counts} (w : FineRoll j parts (length buffer) s counts.filed counts.done) {size last : ℕ} (sized : size ≡ length (entry_bytes parts)) (ends : last ≡ s.end + (length (opening s.end) + size)) where
    there : last ≡ s.end + length (new_bytes edition_1 s.end parts)
    there = omega (arith, ends, sized, new_long s.end parts)

    pub entry-no_room : {q : ℕ} {r : Entering} → length buffer < last → q ≡ min last longest → r ≡ Err (NoRoom q) → EnteredAs (add_to edition_1 buffer j parts) r buffer
    entry-no_room {q} {r} h capped said =
        let e : NoRoom q ≡ NoRoom (min (s.end + length (new_bytes edition_1 s.end parts)) longest) = ap NoRoom (capped ∙ ap (λ k. min k longest) there) in
        let is : add_to edition_1 buffer j parts ≡ not_added buffer (NoRoom q) =
        ap (λ x. add_to edition_1 buffer x parts) w.reads ∙ room_last edition_1 buffer parts w.es s.end w.fine (omega (arith, there)) ∙ ap (not_added buffer) (sym e) in
        let it : EnteredAs (not_added buffer (NoRoom q)) (Err (NoRoom q)) buffer = record { answer = refl; bytes = refl; more_filed = refl; more_done = refl } in
        subst (λ (a : Added). EnteredAs a r buffer) (sym is) (subst (λ (y : Entering). EnteredAs (not_added buffer (NoRoom q)) y buffer) (sym said) it)

    module _ (room : last ≤ length buffer) where
      pub entry-fits : Storable parts → RoomFor buffer s.end parts
      entry-fits storable = record { storable = storable; room = omega (arith, there) }

      pub entry-added : {s' : Sums} {buffer' : List ℕ} → s' ≡ one_entry_more s counts.filed counts.done last → buffer' ≡ put_at buffer s.end (new_bytes edition_1 s.end parts)
          → EnteredAs (add_to edition_1 buffer j parts) (Ok (record { sums = s'; counts = counts })) buffer'
      entry-added {s'} {buffer'} counted made =
          let is = ap (λ x. add_to edition_1 buffer x parts) w.reads ∙ entry_made edition_1 buffer parts w.es s.end w.fine (omega (arith, there)) in
          let few : length (reverse w.es) < largest = omega (arith, w.few, w.within, w.short, ap (λ (x : Sums). x.entries) w.comes) in
          let new = new_entry s.end parts in
          let sum : s' ≡ sums (new ∷ reverse w.es) (s.end + length (new_bytes edition_1 s.end parts)) =
          counted ∙ ap (λ (x : Sums). one_entry_more x counts.filed counts.done last) w.comes ∙ ap₂ (λ a b. one_entry_more (sums (reverse w.es) s.end) a b last) w.filed_so w.done_so
          ∙ sums_on (reverse w.es) new s.end last few ∙ ap (sums (new ∷ reverse w.es)) there in
          subst (λ (a : Added). EnteredAs a (Ok (record { sums = s'; counts = counts })) buffer') (sym is)
          record { answer = ap Ok sum; bytes = made; more_filed = w.filed_so; more_done = w.done_so }
