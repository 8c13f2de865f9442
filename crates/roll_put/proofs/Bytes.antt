-- The bytes of a new entry, written one behind the other.
use Prim.Native.Nat.{ℕ, ◌+◌, ◌≤◌, ◌<◌}
use mathlib.Core.Path.{◌≡◌, refl, ap, ap₂, sym, subst, ◌∙◌}
use mathlib.Core.Logic.{◌≢◌}
use mathlib.Core.Bool.{Bool, true, false, cond}
use mathlib.Core.List.{List, [], ◌∷◌, ◌++◌, append-nil}
use native.Mathlib.Omega.{arith}
use borrow.Author.Tests.{ne_eqb}
use lib.Dec.{eqb}
use lib.ListN.{length, set, length-append}
use lib.Seq.{sets-eq}
use Rattle.kinds.specs.Written.{put_at}
use Rattle.kinds.proofs.Putting.{put_long, put_nothing, put_on}
use Rattle.stored.specs.Counted.{four_bytes, with_count}
use Rattle.roll_rules.specs.Answers.{edition_1, new_bytes}
use Rattle.roll_format.specs.Format.{entry_bytes, parts_in, parts_of, sections_bytes}
use Rattle.roll_format.specs.declared.EntryKind.TheVariants.{Filed, Done}
use Rattle.roll_format.specs.declared.NewEntry.{NewEntry}
use Rattle.roll_put.specs.Putting.{RoomAt, RoomFor, opening}

pub new_opening : (end : ℕ) (parts : List (List ℕ)) → new_bytes edition_1 end parts ≡ opening end ++ entry_bytes parts
unfolding new_bytes
new_opening end parts = go (eqb end 0)
  where
    go : (t : Bool) → cond t (1 ∷ entry_bytes parts) (entry_bytes parts) ≡ cond t (1 ∷ []) [] ++ entry_bytes parts
    go true = refl
    go false = refl

pub begin-first : (buffer : List ℕ) (end : ℕ) → end < length buffer → end ≡ 0 → set buffer 0 1 ≡ put_at buffer end (opening end)
begin-first buffer end h e =
    rw e (sets-eq (1 ∷ []) buffer 0 (omega arith))

pub begin-there : (end : ℕ) → end ≡ 0 → 1 ≡ end + length (opening end)
begin-there end e = rw e refl

pub begin-later : (buffer : List ℕ) (end : ℕ) → end ≢ 0 → buffer ≡ put_at buffer end (opening end)
begin-later buffer end h = rw (ne_eqb end 0 h) (sym (put_nothing buffer end))

pub begin-same : (end : ℕ) → end ≢ 0 → end ≡ end + length (opening end)
begin-same end h = rw (ne_eqb end 0 h) (omega arith)

four_long : (n : ℕ) → length (four_bytes n) ≡ 4
unfolding four_bytes
four_long n = refl

pub count_long : (given : List ℕ) → length (with_count given) ≡ 4 + length given
unfolding with_count
count_long given = length-append (four_bytes (length given)) given ∙ ap (◌+ length given) (four_long (length given))

-- an entry of each kind: its number, and a count before each section
pub filed_long : (job text : List ℕ) → 4 + 4 + length job + 4 + length text ≡ length (entry_bytes (parts_of Filed job text))
unfolding entry_bytes sections_bytes
filed_long job text =
    omega (
      arith,
      length-append (four_bytes 2) (with_count job ++ (with_count text ++ [])),
      four_long 2,
      length-append (with_count job) (with_count text ++ []),
      length-append (with_count text) [],
      count_long job,
      count_long text,
    )

pub done_long : (job text : List ℕ) → 4 + 4 + length job ≡ length (entry_bytes (parts_of Done job text))
unfolding entry_bytes sections_bytes
done_long job text =
    omega (arith, length-append (four_bytes 1) (with_count job ++ []), four_long 1, length-append (with_count job) [], count_long job)

-- by what the entry was found to be
pub entry_long : {e x : NewEntry} → e ≡ x → length (entry_bytes (parts_in x)) ≡ length (entry_bytes (parts_in e))
entry_long is = ap (λ (y : NewEntry). length (entry_bytes (parts_in y))) (sym is)

pub new_long : (end : ℕ) (parts : List (List ℕ)) → length (new_bytes edition_1 end parts) ≡ length (opening end) + length (entry_bytes parts)
new_long end parts = ap length (new_opening end parts) ∙ length-append (opening end) (entry_bytes parts)

-- each store behind the last
module _ (l : List ℕ) (end : ℕ) (a b : List ℕ) (room : end + length a + length b ≤ length l) {m : List ℕ} {at : ℕ}
    (one : m ≡ put_at l end a) (there : at ≡ end + length a) where
  then_put : {m' : List ℕ} → m' ≡ put_at m at b → m' ≡ put_at l end (a ++ b)
  then_put two = two ∙ ap₂ (λ k n. put_at k n b) one there ∙ put_on l end a (omega arith) b

put_as_long : (l : List ℕ) (end : ℕ) (a : List ℕ) {m : List ℕ} → end + length a ≤ length l → m ≡ put_at l end a → length m ≡ length l
put_as_long l end a room one = ap length one ∙ put_long l end a room

-- the sections behind their number
module _ (l : List ℕ) (at : ℕ) (parts : List (List ℕ)) (fits : RoomAt l at parts) where
  room : at + 4 + length (sections_bytes parts) ≤ length l
  unfolding entry_bytes
  room = omega (arith, fits.room, length-append (four_bytes (length parts)) (sections_bytes parts), four_long (length parts))

  pub number_room : at + 4 ≤ length l
  number_room = omega (arith, room)

  module _ {m : List ℕ} (one : m ≡ put_at l at (four_bytes (length parts))) where
    sections_room : at + 4 + length (sections_bytes parts) ≤ length m
    sections_room = omega (arith, room, put_as_long l at (four_bytes (length parts)) (omega (arith, room, four_long (length parts))) one)

    whole : {m' : List ℕ} → m' ≡ put_at m (at + 4) (sections_bytes parts) → m' ≡ put_at l at (entry_bytes parts)
    unfolding entry_bytes
    whole two =
        let there : at + 4 ≡ at + length (four_bytes (length parts)) = omega (arith, four_long (length parts)) in
        then_put l at (four_bytes (length parts)) (sections_bytes parts) (omega (arith, room, four_long (length parts))) one there two

module _ (l : List ℕ) (at : ℕ) (job : List ℕ) (fits : RoomAt l at (job ∷ [])) {m : List ℕ} (one : m ≡ put_at l at (four_bytes 1)) where
  pub done_room : at + 4 + 4 + length job ≤ length m
  unfolding sections_bytes
  done_room = omega (arith, sections_room l at (job ∷ []) fits one, length-append (with_count job) [], count_long job)

  pub done_put : {m' : List ℕ} → m' ≡ put_at m (at + 4) (with_count job) → m' ≡ put_at l at (entry_bytes (job ∷ []))
  unfolding sections_bytes
  done_put two = whole l at (job ∷ []) fits one (two ∙ ap (put_at m (at + 4)) (sym (append-nil (with_count job))))

module _ (l : List ℕ) (at : ℕ) (job text : List ℕ) (fits : RoomAt l at (job ∷ text ∷ [])) {m : List ℕ} (one : m ≡ put_at l at (four_bytes 2)) where
  both : at + 4 + (4 + length job + (4 + length text)) ≤ length m
  unfolding sections_bytes
  both =
      omega (
        arith,
        sections_room l at (job ∷ text ∷ []) fits one,
        length-append (with_count job) (with_count text ++ []),
        length-append (with_count text) [],
        count_long job,
        count_long text,
      )

  pub filed-job_room : at + 4 + 4 + length job ≤ length m
  filed-job_room = omega (arith, both)

  module _ {m' : List ℕ} (two : m' ≡ put_at m (at + 4) (with_count job)) where
    as_long : length m' ≡ length m
    as_long = put_as_long m (at + 4) (with_count job) (omega (arith, both, count_long job)) two

    pub filed-text_room : at + 4 + 4 + length job + 4 + length text ≤ length m'
    filed-text_room = omega (arith, both, as_long)

    pub filed_put : {m'' : List ℕ} → m'' ≡ put_at m' (at + 4 + 4 + length job) (with_count text) → m'' ≡ put_at l at (entry_bytes (job ∷ text ∷ []))
    unfolding sections_bytes
    filed_put three =
        let there : at + 4 + 4 + length job ≡ at + 4 + length (with_count job) = omega (arith, count_long job) in
        whole l at (job ∷ text ∷ []) fits one
        (then_put m (at + 4) (with_count job) (with_count text) (omega (arith, both, count_long job, count_long text)) two there three
        ∙ ap (λ r. put_at m (at + 4) (with_count job ++ r)) (sym (append-nil (with_count text))))

-- the entry behind the first byte, where there was none
module _ (l : List ℕ) (end : ℕ) (parts : List (List ℕ)) (fits : RoomFor l end parts) where
  room_long : end + length (opening end) + length (entry_bytes parts) ≤ length l
  room_long = omega (arith, fits.room, new_long end parts)

  pub new_begins : end < length l
  unfolding entry_bytes
  new_begins = omega (arith, room_long, length-append (four_bytes (length parts)) (sections_bytes parts), four_long (length parts))

  module _ {m : List ℕ} {at : ℕ} (one : m ≡ put_at l end (opening end)) (there : at ≡ end + length (opening end)) where
    pub new_room : RoomAt m at parts
    new_room =
        record { storable = fits.storable; room = omega (arith, room_long, there, put_as_long l end (opening end) (omega (arith, room_long)) one) }

    pub new_put : {m' : List ℕ} → m' ≡ put_at m at (entry_bytes parts) → m' ≡ put_at l end (new_bytes edition_1 end parts)
    new_put two = then_put l end (opening end) (entry_bytes parts) room_long one there two ∙ ap (put_at l end) (sym (new_opening end parts))

-- by what the entry was found to be
pub room_by : {l : List ℕ} {end : ℕ} {e x : NewEntry} → e ≡ x → RoomFor l end (parts_in e) → RoomFor l end (parts_in x)
room_by {l} {end} is fits = subst (λ (y : NewEntry). RoomFor l end (parts_in y)) is fits

pub put_by : (l : List ℕ) (end : ℕ) {e x : NewEntry} → e ≡ x → {m : List ℕ} → m ≡ put_at l end (new_bytes edition_1 end (parts_in x))
    → m ≡ put_at l end (new_bytes edition_1 end (parts_in e))
put_by l end is made = made ∙ ap (λ (y : NewEntry). put_at l end (new_bytes edition_1 end (parts_in y))) (sym is)
