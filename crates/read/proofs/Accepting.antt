-- What a survey says of a text tells whether the text is accepted, or else why it is not read. And what that tells of an acceptable text.
use Prim.Native.Nat.{ℕ, ◌≤◌, ◌<◌}
use mathlib.Core.Path.{◌≡◌, refl, ap, sym, ◌∙◌}
use mathlib.Core.Bool.{true, false}
use mathlib.Core.List.{List}
use lib.ListN.{length}
use borrow.Author.Tests.{le-leb, lt-leb}
use Rattle.std.specs.Prelude.{Result, Ok, Err}
use Rattle.std.specs.Result.{is_ok}
use Rattle.kinds.specs.Limits.{cell_limit, standard, token_limit}
use Rattle.plan.specs.declared.Size.{Size}
use Rattle.plan.specs.declared.TextFault.{TextFault}
use Rattle.plan.specs.declared.Unread.{Unread}
use Rattle.plan.specs.declared.Unread.TheVariants.{Overfull, Text}
use Rattle.plan.specs.Plan.{Plan, cells, print}
use Rattle.plan.specs.Read.{acceptable, sized}
use Rattle.plan.specs.Reading.{ACCEPTED, Acceptance, FAULT, PLAN, Reading, UNREAD, accept, fit, place_of_item, plan_of, read_text}
use Rattle.plan.proofs.Acceptable.{accepted_acceptable, accepted_plan, refused_unacceptable}
use Rattle.kinds.proofs.Tests.{never}
use Rattle.reader.specs.Counting.{counted, surveyed}
use Rattle.reader.specs.declared.Counted.{Counted}
use Rattle.read.specs.Accepted.{acceptance_told}

module _ (room : ℕ) (text : List ℕ) where
  -- a text that was looked over
  pub found_faulty : {f : TextFault} → Err f ≡ surveyed room (read_text standard text) → read_text standard text ≡ FAULT f
  unfolding surveyed
  found_faulty {f} e = go (read_text standard text) e
    where
      go : (x : Reading) → Err f ≡ surveyed room x → x ≡ FAULT f
      go (FAULT g) h = ap FAULT (let same : g ≡ f = cc in same)
      go (PLAN p) h = never cc

  -- the plan that it reads as
  pub record Counts (k : Counted) : Type 0 where
    pub plan : Plan ℕ
    pub reads : read_text standard text ≡ PLAN plan
    pub size : sized (cells plan) (length (print plan)) ≡ k.size
    pub first_past : place_of_item room plan ≡ k.overfull

  pub found_counted : {k : Counted} → Ok k ≡ surveyed room (read_text standard text) → Counts k
  unfolding surveyed
  found_counted {k} e = go (read_text standard text) refl e
    where
      go : (x : Reading) → read_text standard text ≡ x → Ok k ≡ surveyed room x → Counts k
      go (FAULT f) is h = never cc
      go (PLAN p) is h =
          let same : counted (cells p) (length (print p)) (place_of_item room p) ≡ k = cc in
          record { plan = p; reads = is; size = ap (λ c. c.size) same; first_past = ap (λ c. c.overfull) same }

  pub accept_faulty : {f : TextFault} → Err f ≡ surveyed room (read_text standard text) → Err (Text f) ≡ acceptance_told (accept standard room text)
  unfolding accept fit acceptance_told
  accept_faulty e = rw (found_faulty e)

  module _ {k : Counted} (e : Ok k ≡ surveyed room (read_text standard text)) where
    found : Counts k
    found = found_counted e

    pub accept_over : room < k.size.cells → Err (Overfull k.overfull) ≡ acceptance_told (accept standard room text)
    unfolding accept fit acceptance_told
    accept_over h = rw (found.reads, lt-leb (cells found.plan) room (rw (ap (λ s. s.cells) found.size) h)) (ap (λ p. Err (Overfull p)) (sym found.first_past))

    pub accept_fits : k.size.cells ≤ room → Ok k.size ≡ acceptance_told (accept standard room text)
    unfolding accept fit acceptance_told
    accept_fits h = rw (found.reads, le-leb (cells found.plan) room (rw (ap (λ s. s.cells) found.size) h)) (ap (λ s. Ok s) (sym found.size))

  -- what is accepted, as the code tells it
  pub told_unread : {u : Unread} → Err u ≡ acceptance_told (accept standard room text) → accept standard room text ≡ UNREAD u
  unfolding acceptance_told
  told_unread {u} e = go (accept standard room text) e
    where
      go : (x : Acceptance) → Err u ≡ acceptance_told x → x ≡ UNREAD u
      go (UNREAD v) h = ap UNREAD (let same : v ≡ u = cc in same)
      go (ACCEPTED p) h = never cc

  pub record TellsPlan (s : Size) : Type 0 where
    pub plan : Plan ℕ
    pub accepted : accept standard room text ≡ ACCEPTED plan
    pub size : sized (cells plan) (length (print plan)) ≡ s

  pub told_plan : {s : Size} → Ok s ≡ acceptance_told (accept standard room text) → TellsPlan s
  unfolding acceptance_told
  told_plan {s} e = go (accept standard room text) refl e
    where
      go : (x : Acceptance) → accept standard room text ≡ x → Ok s ≡ acceptance_told x → TellsPlan s
      go (UNREAD u) is h = never cc
      go (ACCEPTED p) is h = record { plan = p; accepted = is; size = cc }

-- a text of which READ would tell
module _ (text : List ℕ) where
  pub told_acceptable : {s : Size} → Ok s ≡ acceptance_told (accept standard cell_limit text)
      → (acceptable standard text ≡ true) × (length (print (plan_of token_limit text)) ≡ s.length)
  told_acceptable e =
      let k = told_plan cell_limit text e in (
        accepted_acceptable standard text k.accepted,
        ap (λ q. length (print q)) (accepted_plan standard text k.accepted) ∙ ap (λ s. s.length) k.size,
      )

  pub told_unacceptable : {u : Unread} → Err u ≡ acceptance_told (accept standard cell_limit text) → acceptable standard text ≡ false
  told_unacceptable e = refused_unacceptable standard text (told_unread cell_limit text e)

  -- any answer of the two
  pub told_whether : (a : Result Size Unread) → a ≡ acceptance_told (accept standard cell_limit text) → is_ok a ≡ acceptable standard text
  told_whether (Ok s) e = sym (told_acceptable e).0
  told_whether (Err u) e = sym (told_unacceptable e)
