-- What is answered of a text that was accepted, or not read, is what READ answers.
use Prim.Native.Nat.{ℕ, ◌≤◌, ◌<◌}
use mathlib.Core.Path.{◌≡◌, ap, sym, subst, ◌∙◌}
use mathlib.Core.List.{List}
use native.Mathlib.Omega.{arith}
use lib.ListN.{length}
use Rattle.kinds.specs.Limits.{cell_limit, standard, token_limit}
use Rattle.std.specs.Prelude.{Ok, Err}
use Rattle.plan.specs.declared.Size.{Size}
use Rattle.plan.specs.declared.ReadRefusal.TheVariants.{NotRead, OutShort}
use Rattle.plan.specs.declared.Unread.{Unread}
use Rattle.plan.specs.Outcomes.{GIVES}
use Rattle.plan.specs.Pieces.{Shows, pieces}
use Rattle.plan.specs.Plan.{Plan, cells, print}
use Rattle.plan.specs.Read.{as_read, read_family, read_outcome}
use Rattle.plan.specs.Reading.{accept}
use Rattle.plan.proofs.Accepting.{accepted_text}
use Rattle.plan.proofs.Outcomes.{wrote_fits, wrote_refused, wrote_short}
use Rattle.plan.proofs.ReadBack.{read_accepted}
use Rattle.kinds.specs.Written.{put_at}
use Rattle.kinds.proofs.Putting.{put_front}
use Rattle.items.specs.Walk.{Tidyable}
use Rattle.read.specs.Accepted.{acceptance_told}
use Rattle.read.specs.Calls.{ReadsOut}
use Rattle.read.proofs.Accepting.{TellsPlan, told_plan, told_unread}

module _ (text out : List ℕ) where
  pub read-refused : {u : Unread} → Err u ≡ acceptance_told (accept standard cell_limit text) → ReadsOut text out (Err (NotRead u)) out
  unfolding read_outcome as_read
  read-refused e = record { wrote = wrote_refused read_family out (rw (told_unread cell_limit text e)) }

  -- a text that is acceptable
  module _ {s : Size} (e : Ok s ≡ acceptance_told (accept standard cell_limit text)) where
    plan : TellsPlan cell_limit text s
    plan = told_plan cell_limit text e

    long : length (print plan.plan) ≡ s.length
    long = ap (λ z. z.length) plan.size

    gives : read_outcome standard text ≡ GIVES tt (cells plan.plan) (print plan.plan)
    unfolding read_outcome as_read
    gives = rw plan.accepted

    shown : Shows token_limit 0 text (pieces plan.plan)
    shown = (read_accepted token_limit cell_limit text (accepted_text standard cell_limit text plan.accepted).reads).shows

    pub read_fits : s.length ≤ length out → Tidyable text out 0
    read_fits h =
        record {
          short = (accepted_text standard cell_limit text plan.accepted).short;
          plan = plan.plan;
          shows = shown;
          room = omega (arith, long);
        }

    pub read_short : length out < s.length → ReadsOut text out (Err (OutShort s.length)) out
    read_short h =
        subst (λ k. ReadsOut text out (Err (OutShort k)) out) long
        (record { wrote = wrote_short read_family out gives (omega (arith, long)) })

    pub read-written : {out' : List ℕ} → s.length ≤ length out → ((p : Plan ℕ) → Shows token_limit 0 text (pieces p) → out' ≡ put_at out 0 (print p))
        → ReadsOut text out (Ok s) out'
    read-written h is =
        let there = is plan.plan shown ∙ put_front (print plan.plan) out in
        let w = wrote_fits read_family out gives (omega (arith, long)) in
        record { wrote = record { answer = ap (λ z. Ok z) (sym plan.size) ∙ w.answer; output = there ∙ w.output } }
