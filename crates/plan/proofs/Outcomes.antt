-- What is written of an outcome, for every family of services: a refusal, the text where it fits the output, and else OUTSHORT.
use Prim.Native.Nat.{ℕ, ◌≤◌, ◌<◌}
use mathlib.Core.Path.{◌≡◌, refl, sym, ◌∙◌}
use mathlib.Core.List.{List, ◌++◌}
use lib.ListN.{length, drop}
use lib.Dec.{leb}
use borrow.Author.Tests.{le-leb, lt-leb, leb-true, leb-false}
use Rattle.std.specs.Prelude.{Err, Ok, Result}
use Rattle.plan.specs.Outcomes.{Family, GIVES, Outcome, REFUSES, Written, Wrote, write}
use Rattle.kinds.proofs.Tests.{cond_cases}

module _ {R G T : Type 0} (f : Family R G T) where
  module _ (g : G) (cells : ℕ) (text out : List ℕ) where
    pub write-fits : length text ≤ length out
        → write f (GIVES g cells text) out ≡ record { answer = Ok (f.given g cells (length text)); output = text ++ drop (length text) out }
    unfolding write
    write-fits h = rw (le-leb (length text) (length out) h)

    pub write_short : length out < length text
        → write f (GIVES g cells text) out ≡ record { answer = Err (f.out_short (length text)); output = out }
    unfolding write
    write_short h = rw (lt-leb (length text) (length out) h)

    -- what holds of both holds of what is written
    pub write_gives : (P : Result T R → List ℕ → Type 0) → (length out < length text → P (Err (f.out_short (length text))) out)
        → (length text ≤ length out → P (Ok (f.given g cells (length text))) (text ++ drop (length text) out))
        → let w = write f (GIVES g cells text) out in P w.answer w.output
    unfolding write
    write_gives P short fits =
        cond_cases (λ (w : Written (Result T R)). P w.answer w.output) (leb (length text) (length out))
        (λ h. fits (leb-true (length text) (length out) h)) (λ h. short (leb-false (length text) (length out) h))

  -- what is answered and left where the outcome is a refusal, a text that fits, or one that does not
  module _ {o : Outcome R G} (out : List ℕ) where
    pub wrote_refused : {r : R} → o ≡ REFUSES r → Wrote f o out (Err r) out
    unfolding write
    wrote_refused h = record { answer = rw h; output = rw h }

    module _ {g : G} {cells : ℕ} {text : List ℕ} (h : o ≡ GIVES g cells text) where
      pub wrote_short : length out < length text → Wrote f o out (Err (f.out_short (length text))) out
      wrote_short short = let w = write_short g cells text out short in record { answer = rw (h, w); output = rw (h, w) }

      pub wrote_fits : length text ≤ length out → Wrote f o out (Ok (f.given g cells (length text))) (text ++ drop (length text) out)
      wrote_fits fits = let w = write-fits g cells text out fits in record { answer = rw (h, w); output = rw (h, w) }

  -- no second answer, and no second byte
  pub wrote_once : {o : Outcome R G} {out : List ℕ} {r s : Result T R} {left left' : List ℕ} → Wrote f o out r left → Wrote f o out s left'
      → (r ≡ s) × (left ≡ left')
  wrote_once g h = (g.answer ∙ sym h.answer, g.output ∙ sym h.output)

  -- every outcome and every output has an answer
  pub written : (o : Outcome R G) (out : List ℕ) → (r : Result T R) × (out' : List ℕ) × Wrote f o out r out'
  written o out = ((write f o out).answer, (write f o out).output, record { answer = refl; output = refl })
