-- One way to answer, for every service that writes a text: a refusal, or a text with what goes with it; and what the output lent then
-- holds. A family of services has refusals of type R, tells a G beside a text, and gives a T: it answers a T or a refusal.
use Rattle.std.specs.Prelude.{ℕ, ◌≡◌, Bool, true, false, cond, List, ◌++◌, length, drop, replicate, leb, Result, Ok, Err}

-- before the output is looked at: a refusal; or the text that is given, the cells of its plan, and what else is told
pub data Outcome (R G : Type 0) : Type 0 where
  REFUSES : R → Outcome R G
  GIVES : G → (cells : ℕ) → (text : List ℕ) → Outcome R G

-- a family's OUTSHORT, with the bytes needed, and what it gives for a text
pub record Family (R G T : Type 0) : Type 0 where
  pub out_short : (needed : ℕ) → R
  pub given : G → (cells length : ℕ) → T

-- what a call answers, and what the output lent to it then holds
pub record Written (A : Type 0) : Type 0 where
  pub answer : A
  pub output : List ℕ

-- the text first and the other bytes as they were; or 18, and every byte as it was
unfoldable pub write : {R G T : Type 0} → Family R G T → Outcome R G → List ℕ → Written (Result T R)
write f (REFUSES r) out = record { answer = Err r; output = out }
write f (GIVES g cells text) out =
    cond (leb (length text) (length out)) (record { answer = Ok (f.given g cells (length text)); output = text ++ drop (length text) out })
    (record { answer = Err (f.out_short (length text)); output = out })

-- what a call did with the output out, which it was lent: its answer r and the bytes out' that it left are those of this outcome
pub record Wrote {R G T : Type 0} (f : Family R G T) (o : Outcome R G) (out : List ℕ) (r : Result T R) (out' : List ℕ) : Type 0 where
  pub answer : r ≡ (write f o out).answer
  pub output : out' ≡ (write f o out).output

unfoldable pub is_given : {R G : Type 0} → Outcome R G → Bool
is_given (REFUSES r) = false
is_given (GIVES g cells text) = true

-- a work memory after every call that it was lent to: as many numbers as before, and each of them 0
unfoldable pub cleared : List ℕ → List ℕ
cleared memory = replicate (length memory) 0
