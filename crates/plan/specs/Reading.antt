-- Reading a text gives its plan, each item labelled with the place of its first byte, or its first fault. Then it is asked whether the plan
-- fits the cells that there are. This is document 01's table of bytes, its refusals 11 and 13 to 17, and the faults of a token. By request
-- 2 of document 02 annotations mean nothing.
use Rattle.std.specs.Prelude.{ℕ, zero, suc, ◌+◌, ◌-◌, ◌≡◌, ◌≢◌, ◌⊎◌, Bool, true, false, cond, List, [], ◌∷◌, ◌++◌, length, get_or, leb, ltb, eqb}
use Rattle.std.specs.Prelude.{Option, None, Some}
use Rattle.kinds.specs.declared.Place.{Place}
use Rattle.kinds.specs.Limits.{Limits}
use Rattle.plan.specs.declared.Unread.{Unread}
use Rattle.plan.specs.declared.Unread.TheVariants.{Text, Overfull}
use Rattle.plan.specs.declared.TextFault.{TextFault}
use Rattle.plan.specs.declared.TextFault.TheVariants.{TooLong, BadByte, BadToken, Unmatched, Unclosed}
use Rattle.plan.specs.Plan.{Operator, op_a, op_b, op_c, op_d, Plan, end, operator, token, block, ◌then◌, cells, labels, letter, open_bracket, close_bracket, open_brace, close_brace}
use Rattle.plan.specs.Token.{allowed, ampersand, annotation, token_text}
use Rattle.plan.specs.TokenFaults.{Met, first_fault}
pub use Rattle.plan.specs.declared.Class.{Class}
pub use Rattle.plan.specs.declared.Class.TheVariants.{Operator as OPERATOR, Open as OPEN, Close as CLOSE, Brace as BRACE, Blank as BLANK, Bad as BAD}

abbrev pub place : ℕ → Place
place n = record { 0 = n }

-- the class of a byte outside tokens
unfoldable pub class : ℕ → Class
class b =
    cond (eqb b 97) (OPERATOR op_a)
    (cond (eqb b 98) (OPERATOR op_b)
    (cond (eqb b 99) (OPERATOR op_c)
    (cond (eqb b 100) (OPERATOR op_d)
    (cond (eqb b open_bracket) OPEN
    (cond (eqb b close_bracket) CLOSE
    (cond (eqb b open_brace) BRACE
    (cond (eqb b 32) BLANK
    (cond (eqb b 10) BLANK BAD))))))))

-- which bytes the table gives a class; the refused class has those of no other row
abbrev pub Byte : Class → ℕ → Type 0
Byte (OPERATOR o) b = b ≡ letter o
Byte OPEN b = b ≡ open_bracket
Byte CLOSE b = b ≡ close_bracket
Byte BRACE b = b ≡ open_brace
Byte BLANK b = (b ≡ 32) ⊎ (b ≡ 10)
Byte BAD b = ((o : Operator) → b ≢ letter o) × (b ≢ open_bracket) × (b ≢ close_bracket) × (b ≢ open_brace) × (b ≢ 32) × (b ≢ 10)

-- What means nothing outside tokens is a mark: SP, LF, or an annotation. The class of its first byte and the bytes behind that byte tell
-- it. They tell an annotation, since the bytes behind a `{` start as the token's text does.
unfoldable pub mark : Class → (rest : List ℕ) → Bool
mark (OPERATOR o) rest = false
mark OPEN rest = false
mark CLOSE rest = false
mark BRACE rest = annotation rest
mark BLANK rest = true
mark BAD rest = false

-- a whole mark: the bytes behind its first
pub data Mark (limit b : ℕ) : List ℕ → Type 0 where
  blank : class b ≡ BLANK → Mark limit b []
  an_annotation : (t : List ℕ) → class b ≡ BRACE → allowed limit t ≡ true → annotation t ≡ true → Mark limit b (t ++ close_brace ∷ [])

-- The blocks that are open where the reader stands, the innermost first: each with its place and with what stands
-- before it in its own sequence.
pub data Around : Type 0 where
  outermost : Around
  inside : ℕ → Plan ℕ → Around → Around

-- what one byte makes of the reader: a fault, or what is open, the sequence so far, and how many of the bytes that
-- come next belong to a token already read
pub data Move : Type 0 where
  STOP : TextFault → Move
  ON : Around → Plan ℕ → ℕ → Move

-- a token's fault, at its own place: behind the `{`, which stands at the place `at`
abbrev pub faulty_token : (at : ℕ) → Met → TextFault
faulty_token at m = BadToken m.fault (place (suc at + m.byte))

unfoldable pub after_token : (limit at : ℕ) → List ℕ → Option (List ℕ) → Around → Plan ℕ → Move
after_token limit at rest None out here = STOP (faulty_token at (first_fault 0 (limit - 2) 0 rest))
after_token limit at rest (Some t) out here = ON out (cond (mark BRACE rest) here (here then token at t end)) (suc (length t))

unfoldable pub move : (limit at : ℕ) → Class → List ℕ → Around → Plan ℕ → Move
move limit at (OPERATOR o) rest out here = ON out (here then operator at o end) 0
move limit at OPEN rest out here = ON (inside at here out) end 0
move limit at CLOSE rest outermost here = STOP (Unmatched (place at))
move limit at CLOSE rest (inside l before out) here = ON out (before then block l here end) 0
move limit at BRACE rest out here = after_token limit at rest (token_text limit rest) out here
move limit at BLANK rest out here = ON out here 0
move limit at BAD rest out here = STOP (BadByte (place at))

-- what a text reads as: a plan, however many cells it has, or its first fault
pub data Reading : Type 0 where
  PLAN : Plan ℕ → Reading
  FAULT : TextFault → Reading

unfoldable pub go_on : Move → (Around → Plan ℕ → ℕ → Reading) → Reading
go_on (STOP f) after = FAULT f
go_on (ON out here skip) after = after out here skip

-- reading from the place `at` on
unfoldable pub read_from : (limit at skip : ℕ) → Around → Plan ℕ → List ℕ → Reading
read_from limit at skip outermost here [] = PLAN here
read_from limit at skip (inside l before out) here [] = FAULT (Unclosed (place at))
read_from limit at (suc skip) out here (b ∷ bs) = read_from limit (suc at) skip out here bs
read_from limit at zero out here (b ∷ bs) =
    go_on (move limit at (class b) bs out here) (λ out' here' skip. read_from limit (suc at) skip out' here' bs)

-- a text from its first byte on
abbrev pub read_bytes : (limit : ℕ) → List ℕ → Reading
read_bytes limit text = read_from limit 0 0 outermost end text

-- 11, then 13 to 16, with 21 to 25 in place of 14; how many cells the plan has does not matter
unfoldable pub read_text : Limits → List ℕ → Reading
read_text lim text = cond (ltb lim.text (length text)) (FAULT TooLong) (read_bytes lim.token text)

-- a text is accepted as a plan, or it is not read: because it has a fault, or because it is too large
pub data Acceptance : Type 0 where
  ACCEPTED : Plan ℕ → Acceptance
  UNREAD : Unread → Acceptance

-- the place of item number n, items counted from 0 by their first bytes; 0 where there are not so many
abbrev pub place_of_item : (n : ℕ) → Plan ℕ → Place
place_of_item n p = place (get_or (labels p) n 0)

-- a plan of more than n cells is refused at item number n, the first past them
unfoldable pub fit : (n : ℕ) → Reading → Acceptance
fit n (FAULT f) = UNREAD (Text f)
fit n (PLAN p) = cond (leb (cells p) n) (ACCEPTED p) (UNREAD (Overfull (place_of_item n p)))

unfoldable pub read : (limit n : ℕ) → List ℕ → Acceptance
read limit n text = fit n (read_bytes limit text)

-- 11, then 13 to 17, with 21 to 25 in place of 14, where there are n cells
unfoldable pub accept : Limits → (n : ℕ) → List ℕ → Acceptance
accept lim n text = fit n (read_text lim text)

-- the regions of a text, by the byte that comes next: outside tokens, in a token that is kept, or in an annotation
pub data Region : Type 0 where
  OUTSIDE : Region
  IN_TOKEN : Region
  IN_ANNOTATION : Region

unfoldable pub enter : (b : ℕ) → Region → Region
enter b s = cond (eqb b open_brace) s OUTSIDE

unfoldable pub leave : (b : ℕ) → Region → Region
leave b s = cond (eqb b close_brace) OUTSIDE s

-- the text with its marks taken out: SP, LF and annotations outside tokens
unfoldable pub without_marks : Region → List ℕ → List ℕ
without_marks s [] = []
without_marks OUTSIDE (b ∷ bs) =
    let passed = without_marks (enter b IN_ANNOTATION) bs in
    let kept = b ∷ without_marks (enter b IN_TOKEN) bs in
    cond (mark (class b) bs) passed kept
without_marks IN_TOKEN (b ∷ bs) = b ∷ without_marks (leave b IN_TOKEN) bs
without_marks IN_ANNOTATION (b ∷ bs) = without_marks (leave b IN_ANNOTATION) bs

-- an annotation stands somewhere in the bytes: a `&` comes right behind a `{`
abbrev pub HoldsAnnotation : List ℕ → Type 0
HoldsAnnotation bs = (before : List ℕ) × (rest : List ℕ) × (bs ≡ before ++ open_brace ∷ ampersand ∷ rest)

-- the plan that a text reads as, however many cells it has; for a text with a fault, the empty plan
unfoldable pub plan_in : Reading → Plan ℕ
plan_in (PLAN p) = p
plan_in (FAULT f) = end

unfoldable pub plan_of : (limit : ℕ) → List ℕ → Plan ℕ
plan_of limit text = plan_in (read_bytes limit text)
