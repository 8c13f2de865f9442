-- What the reader counts, and what its leaves mean. The meaning of each leaf is one equation, so that its contract is one too. The laws in
-- proofs/ tie these meanings to reading. Last comes what the whole survey answers, by what reading says (`surveyed`).
use Rattle.std.specs.Prelude.{ℕ, ◌+◌, ◌-◌, ◌≤◌, Bool, cond, ltb, eqb, length, Result, Ok, Err}
use Rattle.kinds.specs.Limits.{text_limit}
use Rattle.kinds.specs.declared.Place.{Place}
use Rattle.plan.specs.Plan.{cells, print}
use Rattle.plan.specs.Read.{sized}
use Rattle.plan.specs.Reading.{FAULT, PLAN, Reading, place, place_of_item}
use Rattle.plan.specs.declared.Class.{Class}
use Rattle.plan.specs.declared.Class.TheVariants.{Operator as OPERATOR, Open as OPEN, Close as CLOSE, Brace as BRACE, Blank as BLANK, Bad as BAD}
use Rattle.plan.specs.declared.TextFault.{TextFault}
use Rattle.plan.specs.declared.TextFault.TheVariants.{BadByte, Unmatched, Unclosed}
use Rattle.reader.specs.declared.Count.{Count}
use Rattle.reader.specs.declared.ByteStep.{ByteStep}
use Rattle.reader.specs.declared.ByteStep.TheVariants.{On, Token}
use Rattle.reader.specs.declared.Counted.{Counted}

-- counts that one more byte cannot push over a u32
pub record Small (n : Count) : Type 0 where
  pub depth : n.depth ≤ text_limit
  pub cells : n.cells ≤ text_limit
  pub length : n.length ≤ text_limit

abbrev pub nothing_yet : Count
nothing_yet = record { depth = 0; cells = 0; length = 0; overfull = place 0 }

-- one item more, of so many bytes; item number `room`, counted from 0, is the first past the room
abbrev pub one_item : Count → (at room bytes : ℕ) → Count
one_item n at room bytes =
    record {
      depth = n.depth;
      cells = n.cells + 1;
      length = n.length + bytes;
      overfull = cond (eqb n.cells room) (place at) n.overfull;
    }

abbrev pub deeper : Count → Count
deeper n = record { depth = n.depth + 1; cells = n.cells; length = n.length; overfull = n.overfull }

abbrev pub opened : Count → (at room : ℕ) → Count
opened n at room = deeper (one_item n at room 1)

abbrev pub closed : Count → Count
closed n = record { depth = n.depth - 1; cells = n.cells; length = n.length + 1; overfull = n.overfull }

-- a `]` where no block is open is a fault
abbrev pub block_closed : Count → (at : ℕ) → Result Count TextFault
block_closed n at = cond (eqb n.depth 0) (Err (Unmatched (place at))) (Ok (closed n))

-- one byte outside tokens, by its class
unfoldable pub stepped : Count → Class → (at room : ℕ) → Result ByteStep TextFault
stepped n (OPERATOR o) at room = Ok (On (one_item n at room 1))
stepped n OPEN at room = Ok (On (opened n at room))
stepped n CLOSE at room = cond (eqb n.depth 0) (Err (Unmatched (place at))) (Ok (On (closed n)))
stepped n BRACE at room = Ok Token
stepped n BLANK at room = Ok (On n)
stepped n BAD at room = Err (BadByte (place at))

-- a token that was read is an item, unless it is a mark
abbrev pub kept_or_passed : (is_mark : Bool) → Count → (at room bytes : ℕ) → Count
kept_or_passed is_mark n at room bytes = cond is_mark n (one_item n at room bytes)

-- how large a plan is, and where its first item past the room begins
abbrev pub counted : (cells length : ℕ) → (overfull : Place) → Counted
counted cells length overfull = record { size = sized cells length; overfull = overfull }

-- the end of the text
unfoldable pub survey_ended : Count → (at : ℕ) → Result Counted TextFault
survey_ended n at = cond (ltb 0 n.depth) (Err (Unclosed (place at))) (Ok (counted n.cells n.length n.overfull))

-- what a survey answers, by what reading says, with so much room for cells
unfoldable pub surveyed : (room : ℕ) → Reading → Result Counted TextFault
surveyed room (PLAN p) = Ok (counted (cells p) (length (print p)) (place_of_item room p))
surveyed room (FAULT f) = Err f
