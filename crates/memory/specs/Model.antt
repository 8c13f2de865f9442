-- The builder's steps on plain values: the whole of the numbers and what is kept beside them. The code's functions promise exactly these
-- steps. That each step keeps what `Building` says is proved of the steps alone.
use Rattle.std.specs.Prelude.{ℕ, ◌+◌, ◌*◌, ◌≤◌, ◌<◌, ◌≡◌, List, set}
use Rattle.plan.specs.Plan.{Plan}
use Rattle.pieces.specs.Numbered.{operator_number}
use Rattle.pieces.specs.declared.Piece.{Piece}
use Rattle.pieces.specs.declared.Piece.TheVariants.{Operator, Token, Open, Close}
use Rattle.plan.specs.Reading.{Around}
use Rattle.memory.specs.Held.{SameCells, held_numbers}
use Rattle.memory.specs.Memory.{start, close, link, token_kind, block_kind, Building}
use Rattle.memory.specs.declared.HeldPlan.{HeldPlan}

pub record Model : Type 0 where
  pub numbers : List ℕ
  pub tail : ℕ
  pub opened : ℕ
  pub free : ℕ

abbrev pub model : HeldPlan → Model
model b = record { numbers = held_numbers b; tail = b.tail.0; opened = b.opened.0; free = b.kept.free.0 }

-- the same with other numbers
abbrev pub with_numbers : Model → List ℕ → Model
with_numbers s w = record s { numbers = w }

-- what the model holds, as far as it is built
abbrev pub Built : (text : List ℕ) → (n : ℕ) → Model → (root : ℕ) → (others : List ℕ) → Around → Plan ℕ → Type 0
Built text n s root others out here = Building text n s.numbers root others s.tail s.opened s.free out here

-- a step can be made: what is kept beside the numbers is within them
pub record Buildable (b : HeldPlan) : Type 0 where
  pub tail : b.tail.0 ≤ start b.kept.outer.0
  pub opened : b.opened.0 ≤ b.kept.outer.0

-- one step: the model is s after it, and the cells are the same
pub record Stepped (b b' : HeldPlan) (s : Model) : Type 0 where
  pub steps : model b' ≡ s
  pub same : SameCells b b'

-- all cells are free, in order, and nothing is read yet
pub record Fresh (b : HeldPlan) : Type 0 where
  pub tail : b.tail.0 ≡ start b.kept.outer.0
  pub opened : b.opened.0 ≡ b.kept.outer.0
  pub free : b.kept.free.0 ≡ 0
  pub links : (i : ℕ) → i < b.kept.outer.0 → link (held_numbers b) (start i) ≡ i + 1

-- the free cell behind the first one
abbrev pub next_free : Model → ℕ
next_free s = link s.numbers (start s.free)

-- The tail links to the first free cell, once its numbers are written. Then `opened` is the open block, and `next` the first free cell.
abbrev pub with_cell : Model → (written : List ℕ) → (opened next : ℕ) → Model
with_cell s written opened next =
    record { numbers = set written (2 * s.tail + 1) (start s.free); tail = start s.free; opened = opened; free = next }

-- an operator, by its kind
abbrev pub with_item : Model → (kind : ℕ) → Model
with_item s kind = with_cell s (set s.numbers (2 * start s.free) kind) s.opened (next_free s)

-- which token the first free cell is: its place and its length in the text stand at the cell's close
abbrev pub with_place : Model → (at len : ℕ) → Model
with_place s at len = with_numbers s (set (set s.numbers (2 * close s.free) at) (2 * close s.free + 1) len)

abbrev pub with_token : Model → (at len : ℕ) → Model
with_token s at len =
    with_cell s
    (set (set (set s.numbers (2 * start s.free) token_kind) (2 * close s.free) at) (2 * close s.free + 1) len)
    s.opened (next_free s)

abbrev pub with_block : Model → Model
with_block s =
    with_cell s (set (set s.numbers (2 * start s.free) block_kind) (2 * close s.free + 1) s.opened) s.free (next_free s)

abbrev pub with_close : Model → Model
with_close s =
    record {
      numbers = set s.numbers (2 * s.tail + 1) (close s.opened);
      tail = close s.opened;
      opened = link s.numbers (close s.opened);
      free = s.free;
    }

-- the end mark behind the last port
abbrev pub with_end : (n : ℕ) → Model → List ℕ
with_end n s = set s.numbers (2 * s.tail + 1) (close n)

-- the end: the whole plan
pub record BuildEnded (b h : HeldPlan) : Type 0 where
  pub ends : held_numbers h ≡ with_end b.kept.outer.0 (model b)
  pub free : h.kept.free ≡ b.kept.free
  pub same : SameCells b h

-- a piece, by what it is
abbrev pub with_piece : Model → Piece → Model
with_piece s (Operator o) = with_item s (operator_number o)
with_piece s (Token t) = with_token s t.at.0 t.len
with_piece s Open = with_block s
with_piece s Close = with_close s

-- a piece finds a free cell; a `]` needs none, and finds an open block
abbrev pub FindsCell : (free opened n : ℕ) → Piece → Type 0
FindsCell free opened n (Operator o) = free < n
FindsCell free opened n (Token t) = free < n
FindsCell free opened n Open = free < n
FindsCell free opened n Close = opened < n

pub record PieceReady (b : HeldPlan) (k : Piece) : Type 0 where
  pub ready : Buildable b
  pub finds : FindsCell b.kept.free.0 b.opened.0 b.kept.outer.0 k

-- A block is begun in the first free cell, and no port links to it. What is put from then on is its inside.
pub record Apart (h b : HeldPlan) : Type 0 where
  pub opened : b.opened ≡ h.kept.free
  pub tail : b.tail.0 ≡ start h.kept.free.0
  pub free : b.kept.free.0 ≡ link (held_numbers h) (start h.kept.free.0)
  pub numbers : held_numbers b ≡ set (held_numbers h) (2 * start h.kept.free.0) block_kind
  pub same : SameCells h b
