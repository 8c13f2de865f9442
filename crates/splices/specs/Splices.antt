-- The links that a rewrite moves, on plain values: ports are cut out of the chain, linked ports are put in, a cell is free again.
-- The code's functions promise exactly these moves. That a rewrite is made of them is proved of the moves alone.
use Rattle.std.specs.Prelude.{ℕ, ◌+◌, ◌*◌, ◌≡◌, List, set}
use Rattle.memory.specs.Held.{SameCells, held_numbers}
use Rattle.memory.specs.Memory.{start, close, link}
use Rattle.memory.specs.declared.HeldPlan.{HeldPlan}

-- the port `after` links to what stands behind `last`
unfoldable pub cut : List ℕ → (after last : ℕ) → List ℕ
cut w after last = set w (2 * after + 1) (link w last)

-- the ports from `head` to `tail` stand behind `after`
unfoldable pub put_in : List ℕ → (after head tail : ℕ) → List ℕ
put_in w after head tail = set (set w (2 * tail + 1) (link w after)) (2 * after + 1) head

-- the block at the cell c leaves its place behind `before` and stands behind `after`
unfoldable pub moved : List ℕ → (before c after : ℕ) → List ℕ
moved w before c after = put_in (cut w before (close c)) after (start c) (close c)

-- a cell that no port links to is the first free one
unfoldable pub released : List ℕ → (free c : ℕ) → List ℕ
released w free c = set w (2 * start c + 1) free

-- The contents of the block at the cell c end at the port `last`. They stand in the block's place, and its cell is free. The link at their
-- end is stored first: where the block is empty, its last port is its own start.
unfoldable pub unwrapped : List ℕ → (free before c last : ℕ) → List ℕ
unwrapped w free before c last = released (cut (cut w last (close c)) before (start c)) free c

-- afterwards the memory, with what is kept beside it, is v, and `spare` is the first free cell
pub record Spliced (h h' : HeldPlan) (v : List ℕ) (spare : ℕ) : Type 0 where
  pub numbers : held_numbers h' ≡ v
  pub free : h'.kept.free.0 ≡ spare
  pub same : SameCells h h'

-- the operator behind the block at the cell `newer` is out of the chain, and its cell is the first free one
abbrev pub OperatorOut : HeldPlan → HeldPlan → (newer operator : ℕ) → Type 0
OperatorOut h h' newer operator = Spliced h h' (released (cut (held_numbers h) (close newer) (start operator)) h.kept.free.0 operator) operator

-- the contents of the block at the cell c stand in its place, and its cell is the first free one
abbrev pub BlockOpened : HeldPlan → HeldPlan → (before c last : ℕ) → Type 0
BlockOpened h h' before c last = Spliced h h' (unwrapped (held_numbers h) h.kept.free.0 before c last) c
