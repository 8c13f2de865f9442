-- Whether the item at a port is a ready operator, whether a block opens at a port, and where an item ends. Each is told by the port's datum
-- and by the ports before it.
use Rattle.std.specs.Prelude.{ℕ, ◌/◌, ◌%◌, Bool, true, false, cond, List, Option, None, Some, eqb}
use Rattle.plan.specs.declared.Operator.{Operator}
use Rattle.rules.specs.Leftmost.{takes}
use Rattle.memory.specs.Memory.{close, datum}
use Rattle.memory.specs.Numbered.{kind_of}
use Rattle.memory.specs.declared.Kind.{Kind}
use Rattle.memory.specs.declared.Kind.TheVariants.{Operator as OPERATOR, Token as TOKEN, Block as BLOCK}
use Rattle.ready.specs.declared.Spot.{Spot}

abbrev pub is_block : Kind → Bool
is_block (OPERATOR o) = false
is_block TOKEN = false
is_block BLOCK = true

-- The last port of the item that starts at a port. It links to what comes behind the item. A block's last port is its close.
abbrev pub end_port : Kind → (at : ℕ) → ℕ
end_port kind at = cond (is_block kind) (close (at / 2)) at

-- a block opens at the port: the port is no close, and its datum says a block; the outermost start opens one too
unfoldable pub block_opens : List ℕ → (port : ℕ) → Bool
block_opens w port = cond (eqb (port % 2) 1) false (is_block (kind_of (datum w port)))

-- the operator at the port `at`, behind blocks that close at the last two ports
abbrev pub spot_at : Operator → (at last second before : ℕ) → Spot
spot_at o at last second before = record {
  which = o;
  before = record { 0 = before };
  older = record { 0 = second / 2 };
  newer = record { 0 = last / 2 };
  operator = record { 0 = at / 2 };
}

-- Whether the item at the port `at` is a ready operator. The ports `last`, `second` and `third` are the last ports of the three items
-- before it, the nearest first. An odd port is a block's close, so its item is a block.
abbrev pub ready_at : Kind → (at last second third : ℕ) → Option Spot
ready_at (OPERATOR o) at last second third =
    cond (eqb (last % 2) 1)
    (cond (eqb (takes o) 2) (cond (eqb (second % 2) 1) (Some (spot_at o at last second third)) None) (Some (spot_at o at last second second)))
    None
ready_at TOKEN at last second third = None
ready_at BLOCK at last second third = None
