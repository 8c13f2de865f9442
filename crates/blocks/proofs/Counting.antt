-- The walk of `block_cells` along the links of a block. At each port, the cells counted so far and the cells still to be counted are
-- together those of the block's contents. So at the block's close all are counted.
use Prim.Native.Nat.{ℕ, ◌+◌, ◌*◌, ◌%◌, ◌≤◌, ◌<◌}
use mathlib.Core.Path.{◌≡◌, ap, ◌∙◌}
use mathlib.Core.Logic.{◌≢◌}
use mathlib.Core.List.{List}
use native.Mathlib.Omega.{arith}
use lib.ListN.{length}
use Rattle.kinds.specs.Limits.{cell_limit}
use Rattle.plan.specs.Plan.{Plan, cells}
use Rattle.plan.proofs.Plans.{length-labels}
use Rattle.memory.specs.Held.{BlockIn, HeldIn, held_numbers}
use Rattle.memory.specs.Memory.{start, close, link, ports}
use Rattle.memory.specs.declared.HeldPlan.{HeldPlan}
use Rattle.blocks.specs.Blocks.{HasBlock, Alone}
use Rattle.blocks.proofs.LinkedBlock.{block_alone}
use Rattle.blocks.proofs.Starts.{starts, starts_even, starts_odd, length-starts, starts-ports, way_inside}
use Rattle.blocks.proofs.Ways.{ahead, at_most, ahead_end, way_ahead, way_from, Way, WayAhead, turn}

-- how many cells begin from a port on
abbrev pub to_count : (h : HeldPlan) → (stop port : ℕ) → ℕ
to_count h stop port = length (starts (ahead (held_numbers h) h.kept.outer.0 stop port))

pub record Counting (h : HeldPlan) (stop from port count : ℕ) : Type 0 where
  pub way : Way (held_numbers h) h.kept.outer.0 stop port (ahead (held_numbers h) h.kept.outer.0 stop port)
  pub few : to_count h stop from ≤ 2 * h.kept.outer.0
  pub so_far : count + to_count h stop port ≡ to_count h stop from

-- the block is one of a plan that the memory holds

all_cells : (text : List ℕ) (h : HeldPlan) (c : ℕ) (t b : Plan ℕ) → HeldIn text h t → BlockIn c b t
    → to_count h (close c) (link (held_numbers h) (start c)) ≡ cells b
all_cells text h c t b held inside =
    ap (λ ps. length (starts ps)) (way_ahead (way_inside (block_alone held inside))) ∙ ap length (starts-ports b) ∙ length-labels b

module _ {text : List ℕ} {h : HeldPlan} {c : ℕ} (has : HasBlock text h c) where
  alone : Alone h.kept.outer.0 (held_numbers h) c has.contents
  alone = block_alone has.held has.inside

  pub block_small : c ≤ cell_limit
  block_small = omega (arith, alone.below.0, h.lent.few)

  pub block_low : (port : ℕ) → port ≡ start c → port ≤ start h.kept.outer.0
  block_low port e = omega (arith, alone.below.0)

  pub count_first : (stop at port : ℕ) → stop ≡ close c → at ≡ start c → port ≡ link (held_numbers h) at → Counting h stop port port 0
  count_first stop at port e a l =
      let on = way_inside alone in
      let low = at_most (2 * h.kept.outer.0) (ports has.contents) on.below on.once.1 in
      rw (e, l, a) record {
        way = way_from on;
        few = rw (way_ahead on) (omega (arith, length-starts (ports has.contents)));
        so_far = omega arith;
      }

module _ {h : HeldPlan} {stop from port count : ℕ} (k : Counting h stop from port count) (more : port ≢ stop) where
  abbrev v : List ℕ
  v = held_numbers h

  abbrev n : ℕ
  n = h.kept.outer.0

  here : WayAhead v n stop port
  here = turn k.way more

  pub count_low : port ≤ start n
  count_low = let low = here.low in omega arith

  pub count_less : (next : ℕ) → next ≡ link v port → length (ahead v n stop next) < length (ahead v n stop port)
  count_less next e = rw e (omega (arith, ap length here.on))

  still : (p : port % 2 ≡ 0) → to_count h stop port ≡ to_count h stop (link v port) + 1
  still p = ap (λ ps. length (starts ps)) here.on ∙ ap length (starts_even port _ p) ∙ omega arith

  pub count_fits : port % 2 ≡ 0 → count + 1 ≤ 2 * cell_limit
  count_fits p = omega (arith, still p, k.so_far, k.few, h.lent.few)

  pub count_start : port % 2 ≡ 0 → (next : ℕ) → next ≡ link v port → (so_many : ℕ) → so_many ≡ count + 1 → Counting h stop from next so_many
  count_start p next e so_many is = rw (e, is) record { way = here.way; few = k.few; so_far = omega (arith, still p, k.so_far) }

  pub count_close : port % 2 ≢ 0 → (next : ℕ) → next ≡ link v port → (so_many : ℕ) → so_many ≡ count → Counting h stop from next so_many
  count_close p next e so_many is = rw (e, is) record {
    way = here.way;
    few = k.few;
    so_far = omega (arith, ap (λ ps. length (starts ps)) here.on ∙ ap length (starts_odd port _ p), k.so_far);
  }

-- at the stop nothing is ahead, so all is counted, of every plan that the memory holds
pub count_end : (text : List ℕ) (h : HeldPlan) (c stop at from port count : ℕ) → Counting h stop from port count
    → port ≡ stop → stop ≡ close c → at ≡ start c → from ≡ link (held_numbers h) at
    → (t b : Plan ℕ) → HeldIn text h t → BlockIn c b t → count ≡ cells b
unfolding starts
count_end text h c stop at from port count k e s a f t b held inside =
    let none : to_count h stop port ≡ 0 = rw (ahead_end (held_numbers h) h.kept.outer.0 stop port e) in
    let all : to_count h stop from ≡ cells b = rw (s, f, a) (all_cells text h c t b held inside) in
    omega (arith, k.so_far)
