-- The walk of `last_port`. The last of the ports ahead is the last port inside the block. Where no port is ahead, that last
-- port is the one that the walk stands at.
use Prim.Native.Nat.{ℕ, ◌≤◌, ◌<◌}
use mathlib.Core.Path.{◌≡◌, refl, ap, sym, ◌∙◌}
use mathlib.Core.Logic.{◌≢◌}
use mathlib.Core.List.{List}
use native.Mathlib.Omega.{arith}
use lib.ListN.{length}
use Rattle.kinds.specs.Limits.{cell_limit}
use Rattle.plan.specs.Plan.{Plan}
use Rattle.memory.specs.Held.{held_numbers}
use Rattle.memory.specs.Memory.{start, close, link, ports, last_of}
use Rattle.memory.specs.declared.HeldPlan.{HeldPlan}
use Rattle.blocks.specs.Blocks.{Alone, Leaves}
use Rattle.blocks.proofs.Starts.{way_inside}
use Rattle.blocks.proofs.Ways.{ahead, ahead_end, way_ahead, way_from, Way, WayAhead, turn}

-- the ports ahead of one in the memory
abbrev pub ports_ahead : (h : HeldPlan) → (stop port : ℕ) → List ℕ
ports_ahead h stop port = ahead (held_numbers h) h.kept.outer.0 stop port

-- `from` is where the walk began
pub record LastSoFar (h : HeldPlan) (stop from next₀ port next : ℕ) : Type 0 where
  pub low : port ≤ start h.kept.outer.0
  pub way : Way (held_numbers h) h.kept.outer.0 stop next (ports_ahead h stop next)
  pub last : last_of port (ports_ahead h stop next) ≡ last_of from (ports_ahead h stop next₀)

module _ {h : HeldPlan} {c : ℕ} (k : Leaves h c) where
  pub last-small : c ≤ cell_limit
  last-small = omega (arith, k.alone.below.0, h.lent.few)

  pub last_low : (port : ℕ) → port ≡ start c → port ≤ start h.kept.outer.0
  last_low port e = omega (arith, k.alone.below.0)

  pub last-first : (stop port next : ℕ) → stop ≡ close c → port ≡ start c → next ≡ link (held_numbers h) port → LastSoFar h stop port next port next
  last-first stop port next e s l =
      rw (e, l, s) record { low = omega (arith, k.alone.below.0); way = way_from (way_inside k.alone); last = refl }

module _ {h : HeldPlan} {stop from next₀ port next : ℕ} (k : LastSoFar h stop from next₀ port next) (more : next ≢ stop) where
  here : WayAhead (held_numbers h) h.kept.outer.0 stop next
  here = turn k.way more

  pub last-next_low : next ≤ start h.kept.outer.0
  last-next_low = let low = here.low in omega arith

  module _ (onward : ℕ) (e : onward ≡ link (held_numbers h) next) where
    pub last_less : length (ports_ahead h stop onward) < length (ports_ahead h stop next)
    last_less = rw e (omega (arith, ap length here.on))

    pub last_on : LastSoFar h stop from next₀ next onward
    last_on = rw e record { low = last-next_low; way = here.way; last = sym (ap (last_of port) here.on) ∙ k.last }

-- at the stop nothing is ahead, of every block that the cell begins
pub last_end : {h : HeldPlan} {stop from next₀ port next : ℕ} → LastSoFar h stop from next₀ port next → next ≡ stop
    → (c : ℕ) → stop ≡ close c → from ≡ start c → next₀ ≡ link (held_numbers h) from
    → (b : Plan ℕ) → Alone h.kept.outer.0 (held_numbers h) c b → port ≡ last_of (start c) (ports b)
last_end {h} {stop} {from} {next₀} {port} {next} k e c s f l b alone =
    let none = ap (last_of port) (ahead_end (held_numbers h) h.kept.outer.0 stop next e) in
    let all : ports_ahead h stop next₀ ≡ ports b = rw (s, l, f) (way_ahead (way_inside alone)) in
    sym none ∙ k.last ∙ rw (all, f)
