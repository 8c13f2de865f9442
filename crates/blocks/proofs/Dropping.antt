-- The walk of `free_block`. At each port, freeing the cells still ahead, in the memory as it is now, gives the same as
-- freeing all of them in the first memory. So at the block's close all are freed. A passed port is not ahead any more, so a
-- store at its link leaves the way on as it is.
use Prim.Native.Nat.{ℕ, ◌+◌, ◌*◌, ◌/◌, ◌%◌, ◌≤◌, ◌<◌}
use mathlib.Core.Path.{◌≡◌, refl, ap, sym, ◌∙◌}
use mathlib.Core.Logic.{◌≢◌}
use mathlib.Core.List.{List, [], ◌∷◌}
use native.Mathlib.Omega.{arith}
use lib.ListN.{length, set}
use Rattle.kinds.specs.Limits.{cell_limit}
use Rattle.plan.specs.Plan.{labels}
use Rattle.memory.specs.Held.{SameCells, held_numbers}
use Rattle.memory.specs.Memory.{start, close, link}
use Rattle.memory.specs.declared.HeldPlan.{HeldPlan}
use Rattle.memory.proofs.Steps.{cells_same, same_at, same_on}
use Rattle.blocks.specs.Blocks.{BlockFreed, Leaves, freed, first_free}
use Rattle.blocks.proofs.Starts.{starts, starts_even, starts_odd, starts_block, way_through}
use Rattle.blocks.proofs.Ways.{ahead, leads_beside, ahead_end, way_ahead, way_from, Way, WayAhead, turn}

-- the cells that begin from a port on
abbrev pub to_free : (w : List ℕ) → (n stop port : ℕ) → List ℕ
to_free w n stop port = starts (ahead w n stop port)

-- all of them freed in the memory h, where `spare` is the first free cell
abbrev pub all_freed : (h : HeldPlan) → (spare n stop port : ℕ) → List ℕ
all_freed h spare n stop port = freed (held_numbers h) spare (to_free (held_numbers h) n stop port)

abbrev pub then_free : (h : HeldPlan) → (spare n stop port : ℕ) → ℕ
then_free h spare n stop port = first_free spare (to_free (held_numbers h) n stop port)

-- h₀ is the memory as it was where the walk began
pub record Dropping (h₀ : HeldPlan) (stop from : ℕ) (h : HeldPlan) (port : ℕ) : Type 0 where
  pub same : SameCells h₀ h
  pub way : Way (held_numbers h) h₀.kept.outer.0 stop port (ahead (held_numbers h) h₀.kept.outer.0 stop port)
  pub numbers : all_freed h h.kept.free.0 h₀.kept.outer.0 stop port ≡ all_freed h₀ h₀.kept.free.0 h₀.kept.outer.0 stop from
  pub frees : then_free h h.kept.free.0 h₀.kept.outer.0 stop port ≡ then_free h₀ h₀.kept.free.0 h₀.kept.outer.0 stop from

module _ {h : HeldPlan} {c : ℕ} (k : Leaves h c) where
  pub drop-small : c ≤ cell_limit
  drop-small = omega (arith, k.alone.below.0, h.lent.few)

  pub drop-first : (stop port : ℕ) → stop ≡ close c → port ≡ start c → Dropping h stop port h port
  drop-first stop port e s = rw (e, s) record { same = same_at; way = way_from (way_through k.alone); numbers = refl; frees = refl }

module _ {h₀ : HeldPlan} {stop from : ℕ} {h : HeldPlan} {port : ℕ} (k : Dropping h₀ stop from h port) (more : port ≢ stop) where
  abbrev n : ℕ
  n = h₀.kept.outer.0

  abbrev w : List ℕ
  w = held_numbers h

  here : WayAhead w n stop port
  here = turn k.way more

  pub drop_low : port < start h.kept.outer.0
  drop_low =
      let low = here.low in
      let e = cells_same k.same in omega arith

  module _ (next : ℕ) (onward : next ≡ link w port) where
    -- a close is passed over
    pub close_less : length (ahead w n stop next) < length (ahead w n stop port)
    close_less = rw onward (omega (arith, ap length here.on))

    pub drop-close : port % 2 ≢ 0 → Dropping h₀ stop from h next
    drop-close odd =
        let passed : to_free w n stop (link w port) ≡ to_free w n stop port = sym (ap starts here.on ∙ starts_odd port _ odd) in
        rw onward record {
          same = k.same;
          way = here.way;
          numbers = ap (freed w h.kept.free.0) passed ∙ k.numbers;
          frees = ap (first_free h.kept.free.0) passed ∙ k.frees;
        }

    -- whatever a start's cell keeps, the way goes on
    module _ (w' : List ℕ) (v : ℕ) (kept : w' ≡ set w (2 * port + 1) v) where
      way' : Way w' n stop next (ahead w n stop (link w port))
      way' =
          let on = here.way in
          rw (kept, onward) record {
            leads = leads_beside w stop (link w port) (ahead w n stop (link w port)) port v here.past on.leads;
            once = on.once;
            below = on.below;
          }

      pub start_less : length (ahead w' n stop next) < length (ahead w n stop port)
      start_less = omega (arith, ap length here.on, ap length (way_ahead way'))

    -- a start's cell is freed
    module _ (h' : HeldPlan) (kept : held_numbers h' ≡ set w (2 * port + 1) h.kept.free.0) (same : SameCells h h') where
      pub drop-start : port % 2 ≡ 0 → h'.kept.free.0 ≡ port / 2 → Dropping h₀ stop from h' next
      unfolding freed first_free
      drop-start even e =
          let w' = held_numbers h' in
          let on = way' w' h.kept.free.0 kept in
          let cs = to_free w n stop (link w port) in
          let all : to_free w n stop port ≡ port / 2 ∷ cs = ap starts here.on ∙ starts_even port _ even in
          let rest : to_free w' n stop next ≡ cs = ap starts (way_ahead on) in
          let this : start (port / 2) ≡ port = omega arith in
          record {
            same = same_on k.same same;
            way = way_from on;
            numbers =
                ap (λ f. freed w' f (to_free w' n stop next)) e ∙ ap (freed w' (port / 2)) rest
                ∙ ap (λ v. freed v (port / 2) cs) (kept ∙ ap (λ p. set w (2 * p + 1) h.kept.free.0) (sym this))
                ∙ ap (freed w h.kept.free.0) (sym all) ∙ k.numbers;
            frees =
                ap (λ f. first_free f (to_free w' n stop next)) e ∙ ap (first_free (port / 2)) rest
                ∙ ap (first_free h.kept.free.0) (sym all) ∙ k.frees;
          }

-- at the stop nothing is ahead, so all is freed, of every block that the cell begins
pub drop_end : {h₀ : HeldPlan} {stop from : ℕ} {h : HeldPlan} {port : ℕ} → Dropping h₀ stop from h port
    → port ≡ stop → (c : ℕ) → stop ≡ close c → from ≡ start c → BlockFreed h₀ c h
unfolding starts freed first_free
drop_end {h₀} {stop} {from} {h} {port} k e c s f b alone =
    let n = h₀.kept.outer.0 in
    let none : to_free (held_numbers h) n stop port ≡ [] = ap starts (ahead_end (held_numbers h) n stop port e) in
    let all : to_free (held_numbers h₀) n stop from ≡ c ∷ labels b = rw (s, f) (ap starts (way_ahead (way_through alone)) ∙ starts_block c b) in
    record {
      numbers = sym (ap (freed (held_numbers h) h.kept.free.0) none) ∙ k.numbers ∙ ap (freed (held_numbers h₀) h₀.kept.free.0) all;
      frees = sym (ap (first_free h.kept.free.0) none) ∙ k.frees ∙ ap (first_free h₀.kept.free.0) all;
    }
