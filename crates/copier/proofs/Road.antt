-- The ports that a walk through the contents of a block has ahead, one by one up to the block's close.
use Prim.Native.Nat.{ℕ, ◌*◌, ◌/◌, ◌≤◌, ◌<◌}
use mathlib.Core.Path.{◌≡◌, refl, ap}
use mathlib.Core.List.{List, ◌∷◌}
use native.Mathlib.Omega.{arith}
use lib.ListN.{length}
use Rattle.plan.specs.Plan.{Plan, labels}
use Rattle.memory.specs.Memory.{link, Absent}
use Rattle.memory.proofs.Along.{along, along_leads, LeadsAlong}

-- these ports are ahead; all are of cells of the plan t, and none is the stop
pub record Road (w : List ℕ) (n stop : ℕ) (t : Plan ℕ) (port : ℕ) (xs : List ℕ) : Type 0 where
  pub leads : LeadsAlong w stop port xs
  pub ours : (x : ℕ) → ¬ Absent x xs → ¬ Absent (x / 2) (labels t)
  pub ends : Absent stop xs
  pub few : length xs ≤ 2 * n

pub road_counts : {w : List ℕ} {n stop : ℕ} {t : Plan ℕ} {port : ℕ} {xs : List ℕ} → Road w n stop t port xs → length (along w stop (2 * n) port) ≡ length xs
road_counts {w} {n} {stop} {port = port} {xs = xs} r = ap length (along_leads w stop (2 * n) port xs r.leads r.ends r.few)

module _ {w : List ℕ} {n stop : ℕ} {t : Plan ℕ} {port x : ℕ} {xs : List ℕ} (r : Road w n stop t port (x ∷ xs)) where
  pub road_ours : ¬ Absent (x / 2) (labels t)
  road_ours = r.ours x (λ h. h.0 refl)

  pub road_on : Road w n stop t (link w x) xs
  road_on =
      record {
        leads = r.leads.1;
        ours = λ y m. r.ours y (λ h. m h.1);
        ends = r.ends.1;
        few = let l = r.few in omega arith;
      }

  pub road_less : length (along w stop (2 * n) (link w x)) < length (along w stop (2 * n) port)
  road_less = omega (arith, road_counts r, road_counts road_on)
