-- Further laws of ways. The way through a sequence may be jumped along. The way through a whole plan may be entered at any port of it. That
-- way counts one cell more, since the outermost start belongs to a cell that is not lent.
use Prim.Native.Nat.{ℕ, suc}
use mathlib.Core.Path.{◌≡◌, ap, subst}
use mathlib.Core.Logic.{◌≢◌}
use mathlib.Core.List.{List, [], ◌∷◌, ◌++◌}
use native.Mathlib.Omega.{arith}
use lib.ListN.{length, length-append}
use Rattle.plan.specs.Plan.{Plan, labels}
use Rattle.memory.specs.Memory.{start, close, link, ports, Below, Holds}
use Rattle.memory.proofs.Lists.{below_split, below_absent, absent_split, distinct_split}
use Rattle.memory.proofs.Ports.{close_absent, ports_distinct}
use Rattle.memory.proofs.Ports.{below_ports}
use Rattle.blocks.proofs.Starts.{way_through}
use Rattle.memory.proofs.Along.{LeadsAlong, leads_linked}
use Rattle.blocks.proofs.Ways.{ahead, Way, way_from}
use Rattle.hunt.specs.Hunting.{SequenceAt}

pub way_sequence : {text : List ℕ} {n : ℕ} {w : List ℕ} {s : ℕ} {q : Plan ℕ} → SequenceAt text n w s q
    → Way w n (close s) (link w (start s)) (ports q)
way_sequence {n} {w} {s} {q} h =
    record {
      leads = leads_linked w (close s) (start s) (ports q) [] h.chain;
      once = (close_absent s q h.distinct.0, ports_distinct q h.distinct.1);
      below = below_ports n q h.below;
    }

-- past some ports at once

leads_skip : (w : List ℕ) (stop port y : ℕ) (xs ys : List ℕ) → LeadsAlong w stop port (xs ++ y ∷ ys) → LeadsAlong w stop (link w y) ys
leads_skip w stop port y [] ys h = h.1
leads_skip w stop port y (x ∷ xs) ys h = leads_skip w stop (link w x) y xs ys h.1

pub way_skip : {w : List ℕ} {n stop port : ℕ} (xs : List ℕ) (y : ℕ) (ys : List ℕ) → Way w n stop port (xs ++ y ∷ ys) → Way w n stop (link w y) ys
way_skip {w} {n} {stop} {port} xs y ys h =
    record {
      leads = leads_skip w stop port y xs ys h.leads;
      once = ((absent_split stop xs (y ∷ ys) h.once.0).1.1, (distinct_split xs (y ∷ ys) h.once.1).1.1);
      below = (below_split (start n) xs (y ∷ ys) h.below).1.1;
    }

-- a whole plan

below_wider : (n : ℕ) (xs : List ℕ) → Below n xs → Below (suc n) xs
below_wider n [] h = tt
below_wider n (x ∷ xs) h = (omega arith, below_wider n xs h.1)

pub way_whole : {text : List ℕ} {n : ℕ} {w : List ℕ} {free : ℕ} {t : Plan ℕ} → Holds text n w free t
    → Way w (suc n) (close n) (start n) (start n ∷ ports t)
way_whole {n} {w} {t} h =
    let low = (below_split n (labels t) h.shared.spare h.shared.below).0 in
    way_through record {
      chain = h.chain;
      distinct = (below_absent n n (labels t) (omega arith) low, (distinct_split (labels t) h.shared.spare h.shared.distinct).0);
      below = (omega arith, below_wider n (labels t) low);
    }

pub way_at : {w : List ℕ} {n stop port : ℕ} (ps xs : List ℕ) (y : ℕ) (ys : List ℕ) → Way w n stop port ps → ps ++ stop ∷ [] ≡ xs ++ y ∷ ys
    → y ≢ stop → Way w n stop y (ahead w n stop y)
way_at [] [] y ys h e other = absurd (other (cc))
way_at [] (x ∷ xs) y ys h e other = absurd (omega (arith, ap length e, length-append xs (y ∷ ys)))
way_at {w} {n} {stop} {port} (p ∷ ps) [] y ys h e other =
    let same : port ≡ y = cc h.leads.0 in
    subst (λ z. Way w n stop z (ahead w n stop z)) same (way_from h)
way_at {w = w} {n = n} {stop = stop} {port = port} (p ∷ ps) (x ∷ xs) y ys h e other = way_at {w = w} {n = n} {stop = stop} {port = link w p} ps xs y ys (way_skip [] p ps h) (cc) other
