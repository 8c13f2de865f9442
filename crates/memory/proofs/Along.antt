-- The ports along a chain, from one port on up to a stop. They are a function of the port where a walk stands, with as many steps as all
-- cells have ports. So a walk needs no plan to tell where it is, and it ends.
use Prim.Native.Nat.{ℕ, zero, suc, ◌≤◌}
use mathlib.Core.Path.{◌≡◌, refl, sym}
use mathlib.Core.Bool.{cond}
use mathlib.Core.List.{List, [], ◌∷◌, ◌++◌}
use native.Mathlib.Omega.{arith}
use borrow.Author.Tests.{eq-eqb, ne_eqb}
use lib.Dec.{eqb}
use lib.ListN.{length}
use Rattle.memory.specs.Memory.{link, Linked, Absent}

-- the ports from one on up to a stop, in so many steps
unfoldable pub along : (w : List ℕ) → (stop steps port : ℕ) → List ℕ
along w stop zero port = []
along w stop (suc k) port = cond (eqb port stop) [] (port ∷ along w stop k (link w port))

-- the links lead from the port through these ports to the stop
abbrev pub LeadsAlong : (w : List ℕ) → (stop port : ℕ) → List ℕ → Type 0
LeadsAlong w stop port [] = port ≡ stop
LeadsAlong w stop port (x ∷ ps) = (port ≡ x) × LeadsAlong w stop (link w x) ps

pub along_leads : (w : List ℕ) (stop steps port : ℕ) (ps : List ℕ) → LeadsAlong w stop port ps → Absent stop ps → length ps ≤ steps
    → along w stop steps port ≡ ps
unfolding along
along_leads w stop zero port [] h a l = refl
along_leads w stop zero port (x ∷ ps) h a l = absurd (omega arith)
along_leads w stop (suc k) port [] h a l = rw (eq-eqb port stop h)
along_leads w stop (suc k) port (x ∷ ps) h a l =
    rw (h.0, ne_eqb x stop (λ e. a.0 (sym e)), along_leads w stop k (link w x) ps h.1 a.1 (omega arith))

pub leads_linked : (w : List ℕ) (stop x : ℕ) (ps zs : List ℕ) → Linked w (x ∷ (ps ++ stop ∷ zs)) → LeadsAlong w stop (link w x) ps
leads_linked w stop x [] zs h = h.0
leads_linked w stop x (y ∷ ps) zs h = (h.0, leads_linked w stop y ps zs h.1)
