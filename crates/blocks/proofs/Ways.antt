-- The way along a chain of ports, from one port up to a stop, on plain values. No port comes twice on it. So it has at most as many ports
-- as all cells have, and so many steps are enough for it.
use Prim.Native.Nat.{ℕ, zero, suc, ◌+◌, ◌*◌, ◌≤◌, ◌<◌}
use mathlib.Core.Path.{◌≡◌, refl, ap, sym, ◌∙◌, subst}
use mathlib.Core.Bool.{Bool, true, false}
use mathlib.Core.Logic.{◌≢◌, ◌⊎◌, inl, inr}
use mathlib.Core.List.{List, [], ◌∷◌, ◌++◌}
use native.Mathlib.Omega.{arith}
use borrow.Author.Tests.{eqb-true, eqb-false}
use lib.Dec.{eqb}
use lib.ListN.{length, set, length-append}
use lib.Seq.{get_or-set_other}
use Rattle.memory.specs.Memory.{start, link, Below, Absent, Distinct}
use Rattle.memory.proofs.Freeing.{below_swap, distinct_swap}
use Rattle.memory.proofs.Along.{along, along_leads, LeadsAlong}

-- numbers below n, none of them twice, are at most n

below_less : (n : ℕ) (xs : List ℕ) → Below (suc n) xs → Absent n xs → Below n xs
below_less n [] b a = tt
below_less n (x ∷ xs) b a = (omega arith, below_less n xs b.1 a.1)

abbrev Split : ℕ → List ℕ → Type 0
Split n xs = Absent n xs ⊎ ((ys : List ℕ) × (zs : List ℕ) × (xs ≡ ys ++ n ∷ zs))

split_behind : (n x : ℕ) (xs : List ℕ) → x ≢ n → Split n xs → Split n (x ∷ xs)
split_behind n x xs h (inl a) = inl (λ e. h (sym e), a)
split_behind n x xs h (inr (ys, zs, e)) = inr (x ∷ ys, zs, ap (x ∷◌) e)

split_first : (n x : ℕ) (xs : List ℕ) (t : Bool) → eqb x n ≡ t → Split n xs → Split n (x ∷ xs)
split_first n x xs true e r = inr ([], xs, ap (◌∷ xs) (eqb-true x n e))
split_first n x xs false e r = split_behind n x xs (eqb-false x n e) r

split : (n : ℕ) (xs : List ℕ) → Split n xs
split n [] = inl tt
split n (x ∷ xs) = split_first n x xs (eqb x n) refl (split n xs)

at_most_split : (n : ℕ) (xs : List ℕ) → ((ys : List ℕ) → Below n ys → Distinct ys → length ys ≤ n)
    → Below (suc n) xs → Distinct xs → Split n xs → length xs ≤ suc n
at_most_split n xs few b d (inl a) = omega (arith, few xs (below_less n xs b a) d)
at_most_split n xs few b d (inr (ys, zs, e)) =
    let k = below_swap (suc n) ys (n ∷ []) zs (subst (Below (suc n)) e b) in
    let l = distinct_swap ys (n ∷ []) zs (subst Distinct e d) in
    omega (arith, few (ys ++ zs) (below_less n (ys ++ zs) k.1 l.0) l.1, ap length e, length-append ys (n ∷ zs), length-append ys zs)

pub at_most : (n : ℕ) (xs : List ℕ) → Below n xs → Distinct xs → length xs ≤ n
at_most zero [] b d = omega arith
at_most zero (x ∷ xs) b d = absurd (omega arith)
at_most (suc n) xs b d = at_most_split n xs (at_most n) b d (split n xs)

-- ways

abbrev pub ahead : (w : List ℕ) → (n stop port : ℕ) → List ℕ
ahead w n stop port = along w stop (2 * n) port

-- these are the ports from one on up to the stop: ports of lent cells, each once, and none of them the stop
pub record Way (w : List ℕ) (n stop port : ℕ) (ps : List ℕ) : Type 0 where
  pub leads : LeadsAlong w stop port ps
  pub once : Distinct (stop ∷ ps)
  pub below : Below (start n) ps

-- a store at the link of a port that is not ahead
pub leads_beside : (w : List ℕ) (stop port : ℕ) (ps : List ℕ) (p a : ℕ) → Absent p ps → LeadsAlong w stop port ps → LeadsAlong (set w (2 * p + 1) a) stop port ps
leads_beside w stop port [] p a h k = k
leads_beside w stop port (x ∷ ps) p a h k =
    (k.0, rw (get_or-set_other w (2 * p + 1) (2 * x + 1) a 0 (omega arith)) (leads_beside w stop (link w x) ps p a h.1 k.1))

pub ahead_end : (w : List ℕ) (n stop port : ℕ) → port ≡ stop → ahead w n stop port ≡ []
ahead_end w n stop port e = along_leads w stop (2 * n) port [] e tt (omega arith)

-- the ports of a way are those ahead
pub way_ahead : {w : List ℕ} {n stop port : ℕ} {ps : List ℕ} → Way w n stop port ps → ahead w n stop port ≡ ps
way_ahead {w} {n} {stop} {port} {ps} h =
    along_leads w stop (2 * n) port ps h.leads h.once.0 (at_most (2 * n) ps h.below h.once.1)

pub way_from : {w : List ℕ} {n stop port : ℕ} {ps : List ℕ} → Way w n stop port ps → Way w n stop port (ahead w n stop port)
way_from h = rw (way_ahead h) h

-- the first port ahead, and the ports behind it
pub record WayAhead (w : List ℕ) (n stop port : ℕ) : Type 0 where
  pub low : port < start n
  pub on : ahead w n stop port ≡ port ∷ ahead w n stop (link w port)
  pub past : Absent port (ahead w n stop (link w port))
  pub way : Way w n stop (link w port) (ahead w n stop (link w port))

turn-first : (w : List ℕ) (n stop port : ℕ) (ps : List ℕ) → Way w n stop port ps → port ≢ stop → WayAhead w n stop port
turn-first w n stop port [] h more = absurd (more h.leads)
turn-first w n stop port (x ∷ ps) h more =
    let next : Way w n stop (link w x) ps =
    record { leads = h.leads.1; once = (h.once.0.1, h.once.1.1); below = h.below.1 } in
    subst (WayAhead w n stop) (sym h.leads.0) record {
      low = h.below.0;
      on = ap (ahead w n stop) (sym h.leads.0) ∙ way_ahead h ∙ ap (x ∷◌) (sym (way_ahead next));
      past = rw (way_ahead next) h.once.1.0;
      way = way_from next;
    }

pub turn : {w : List ℕ} {n stop port : ℕ} → Way w n stop port (ahead w n stop port) → port ≢ stop → WayAhead w n stop port
turn h more = turn-first _ _ _ _ _ h more
