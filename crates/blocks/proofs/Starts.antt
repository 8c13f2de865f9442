-- The cells whose starts are in a list of ports. For the ports of a plan, they are the plan's labels. Then the ways through a block: one
-- from its start, and one from the port behind its start.
use Prim.Native.Nat.{ℕ, ◌+◌, ◌/◌, ◌%◌, ◌<◌, ◌≤◌}
use mathlib.Core.Path.{◌≡◌, refl, ap, sym, ◌∙◌}
use mathlib.Core.Bool.{Bool, true, false}
use mathlib.Core.Logic.{◌≢◌}
use mathlib.Core.List.{List, [], ◌∷◌, ◌++◌}
use native.Mathlib.Omega.{arith}
use borrow.Author.Tests.{eq-eqb, ne_eqb, eqb-true, eqb-false}
use lib.Dec.{eqb}
use lib.ListN.{length}
use Rattle.plan.specs.Plan.{Plan, end, operator, token, block, labels}
use Rattle.memory.specs.Memory.{start, close, link, ports}
use Rattle.memory.proofs.Ports.{below_ports, start_absent, close_absent, ports_distinct}
use Rattle.blocks.specs.Blocks.{Alone}
use Rattle.memory.proofs.Along.{leads_linked}
use Rattle.blocks.proofs.Ways.{Way}

-- an even port is a start: as the code's test says
module _ (p : ℕ) {closes : Bool} (e : closes ≡ eqb (p % 2) 1) where
  pub is_start : closes ≡ false → p % 2 ≡ 0
  is_start h =
      let even : p % 2 ≢ 1 = eqb-false (p % 2) 1 (sym e ∙ h) in
      let low : p % 2 < 2 = omega arith in omega arith

  pub is_close : closes ≡ true → p % 2 ≢ 0
  is_close h = omega (arith, eqb-true (p % 2) 1 (sym e ∙ h))

abbrev with_start : Bool → (port : ℕ) → List ℕ → List ℕ
with_start true port cs = port / 2 ∷ cs
with_start false port cs = cs

unfoldable pub starts : List ℕ → List ℕ
starts [] = []
starts (p ∷ ps) = with_start (eqb (p % 2) 0) p (starts ps)

pub starts_even : (p : ℕ) (ps : List ℕ) → p % 2 ≡ 0 → starts (p ∷ ps) ≡ p / 2 ∷ starts ps
unfolding starts
starts_even p ps h = ap (λ t. with_start t p (starts ps)) (eq-eqb (p % 2) 0 h)

pub starts_odd : (p : ℕ) (ps : List ℕ) → p % 2 ≢ 0 → starts (p ∷ ps) ≡ starts ps
unfolding starts
starts_odd p ps h = ap (λ t. with_start t p (starts ps)) (ne_eqb (p % 2) 0 h)

length_with : (t : Bool) (p : ℕ) (cs : List ℕ) → length (with_start t p cs) ≤ length cs + 1
length_with true p cs = omega arith
length_with false p cs = omega arith

pub length-starts : (ps : List ℕ) → length (starts ps) ≤ length ps
unfolding starts
length-starts [] = omega arith
length-starts (p ∷ ps) = omega (arith, length_with (eqb (p % 2) 0) p (starts ps), length-starts ps)

starts-start : (c : ℕ) (ps : List ℕ) → starts (start c ∷ ps) ≡ c ∷ starts ps
starts-start c ps =
    let half : start c / 2 ≡ c = omega arith in
    starts_even (start c) ps (omega arith) ∙ ap (◌∷ starts ps) half

with_append : (t : Bool) (p : ℕ) (cs ds : List ℕ) → with_start t p (cs ++ ds) ≡ with_start t p cs ++ ds
with_append true p cs ds = refl
with_append false p cs ds = refl

starts_append : (ps qs : List ℕ) → starts (ps ++ qs) ≡ starts ps ++ starts qs
unfolding starts
starts_append [] qs = refl
starts_append (p ∷ ps) qs =
    ap (with_start (eqb (p % 2) 0) p) (starts_append ps qs) ∙ with_append (eqb (p % 2) 0) p (starts ps) (starts qs)

pub starts-ports : (t : Plan ℕ) → starts (ports t) ≡ labels t
unfolding ports labels starts
starts-ports end = refl
starts-ports (operator c o p) = starts-start c (ports p) ∙ ap (c ∷◌) (starts-ports p)
starts-ports (token c t p) = starts-start c (ports p) ∙ ap (c ∷◌) (starts-ports p)
starts-ports (block c b p) =
    starts-start c (ports b ++ close c ∷ ports p)
    ∙ ap (c ∷◌) (starts_append (ports b) (close c ∷ ports p) ∙ rw (starts-ports b, starts_odd (close c) (ports p) (omega arith), starts-ports p))

pub starts_block : (c : ℕ) (b : Plan ℕ) → starts (start c ∷ ports b) ≡ c ∷ labels b
starts_block c b = starts-start c (ports b) ∙ ap (c ∷◌) (starts-ports b)

-- the ways through a block

module _ {n : ℕ} {w : List ℕ} {c : ℕ} {b : Plan ℕ} (h : Alone n w c b) where
  pub way_inside : Way w n (close c) (link w (start c)) (ports b)
  way_inside =
      record {
        leads = leads_linked w (close c) (start c) (ports b) [] h.chain;
        once = (close_absent c b h.distinct.0, ports_distinct b h.distinct.1);
        below = below_ports n b h.below.1;
      }

  pub way_through : Way w n (close c) (start c) (start c ∷ ports b)
  way_through =
      let low = h.below.0 in
      record {
        leads = (refl, way_inside.leads);
        once = ((omega arith, way_inside.once.0), (start_absent c b h.distinct.0, way_inside.once.1));
        below = (omega arith, way_inside.below);
      }
