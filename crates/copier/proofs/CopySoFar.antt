-- The walk through the contents of a block, on plain values. At each port, the copy so far and the pieces that the ports ahead show are
-- together the contents, except for their cells. All that the plan had is as it was. Each turn puts the like of one port.
use Prim.Native.Nat.{ℕ, ◌+◌, ◌*◌, ◌/◌, ◌≤◌, ◌<◌}
use mathlib.Core.Path.{◌≡◌, refl, sym, ◌∙◌, subst}
use mathlib.Core.Logic.{◌≢◌}
use mathlib.Core.List.{List, [], ◌∷◌, ◌++◌, append_assoc}
use native.Mathlib.Omega.{arith}
use native.Mathlib.Decide.{dec_lt}
use lib.ListN.{length, set}
use Rattle.kinds.specs.Limits.{cell_numbers}
use Rattle.plan.specs.Plan.{Plan, cells, labels}
use Rattle.plan.specs.Pieces.{Piece, seen}
use Rattle.pieces.specs.Written.{Is}
use Rattle.memory.specs.Memory.{start, close, datum, link, block_kind, ports, Linked, Says, Below, Absent, Shared}
use Rattle.memory.specs.Model.{FindsCell, Model}
use Rattle.memory.specs.Pieces.{Shown, piece_at}
use Rattle.memory.proofs.Along.{along}
use Rattle.memory.proofs.Beside.{Agree, Kept, link-kept, linked_agree, says_agree}
use Rattle.memory.proofs.Building.{ended_in}
use Rattle.memory.proofs.Lists.{absent_split, below_absent, below_split, distinct_split, not_before}
use Rattle.memory.proofs.Pieces.{piece_agree}
use Rattle.memory.proofs.Placing.{Placed, place, place_end}
use Rattle.memory.proofs.Ports.{ports_absent}
use Rattle.copier.specs.Copying.{CopyHeld, like}
use Rattle.copier.proofs.Road.{Road, road_less, road_on, road_ours}

-- the cells in use beside the copy's contents: the plan's, and the copy itself
abbrev pub beside : Plan ℕ → (root : ℕ) → List ℕ
beside t root = labels t ++ root ∷ []

-- w₀ is the memory as it was where the walk began
pub record CopySoFar (text : List ℕ) (n : ℕ) (w₀ : List ℕ) (root stop : ℕ) (t b : Plan ℕ) (s : Model) (port : ℕ) : Type 0 where
  pub ahead : List ℕ
  pub come : List (Piece ℕ)
  pub placed : Placed text n root (beside t root) b s come
  pub kept : Kept n root (beside t root) w₀ s.numbers
  pub road : Road w₀ n stop t port ahead
  pub shown : Shown text w₀ ahead come
  pub room : length (beside t root) + cells b ≤ n

pub record CopyAhead (text : List ℕ) (n : ℕ) (w₀ : List ℕ) (root stop : ℕ) (t b : Plan ℕ) (s : Model) (port : ℕ) : Type 0 where
  pub below : port < start n
  pub finds : FindsCell s.free s.opened n (piece_at s.numbers port)
  pub ours : ¬ Absent (port / 2) (labels t)
  pub next : CopySoFar text n w₀ root stop t b (like s port) (link w₀ port)
  pub less : length (along w₀ stop (2 * n) (link w₀ port)) < length (along w₀ stop (2 * n) port)

pub in_below : (n c : ℕ) (cs : List ℕ) → Below n cs → ¬ Absent c cs → c < n
in_below n c cs low m = go (dec_lt c n)
  where
    go : Dec (c < n) → c < n
    go (yes h) = h
    go (no h) = absurd (m (below_absent n c cs (omega arith) low))

-- the plan's own cells have their numbers yet, for the copy is none of them

module _ (n root : ℕ) (t : Plan ℕ) (more : List ℕ) {w : List ℕ} {free : ℕ} (s : Shared n w free (beside t root ++ more)) where
  beside_below : Below n (labels t) × Below n (root ∷ [])
  beside_below =
      below_split n (labels t) (root ∷ []) (below_split n (beside t root) more (below_split n (beside t root ++ more) s.spare s.below).0).0

  root_apart : Absent root (n ∷ labels t)
  root_apart =
      let d = (distinct_split (beside t root) more (distinct_split (beside t root ++ more) s.spare s.distinct).0).0 in
      let low = beside_below.1.0 in
      (omega arith, not_before root (labels t) (root ∷ []) d (λ k. k.0 refl))

  pub agrees : (w₀ v : List ℕ) → Kept n root (beside t root) w₀ v → Agree (n ∷ labels t) w₀ v
  agrees w₀ v kept i m =
      kept i (λ h. m (h.0, (absent_split (i / cell_numbers) (labels t) (root ∷ []) h.1).0))
      (λ e. m (subst (λ c. Absent c (n ∷ labels t)) (omega arith) root_apart))

-- where a port of the plan links to is as it was
pub turn-link : {text : List ℕ} {n : ℕ} {w₀ : List ℕ} {root stop : ℕ} {t b : Plan ℕ} {s : Model} {port : ℕ}
    → CopyAhead text n w₀ root stop t b s port → link (like s port).numbers port ≡ link w₀ port
turn-link {n = n} {w₀ = w₀} {root = root} {t = t} {s = s} {port = port} u =
    let g = u.next in
    agrees n root t (seen g.placed.out g.placed.here) g.placed.built.shared w₀ (like s port).numbers g.kept (2 * port + 1)
    (λ h. u.ours (subst (λ c. Absent c (labels t)) (omega arith) h.1))

-- what holds of the plan and of the copy where the walk begins
pub record Started (text : List ℕ) (n : ℕ) (w₀ : List ℕ) (root : ℕ) (t : Plan ℕ) : Type 0 where
  pub linked : Linked w₀ (start n ∷ (ports t ++ close n ∷ []))
  pub says : Says text w₀ t
  pub kind : datum w₀ (start root) ≡ block_kind

module _ {text : List ℕ} {n : ℕ} {w₀ : List ℕ} {root stop : ℕ} {t b : Plan ℕ} {s : Model} {port : ℕ} (g : CopySoFar text n w₀ root stop t b s port) where
  -- a port ahead shows the same piece as where the walk began
  same-piece : (x : ℕ) → ¬ Absent (x / 2) (labels t) → piece_at s.numbers x ≡ piece_at w₀ x
  same-piece x m =
      piece_agree w₀ s.numbers x
      (λ i e. agrees n root t (seen g.placed.out g.placed.here) g.placed.built.shared w₀ s.numbers g.kept i (λ h. m (subst (λ c. Absent c (labels t)) e h.1)))

  pub turn : port ≢ stop → CopyAhead text n w₀ root stop t b s port
  unfolding like
  turn more = go g.ahead g.come g.placed g.road g.shown
    where
      go : (xs : List ℕ) (ps : List (Piece ℕ)) → Placed text n root (beside t root) b s ps → Road w₀ n stop t port xs → Shown text w₀ xs ps → CopyAhead text n w₀ root stop t b s port
      go [] ps placed r shown = absurd (more r.leads)
      go (x ∷ xs) [] placed r shown = absurd shown
      go (x ∷ xs) (z ∷ ps) placed r shown =
          let low = in_below n (x / 2) (labels t) (beside_below n root t (seen g.placed.out g.placed.here) g.placed.built.shared).0 (road_ours r) in
          let put = place b g.room (subst (λ k. Is text k z) (sym (same-piece x (road_ours r))) shown.0) placed in
          subst (CopyAhead text n w₀ root stop t b s) (sym r.leads.0)
          record {
            below = omega arith;
            finds = put.finds;
            ours = road_ours r;
            next = record {
              ahead = xs;
              come = ps;
              placed = put.placed;
              kept = λ i a e. put.kept i a e ∙ g.kept i a e;
              road = road_on r;
              shown = shown.1;
              room = g.room;
            };
            less = subst (λ y. length (along w₀ stop (2 * n) (link w₀ x)) < length (along w₀ stop (2 * n) y)) r.leads.0 (road_less r);
          }

  -- at the stop: the copy's last port is linked to its own close
  pub copy_end : port ≡ stop → Started text n w₀ root t → CopyHeld text n (set s.numbers (2 * s.tail + 1) (close root)) s.free root t b
  copy_end e start₀ = go g.ahead g.come g.placed g.road g.shown
    where
      go : (xs : List ℕ) (ps : List (Piece ℕ)) → Placed text n root (beside t root) b s ps → Road w₀ n stop t port xs → Shown text w₀ xs ps
          → CopyHeld text n (set s.numbers (2 * s.tail + 1) (close root)) s.free root t b
      go (x ∷ xs) ps placed r shown = absurd (r.ends.0 (sym e ∙ r.leads.0))
      go [] (z ∷ ps) placed r shown = absurd shown
      go [] [] placed r shown =
          let (here, alike, built) = place_end b placed in
          let v = set s.numbers (2 * s.tail + 1) (close root) in
          let whole = ended_in built in
          let kept : Kept n root (beside t root) w₀ v = λ i a z. link-kept built s.numbers (close root) i a z ∙ g.kept i a z in
          let agree : Agree (n ∷ labels t) w₀ v = agrees n root t (labels here) whole.shared w₀ v kept in
          record {
            contents = here;
            alike = alike;
            chain =
                linked_agree w₀ v (start n ∷ ports t) (close n)
                (λ x i. agree (2 * x + 1) (λ h. i (omega arith, ports_absent x t (subst (λ c. Absent c (labels t)) (omega arith) h.1))))
                start₀.linked;
            says = says_agree text w₀ v t (λ i a. agree i (λ h. a h.1)) start₀.says;
            kind = kept (2 * start root)
                (λ h. (absent_split (2 * start root / cell_numbers) (labels t) (root ∷ []) h.1).1.0 (omega arith)) (omega arith) ∙ start₀.kind;
            copy_chain = whole.chain;
            copy_says = whole.says;
            shared = subst (Shared n v s.free) (append_assoc (labels t) (root ∷ []) (labels here)) whole.shared;
          }
