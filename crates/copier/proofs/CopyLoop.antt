-- The turns of the loop that copies a block, with the memory and what is kept beside it. What the walk knows is said of every plan that the
-- memory holds, and of all contents that the block has in it. There is such a pair.
use Prim.Native.Nat.{ℕ, ◌+◌, ◌*◌, ◌≤◌, ◌<◌}
use mathlib.Core.Path.{◌≡◌, ap, sym, ◌∙◌, subst}
use mathlib.Core.Logic.{◌≢◌}
use mathlib.Core.List.{List, [], ◌∷◌}
use native.Mathlib.Omega.{arith}
use lib.ListN.{length, set, length-append}
use Rattle.kinds.specs.Limits.{cell_limit}
use Rattle.kinds.specs.declared.Cell.{Cell}
use Rattle.plan.specs.Plan.{Plan, labels}
use Rattle.plan.proofs.Plans.{length-labels}
use Rattle.memory.specs.Held.{SameCells, held_numbers}
use Rattle.memory.specs.Memory.{start, close, link, Shared}
use Rattle.memory.specs.Model.{Apart, FindsCell, Buildable, Stepped, model, with_numbers}
use Rattle.memory.specs.Pieces.{piece_at}
use Rattle.memory.specs.declared.HeldPlan.{HeldPlan}
use Rattle.memory.specs.declared.Port.{Port}
use Rattle.memory.proofs.Lists.{below_split}
use Rattle.memory.proofs.Steps.{building_ready, cells_same, same_on}
use Rattle.memory.proofs.BlockInPlan.{block_used}
use Rattle.copier.specs.Copying.{Copies, Copyable, CopyHeld, CopyMade, LikeReady, like}
use Rattle.memory.proofs.Along.{along}
use Rattle.copier.proofs.CopySoFar.{CopySoFar, Started, CopyAhead, beside, copy_end, in_below, turn, turn-link}
use Rattle.copier.proofs.Starting.{copy_first, has_free, shared_started, started}

-- what the code has made before the loop: the first free cell is a block, nothing is built in it, and the walk through the
-- contents of the block c goes from its first port up to its close
pub record Prepared (h : HeldPlan) (c : ℕ) (b₀ : HeldPlan) (stop port : ℕ) : Type 0 where
  pub apart : Apart h b₀
  pub stops : stop ≡ close c
  pub enters : port ≡ link (model b₀).numbers (start c)

pub prepared : (h : HeldPlan) (c : ℕ) (b₀ : HeldPlan) (entry end port : Port) → Apart h b₀ → end.0 ≡ close c → entry.0 ≡ start c
    → port.0 ≡ link (held_numbers b₀) entry.0 → Prepared h c b₀ end.0 port.0
prepared h c b₀ entry end port apart stops is enters = record { apart = apart; stops = stops; enters = enters ∙ rw is }

-- the cells that are asked for are lent
module _ {text : List ℕ} {h : HeldPlan} {c : ℕ} {t b : Plan ℕ} (k : Copies text h c t b) where
  copy_low : h.kept.free.0 < h.kept.outer.0
  copy_low = has_free k.held (let room = k.room in omega arith)

  block_low : c < h.kept.outer.0
  block_low =
      in_below h.kept.outer.0 c (labels t) (below_split h.kept.outer.0 (labels t) k.held.shared.spare k.held.shared.below).0 (block_used c b t k.found)

module _ {text : List ℕ} {h : HeldPlan} {c : ℕ} (k : Copyable text h c) where
  pub has_copy : h.kept.free.0 < h.kept.outer.0
  has_copy = copy_low k.copies

  pub copy_small : h.kept.free.0 ≤ cell_limit
  copy_small = omega (arith, has_copy, h.lent.few)

  pub block_small : c ≤ cell_limit
  block_small = omega (arith, block_low k.copies, h.lent.few)

  pub block_start : {p : ℕ} {b₀ : HeldPlan} → Apart h b₀ → p ≡ start c → p ≤ start b₀.kept.outer.0
  block_start a e = let n = cells_same a.same in omega (arith, block_low k.copies)

module _ {text : List ℕ} {h : HeldPlan} {c : ℕ} {b₀ : HeldPlan} {stop port : ℕ} {t b : Plan ℕ} (p : Prepared h c b₀ stop port)
    (k : Copies text h c t b) where
  pub prepared_started : Started text h.kept.outer.0 (model b₀).numbers h.kept.free.0 t
  prepared_started = let room = k.room in rw p.apart.numbers (started k.held (omega arith))

  prepared_shared : Shared h.kept.outer.0 (model b₀).numbers b₀.kept.free.0 (beside t h.kept.free.0)
  prepared_shared = let room = k.room in rw (p.apart.numbers, p.apart.free) (shared_started k.held (omega arith))

  pub prepared_copy : CopySoFar text h.kept.outer.0 (model b₀).numbers h.kept.free.0 stop t b (model b₀) port
  prepared_copy =
      let room = k.room in
      rw (p.stops, p.enters)
      (copy_first text h.kept.outer.0 c h.kept.free.0 t b (model b₀) prepared_started k.found prepared_shared p.apart.tail
      (ap (λ (z : Cell). z.0) p.apart.opened) (omega (arith, length-append (labels t) (h.kept.free.0 ∷ []), length-labels t)))

-- where the loop stands
pub record CopyLoop (text : List ℕ) (h : HeldPlan) (copy : Cell) (b₀ : HeldPlan) (stop port₀ : ℕ) (b : HeldPlan) (port : ℕ) : Type 0 where
  pub same : SameCells h b
  pub plan : Plan ℕ
  pub contents : Plan ℕ
  pub first : CopySoFar text h.kept.outer.0 (model b₀).numbers copy.0 stop plan contents (model b₀) port₀
  pub each : (t c : Plan ℕ) → CopySoFar text h.kept.outer.0 (model b₀).numbers copy.0 stop t c (model b₀) port₀
      → CopySoFar text h.kept.outer.0 (model b₀).numbers copy.0 stop t c (model b) port

module _ {text : List ℕ} {h : HeldPlan} {copy : Cell} {b₀ : HeldPlan} {stop port₀ : ℕ} {b : HeldPlan} {port : ℕ}
    (o : CopyLoop text h copy b₀ stop port₀ b port) where
  now : CopySoFar text h.kept.outer.0 (model b₀).numbers copy.0 stop o.plan o.contents (model b) port
  now = o.each o.plan o.contents o.first

  lent_same : b.kept.outer.0 ≡ h.kept.outer.0
  lent_same = cells_same o.same

  pub walk_ready : Buildable b
  walk_ready = building_ready lent_same now.placed.built

  module _ (more : port ≢ stop) where
    this : CopyAhead text h.kept.outer.0 (model b₀).numbers copy.0 stop o.plan o.contents (model b) port
    this = turn now more

    pub walk_like : LikeReady b port
    walk_like =
        let e = lent_same in
        let low = this.below in
        record {
          ready = walk_ready;
          below = omega arith;
          finds = subst (λ z. FindsCell b.kept.free.0 b.opened.0 z (piece_at (model b).numbers port)) (sym e) this.finds;
        }

    -- the next port
    module _ {b' : HeldPlan} (p : Stepped b b' (like (model b) port)) where
      next_same : SameCells h b'
      next_same = same_on o.same p.same

      pub port_low : port ≤ start b'.kept.outer.0
      port_low =
          let low = this.below in
          let e = cells_same next_same in omega arith

      module _ (next : ℕ) (e : next ≡ link (held_numbers b') port) where
        next_is : {t c : Plan ℕ} → CopyAhead text h.kept.outer.0 (model b₀).numbers copy.0 stop t c (model b) port → next ≡ link (model b₀).numbers port
        next_is u = e ∙ ap (λ s. link s.numbers port) p.steps ∙ turn-link u

        pub walk_on : CopyLoop text h copy b₀ stop port₀ b' next
        walk_on =
            record {
              same = next_same;
              plan = o.plan;
              contents = o.contents;
              first = o.first;
              each = λ t c f. let u = turn (o.each t c f) more in rw (p.steps, next_is u) u.next;
            }

        pub walk_less : length (along (model b₀).numbers stop (2 * h.kept.outer.0) next) < length (along (model b₀).numbers stop (2 * h.kept.outer.0) port)
        walk_less = rw (next_is this) this.less

pub walk_first : {text : List ℕ} {h : HeldPlan} {c : ℕ} {b₀ : HeldPlan} {stop port : ℕ} {t b : Plan ℕ} → Prepared h c b₀ stop port
    → Copies text h c t b → CopyLoop text h h.kept.free b₀ stop port b₀ port
walk_first {t = t} {b = b} p k =
    record {
      same = p.apart.same;
      plan = t;
      contents = b;
      first = prepared_copy p k;
      each = λ u d g. g;
    }

-- behind the last port, once the copy's last port is linked to its own close
pub walk_end : {text : List ℕ} {h : HeldPlan} {c : ℕ} {b₀ : HeldPlan} {stop port₀ : ℕ} {b₁ : HeldPlan} {port : ℕ} → Prepared h c b₀ stop port₀
    → CopyLoop text h h.kept.free b₀ stop port₀ b₁ port → port ≡ stop → {h' : HeldPlan} {to : ℕ}
    → Stepped b₁ h' (with_numbers (model b₁) (set (held_numbers b₁) (2 * b₁.tail.0 + 1) to)) → to ≡ close h.kept.free.0
    → (t b : Plan ℕ) → Copies text h c t b → CopyMade text h' h.kept.free.0 t b
walk_end {text} {h} {b₁ = b₁} p o ended {h'} linked is t b k =
    let n = cells_same (same_on o.same linked.same) in
    let made = copy_end (o.each t b (prepared_copy p k)) ended (prepared_started p k) in
    subst (λ k. CopyHeld text k (held_numbers h') h'.kept.free.0 h.kept.free.0 t b) (sym n)
    (subst (λ s. CopyHeld text h.kept.outer.0 s.numbers s.free h.kept.free.0 t b) (sym linked.steps) (rw is made))
