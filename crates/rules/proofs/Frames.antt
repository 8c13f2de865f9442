-- Laws of what stands around a sequence. The labels of a plan are those before the sequence, its own and those behind it. The
-- same holds of its cells. Then the order's own definition, taken apart along a plan: at a sequence's opening, past each of its
-- items, into a block and out of it again.
use Prim.Native.Nat.{◌+◌}
use mathlib.Core.Path.{◌≡◌, refl, ap, sym, ◌∙◌}
use mathlib.Core.List.{List, [], ◌∷◌, ◌++◌, append_assoc, append-nil}
use Rattle.std.specs.Prelude.{Option, None, Some}
use native.Mathlib.Omega.{arith}
use Rattle.rules.specs.Frames.{Frame, top, within, plug, beyond, Ahead, Inside}
use Rattle.plan.specs.Options.{◌else◌, under}
use Rattle.plan.specs.Plan.{Plan, end, block, ◌then◌, cells, labels, relabel, bare}
use Rattle.rules.specs.Rewriting.{leftmost, inner, next}
use Rattle.plan.proofs.Options.{under_rest, under-under}
use Rattle.plan.proofs.Plans.{cells-then, labels-then, relabel-then, then_assoc, then_end}
use Rattle.rules.proofs.Rewrites.{inner-after, leftmost-first}

module _ {L : Type 0} where
  -- the labels before those of the sequence, its own block's among them, and those behind
  unfoldable pub lefts : Frame L → List L
  lefts top = []
  lefts (within b l out a) = lefts out ++ (labels b ++ l ∷ [])

  unfoldable pub rights : Frame L → List L
  rights top = []
  rights (within b l out a) = labels a ++ rights out

  pub labels-plug : (f : Frame L) (q : Plan L) → labels (plug f q) ≡ lefts f ++ (labels q ++ rights f)
  unfolding plug lefts rights labels
  labels-plug top q = simp append-nil
  labels-plug (within b l out a) q = labels-plug out (b then block l q a) ∙ rw (labels-then b (block l q a)) (simp append_assoc)

  pub bare-plug : (f : Frame L) (q q' : Plan L) → bare q ≡ bare q' → bare (plug f q) ≡ bare (plug f q')
  unfolding plug relabel
  bare-plug top q q' e = e
  bare-plug (within b l out a) q q' e =
      bare-plug out (b then block l q a) (b then block l q' a)
      (relabel-then _ b (block l q a) ∙ rw e (sym (relabel-then _ b (block l q' a))))

  -- another sequence there makes the plan as much larger or smaller as the sequence is
  pub cells-plug : (f : Frame L) (q q' : Plan L) → cells (plug f q) + cells q' ≡ cells (plug f q') + cells q
  unfolding plug cells
  cells-plug top q q' = omega arith
  cells-plug (within b l out a) q q' =
      omega (
        arith,
        cells-plug out (b then block l q a) (b then block l q' a),
        cells-then b (block l q a),
        cells-then b (block l q' a),
      )

  -- before the outermost sequence there is nothing
  pub ahead_top : (t : Plan L) → Ahead t top t
  unfolding plug beyond under ◌else◌
  ahead_top t = record { there = refl; first = go (next t) }
    where
      go : (x : Option (Plan L)) → x ≡ under (plug top) x else beyond top t
      go None = refl
      go (Some p) = refl

  module _ {t : Plan L} {f : Frame L} where
    pub found_ahead : {q q' : Plan L} → Ahead t f q → leftmost q ≡ Some q' → next t ≡ Some (plug f q')
    unfolding under ◌else◌
    found_ahead {q} h e = h.first ∙ ap (λ x. under (plug f) x else beyond f q) (leftmost-first q e)

    pub none_ahead : {q : Plan L} → Ahead t f q → leftmost q ≡ None → Inside t f end q
    unfolding ◌then◌
    none_ahead {q} h e =
        record { there = h.there; first = h.first ∙ ap (λ x. under (plug f) x else beyond f q) (inner-after q e) }

    -- past an item i that has no inside
    pub inside_past : (d i p : Plan L) → inner (i then p) ≡ under (i then◌) (inner p) → Inside t f d (i then p) → Inside t f (d then i) p
    inside_past d i p e h =
        record { there = h.there ∙ ap (plug f) (sym (then_assoc d i p)); first = (rw e at h.first) ∙ simp (under-under, then_assoc) }

    pub inside_enter : {d : Plan L} {l : L} {b p : Plan L} → Inside t f d (block l b p) → Ahead t (within d l f p) b
    unfolding plug beyond inner next
    inside_enter h = record { there = h.there; first = h.first ∙ simp (under_rest, under-under) }

    pub inside_leave : {b : Plan L} {l : L} {a d : Plan L} → Inside t (within b l f a) d end → Inside t f (b then block l d end) a
    unfolding plug beyond inner under ◌else◌ ◌then◌
    inside_leave h = record { there = h.there ∙ simp (then_assoc, then_end); first = h.first ∙ simp (then_assoc, then_end) }

  pub inside_end : {t d : Plan L} → Inside t top d end → next t ≡ None
  unfolding beyond inner under ◌else◌
  inside_end h = h.first
