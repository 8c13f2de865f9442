-- The four rules, once the operator is out of the plan: each is one or two of the moves.
use Prim.Native.Nat.{ℕ}
use mathlib.Core.Path.{◌≡◌, refl, ap, sym, ◌∙◌, subst}
use mathlib.Core.Logic.{inl}
use mathlib.Core.List.{List, ◌∷◌, ◌++◌}
use Rattle.rules.specs.Frames.{Frame, within, plug}
use Rattle.plan.specs.Plan.{Plan, end, operator, block, ◌then◌, bare, labels, relabel}
use Rattle.plan.specs.declared.Operator.{Operator}
use Rattle.rules.proofs.Frames.{bare-plug}
use Rattle.plan.proofs.Plans.{relabel-then, then_assoc, then_end}
use Rattle.memory.specs.Held.{BlockIn}
use Rattle.memory.specs.Memory.{start, close, ports, Holds, last_of}
use Rattle.memory.proofs.Lists.{below_split, distinct_split}
use Rattle.blocks.specs.Blocks.{Alone, first_free, freed}
use Rattle.blocks.proofs.Freed.{freed-holds}
use Rattle.copier.specs.Copying.{CopyHeld}
use Rattle.hunt.proofs.Window.{ends_in_block}
use Rattle.rewrites.specs.Rules.{at_end}
use Rattle.splices.specs.Splices.{cut, moved, put_in, released, unwrapped}
use Rattle.rewrites.proofs.Gaps.{gap_block}
use Rattle.rewrites.proofs.Moving.{HoldsBeside, open_up, put_back, remove, take_out}

-- a block and what is behind it, told apart
pub block_then : (Y : Plan ℕ) (m : ℕ) (A q : Plan ℕ) → (Y then block m A end) then q ≡ Y then block m A q
unfolding ◌then◌
block_then Y m A q = then_assoc Y (block m A end) q

module _ (n : ℕ) (f : Frame ℕ) (X : Plan ℕ) where
  abbrev at : ℕ
  at = at_end n f X

  -- the operator behind a block
  pub operator_out : {text w : List ℕ} {free : ℕ} (m : ℕ) (A : Plan ℕ) (k : ℕ) (o : Operator) (p : Plan ℕ) → Holds text n w free (plug f (X then block m A (operator k o p)))
      → Holds text n (released (cut w (close m) (start k)) free k) k (plug f (X then block m A p))
  operator_out {text} {w} {free} m A k o p h =
      let moved_out =
      remove n f (X then block m A end) p k o (subst (λ q. Holds text n w free (plug f q)) (sym (block_then X m A (operator k o p))) h) in
      subst (λ x. Holds text n (released (cut w x (start k)) free k) k (plug f (X then block m A p))) (ends_in_block _ X m A)
      (subst (λ q. Holds text n (released (cut w (at_end n f (X then block m A end)) (start k)) free k) k (plug f q)) (block_then X m A p) moved_out)

  module _ {text w : List ℕ} {free : ℕ} (l : ℕ) (B : Plan ℕ) (m : ℕ) (A p : Plan ℕ) (h : Holds text n w free (plug f (X then block l B (block m A p)))) where
    pub enclosed : Holds text n (moved w at l (start m)) free (plug f (X then block m (block l B A) p))
    unfolding moved plug ◌then◌ ports
    enclosed = put_back n (within X m f p) end A l B (take_out n f X (block m A p) l B h)

    joined : Holds text n (moved w at l (last_of (start m) (ports A))) free (plug f (X then block m (A then block l B end) p))
    unfolding moved plug
    joined =
        put_back n (within X m f p) A end l B
        (subst (λ q. HoldsBeside text n (cut w at (close l)) free (plug f (X then block m q p)) l B) (sym (then_end A)) (take_out n f X (block m A p) l B h))

    pub applied : Holds text n (unwrapped (moved w at l (last_of (start m) (ports A))) free at m (close l)) m (plug f (X then (A then block l B p)))
    applied =
        let v = moved w at l (last_of (start m) (ports A)) in
        let opened = open_up n f X p m (A then block l B end) joined in
        subst (λ q. Holds text n (unwrapped v free at m (close l)) m (plug f (X then q))) (block_then A l B p)
        (subst (λ x. Holds text n (unwrapped v free at m x) m (plug f (X then ((A then block l B end) then p)))) (ends_in_block (start m) A l B) opened)

  module _ (m : ℕ) (A p : Plan ℕ) where
    pub dropped : {text w : List ℕ} {free : ℕ} → Holds text n w free (plug f (X then block m A p))
        → Holds text n (freed (cut w at (close m)) free (m ∷ labels A)) (first_free free (m ∷ labels A)) (plug f (X then p))
    dropped h =
        let out = take_out n f X p m A h in
        freed-holds (m ∷ labels A) out.chain out.said.says out.said.shared

    pub out_alone : {text w : List ℕ} {free : ℕ} → Holds text n w free (plug f (X then block m A p)) → Alone n (cut w at (close m)) m A
    out_alone h =
        let out = take_out n f X p m A h in
        let s = out.said.shared in
        let t = labels (plug f (X then p)) in
        record {
          chain = out.run;
          distinct = (distinct_split t (m ∷ labels A) (distinct_split (t ++ m ∷ labels A) s.spare s.distinct).0).1;
          below = (below_split n t (m ∷ labels A) (below_split n (t ++ m ∷ labels A) s.spare s.below).0).1;
        }

    pub there : BlockIn m A (plug f (X then block m A p))
    there = gap_block m A f X (block m A p) (inl (refl, refl))

    -- a copy of the block behind it
    pub record Doubled (text w : List ℕ) (free : ℕ) : Type 0 where
      pub plan : Plan ℕ
      pub alike : bare plan ≡ bare (plug f (X then block m A (block m A p)))
      pub held : Holds text n w free plan

    pub doubled : {text w : List ℕ} {free copy : ℕ} → CopyHeld text n w free copy (plug f (X then block m A p)) A
        → Doubled text (put_in w (close m) (start copy) (close copy)) free
    unfolding relabel
    doubled {text} {w} {free} {copy} h =
        let same = block_then X m A p in
        let beside : HoldsBeside text n w free (plug f ((X then block m A end) then p)) copy h.contents =
        subst (λ q. HoldsBeside text n w free (plug f q) copy h.contents) (sym same)
        record { chain = h.chain; said = record { says = h.says; shared = h.shared }; run = h.copy_chain; says = (h.kind, h.copy_says, tt) } in
        let q = (X then block m A end) then block copy h.contents p in
        record {
          plan = plug f q;
          alike =
              bare-plug f q (X then block m A (block m A p))
              (ap bare (block_then X m A (block copy h.contents p))
              ∙ relabel-then _ X (block m A (block copy h.contents p)) ∙ rw h.alike (sym (relabel-then _ X (block m A (block m A p)))));
          held =
              subst (λ x. Holds text n (put_in w x (start copy) (close copy)) free (plug f q)) (ends_in_block _ X m A)
              (put_back n f (X then block m A end) p copy h.contents beside);
        }
