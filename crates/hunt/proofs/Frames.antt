-- Laws of what stands around a sequence in the memory. The ports of a plan are those before the sequence, its own and those behind it. The
-- same holds of its items. Another sequence put there keeps what is around it, so each law holds of both sequences. The last port before
-- the sequence is the start of its cell, and the first port behind it is that cell's close. The laws name these two ports by themselves.
use Prim.Native.Nat.{ℕ, ◌≤◌, ◌<◌}
use mathlib.Core.Path.{◌≡◌, refl, ◌∙◌, subst}
use mathlib.Core.List.{List, [], ◌∷◌, ◌++◌, append_assoc}
use native.Mathlib.Omega.{arith}
use Rattle.rules.specs.Frames.{Frame, top, within, plug}
use Rattle.plan.specs.Plan.{Plan, end, operator, token, block, ◌then◌, labels}
use Rattle.rules.proofs.Frames.{lefts, rights, labels-plug}
use Rattle.memory.specs.Memory.{start, close, datum, block_kind, ports, Linked, Says, Below, Distinct, Holds}
use Rattle.memory.proofs.Lists.{below_split, below_absent, distinct_split, linked_split}
use Rattle.memory.proofs.Ports.{ports-then, says_then}
use Rattle.hunt.specs.Hunting.{SequenceAt, cell_of}

-- the ports before the start of the sequence's cell, and those behind its close
unfoldable pub left : (n : ℕ) → Frame ℕ → List ℕ
left n top = []
left n (within b c out a) = left n out ++ start (cell_of n out) ∷ ports b

unfoldable pub right : (n : ℕ) → Frame ℕ → List ℕ
right n top = []
right n (within b c out a) = ports a ++ close (cell_of n out) ∷ right n out

pub chain_plug : (n : ℕ) (f : Frame ℕ) (q : Plan ℕ)
    → start n ∷ (ports (plug f q) ++ close n ∷ []) ≡ left n f ++ start (cell_of n f) ∷ (ports q ++ close (cell_of n f) ∷ right n f)
unfolding plug left right ports
chain_plug n top q = refl
chain_plug n (within b c out a) q = chain_plug n out (b then block c q a) ∙ rw (ports-then b (block c q a)) (simp append_assoc)

-- each cell around the sequence says its item
abbrev pub SaysAround : (text w : List ℕ) → Frame ℕ → Type 0
SaysAround text w top = Unit {0}
SaysAround text w (within b c out a) = SaysAround text w out × Says text w b × (datum w (start c) ≡ block_kind) × Says text w a

pub says_split : (text w : List ℕ) (p q : Plan ℕ) → Says text w (p then q) → Says text w p × Says text w q
unfolding ◌then◌
says_split text w end q h = (tt, h)
says_split text w (operator c o p) q h = let r = says_split text w p q h.1 in ((h.0, r.0), r.1)
says_split text w (token c t p) q h = let r = says_split text w p q h.2 in ((h.0, h.1, r.0), r.1)
says_split text w (block c b p) q h = let r = says_split text w p q h.2 in ((h.0, h.1, r.0), r.1)

pub says-plug : (text w : List ℕ) (f : Frame ℕ) (q : Plan ℕ) → SaysAround text w f → Says text w q → Says text w (plug f q)
unfolding plug
says-plug text w top q h k = k
says-plug text w (within b c out a) q h k =
    says-plug text w out (b then block c q a) h.0 (says_then text w b (block c q a) h.1 (h.2, k, h.3))

pub says_around : (text w : List ℕ) (f : Frame ℕ) (q : Plan ℕ) → Says text w (plug f q) → SaysAround text w f × Says text w q
unfolding plug
says_around text w top q h = (tt, h)
says_around text w (within b c out a) q h =
    let r = says_around text w out (b then block c q a) h in
    let s = says_split text w b (block c q a) r.1 in
    ((r.0, s.0, s.1.0, s.1.2), s.1.1)

-- a sequence of a plan that is held

-- a block's cell is a lent one
pub block_low : (n : ℕ) (b : Plan ℕ) (c : ℕ) (out : Frame ℕ) (a q : Plan ℕ) → Below n (labels (plug (within b c out a) q)) → c < n
unfolding lefts
block_low n b c out a q h =
    let f = within b c out a in
    let before = (below_split n (lefts f) (labels q ++ rights f) (subst (Below n) (labels-plug f q) h)).0 in
    (below_split n (labels b) (c ∷ []) (below_split n (lefts out) (labels b ++ c ∷ []) before).1).1.0

pub cell_low : (n : ℕ) (f : Frame ℕ) (q : Plan ℕ) → Below n (labels (plug f q)) → cell_of n f ≤ n
cell_low n top q h = omega arith
cell_low n (within b c out a) q h = omega (arith, block_low n b c out a q h)

cell_distinct : (n : ℕ) (f : Frame ℕ) (q : Plan ℕ) → Below n (labels (plug f q)) → Distinct (labels (plug f q)) → Distinct (cell_of n f ∷ labels q)
unfolding plug lefts
cell_distinct n top q h d = (below_absent n n (labels q) (omega arith) h, d)
cell_distinct n (within b c out a) q h d =
    let f = within b c out a in
    let parts : labels (plug f q) ≡ (lefts out ++ labels b) ++ c ∷ (labels q ++ rights f) = labels-plug f q ∙ simp append_assoc in
    (distinct_split (c ∷ labels q) (rights f) (distinct_split (lefts out ++ labels b) (c ∷ (labels q ++ rights f)) (subst Distinct parts d)).1).0

pub inside_plug : {text : List ℕ} {n : ℕ} {w : List ℕ} {free : ℕ} (f : Frame ℕ) (q : Plan ℕ) → Holds text n w free (plug f q)
    → SequenceAt text n w (cell_of n f) q
inside_plug {text} {n} {w} f q h =
    let s = cell_of n f in
    let spare = h.shared.spare in
    let below = (below_split n (labels (plug f q)) spare h.shared.below).0 in
    let onward = (linked_split w (left n f) (start s) (ports q ++ close s ∷ right n f) (subst (Linked w) (chain_plug n f q) h.chain)).1 in
    record {
      chain = (linked_split w (start s ∷ ports q) (close s) (right n f) onward).0;
      says = (says_around text w f q h.says).1;
      distinct = cell_distinct n f q below (distinct_split (labels (plug f q)) spare h.shared.distinct).0;
      below = (below_split n (labels q) (rights f) (below_split n (lefts f) (labels q ++ rights f) (subst (Below n) (labels-plug f q) below)).1).0;
      low = cell_low n f q below;
    }
