-- Where the hunt stands in a plan, on plain values. It stands at a sequence's opening, with nothing ready before it. Or it stands behind
-- the opening: then no operator of the sequence's own is ready, and none inside its blocks so far. The order's laws say what the next
-- rewrite is from there on. Here they are tied to the ports.
use Prim.Native.Nat.{ℕ, ◌%◌}
use mathlib.Core.Path.{◌≡◌, refl, ap, ◌∙◌, subst}
use mathlib.Core.Logic.{◌≢◌}
use mathlib.Core.Bool.{true, false}
use mathlib.Core.List.{List, [], ◌∷◌, ◌++◌, append_assoc}
use native.Mathlib.Omega.{arith}
use borrow.Author.Tests.{eq-eqb, ne_eqb}
use Rattle.std.specs.Prelude.{None}
use Rattle.rules.specs.Frames.{Frame, top, within, plug, Ahead, Inside}
use Rattle.plan.specs.Options.{under}
use Rattle.plan.specs.Plan.{Plan, end, operator, token, block, ◌then◌, labels}
use Rattle.rules.specs.Rewriting.{leftmost, inner, next}
use Rattle.rules.proofs.Frames.{none_ahead, inside_past, inside_enter, inside_leave, inside_end}
use Rattle.memory.specs.Memory.{start, close, datum, link, block_kind, ports, Linked, Says, Below, Holds}
use Rattle.memory.proofs.Lists.{below_split}
use Rattle.memory.specs.Numbered.{kind_of}
use Rattle.memory.specs.declared.Kind.TheVariants.{Operator as OPERATOR}
use Rattle.memory.proofs.Numbered.{kind_told}
use Rattle.hunt.specs.Hunting.{cell_of}
use Rattle.ready.specs.Ready.{is_block, block_opens}
use Rattle.hunt.proofs.Frames.{right, says_split, says_around, block_low}

-- the ports from those of the items z on, where the items z end a sequence in the frame
abbrev pub onward : (n : ℕ) → Frame ℕ → Plan ℕ → List ℕ
onward n f z = ports z ++ close (cell_of n f) ∷ right n f

-- the port is the first of the list
abbrev FirstPort : ℕ → List ℕ → Type 0
FirstPort port [] = ⊥
FirstPort port (x ∷ xs) = port ≡ x

-- at the opening of the sequence q
pub record Opening (w : List ℕ) (n : ℕ) (t : Plan ℕ) (port : ℕ) : Type 0 where
  pub frame : Frame ℕ
  pub q : Plan ℕ
  pub ahead : Ahead t frame q
  pub at : port ≡ start (cell_of n frame)
  pub chain : Linked w (start (cell_of n frame) ∷ onward n frame q)

-- the items z are to be looked into, behind the items d of their sequence
pub record Passing (w : List ℕ) (n : ℕ) (t : Plan ℕ) (port : ℕ) : Type 0 where
  pub frame : Frame ℕ
  pub d : Plan ℕ
  pub z : Plan ℕ
  pub inside : Inside t frame d z
  pub at : FirstPort port (onward n frame z)
  pub chain : Linked w (onward n frame z)

-- links

first_linked : (w : List ℕ) (x : ℕ) (xs : List ℕ) (y : ℕ) (ys : List ℕ) → Linked w (x ∷ (xs ++ y ∷ ys)) → FirstPort (link w x) (xs ++ y ∷ ys)
first_linked w x [] y ys h = h.0
first_linked w x (z ∷ xs) y ys h = h.0

linked_tail : (w : List ℕ) (x : ℕ) (xs : List ℕ) → Linked w (x ∷ xs) → Linked w xs
linked_tail w x [] h = tt
linked_tail w x (y ∷ xs) h = h.1

-- behind an opening where no operator of the sequence itself is ready
pub pass_opening : {w : List ℕ} {n : ℕ} {t : Plan ℕ} {port : ℕ} (h : Opening w n t port) → leftmost h.q ≡ None → Passing w n t (link w port)
pass_opening {w} {n} {t} {port} h e =
    let f = h.frame in
    record {
      frame = f;
      d = end;
      z = h.q;
      inside = none_ahead h.ahead e;
      at = rw h.at (first_linked w (start (cell_of n f)) (ports h.q) (close (cell_of n f)) (right n f) h.chain);
      chain = linked_tail w (start (cell_of n f)) (onward n f h.q) h.chain;
    }

-- what a port is to the hunt: the opening of a sequence; or a port that is passed over; or the end of the plan
pub data Whereabouts (w : List ℕ) (n : ℕ) (t : Plan ℕ) (port : ℕ) : Type 0 where
  at_opening : Opening w n t port → block_opens w port ≡ true → port ≢ close n → Whereabouts w n t port
  passed : Passing w n t (link w port) → block_opens w port ≡ false → port ≢ close n → Whereabouts w n t port
  at_end : next t ≡ None → port ≡ close n → Whereabouts w n t port

start-block_opens : (w : List ℕ) (c number : ℕ) → datum w (start c) ≡ number → block_opens w (start c) ≡ is_block (kind_of number)
unfolding block_opens
start-block_opens w c number h = simp (ne_eqb (start c % 2) 1 (λ e. omega arith), h)

close_shut : (w : List ℕ) (c : ℕ) → block_opens w (close c) ≡ false
unfolding block_opens
close_shut w c = simp (eq-eqb (close c % 2) 1 (omega arith))

module _ {text : List ℕ} {n : ℕ} {w : List ℕ} {free : ℕ} {t : Plan ℕ}
    (held : Holds text n w free t) (outermost : datum w (start n) ≡ block_kind) where
  frame_kind : (f : Frame ℕ) (q : Plan ℕ) → t ≡ plug f q → datum w (start (cell_of n f)) ≡ block_kind
  frame_kind top q e = outermost
  frame_kind (within b c out a) q e = (says_around text w (within b c out a) q (subst (Says text w) e held.says)).0.2

  pub stand_opening : {port : ℕ} → Opening w n t port → Whereabouts w n t port
  stand_opening {port} h =
      at_opening h (rw h.at (start-block_opens w (cell_of n h.frame) block_kind (frame_kind h.frame h.q h.ahead.there))) (λ e. let at = h.at in omega arith)

  module _ (f : Frame ℕ) (d : Plan ℕ) where
    says-ahead : {z : Plan ℕ} → Inside t f d z → Says text w z
    says-ahead {z} h = (says_split text w d z (says_around text w f (d then z) (subst (Says text w) h.there held.says)).1).1

    -- an operator or a token
    pass_atom : (c : ℕ) (i p : Plan ℕ) {port : ℕ} → inner (i then p) ≡ under (i then◌) (inner p) → ports (i then p) ≡ start c ∷ ports p
        → block_opens w (start c) ≡ false → Inside t f d (i then p) → FirstPort port (onward n f (i then p)) → Linked w (onward n f (i then p))
        → Whereabouts w n t port
    pass_atom c i p {port} within_it same shut inside at chain =
        let behind = close (cell_of n f) ∷ right n f in
        let here : port ≡ start c = subst (λ l. FirstPort port (l ++ behind)) same at in
        let on : Linked w (start c ∷ onward n f p) = subst (λ l. Linked w (l ++ behind)) same chain in
        rw here (
        passed record {
          frame = f;
          d = d then i;
          z = p;
          inside = inside_past d i p within_it inside;
          at = first_linked w (start c) (ports p) (close (cell_of n f)) (right n f) on;
          chain = linked_tail w (start c) (onward n f p) on;
        } shut (λ e. omega arith)
        )

  -- the close of a sequence
  leave : (f : Frame ℕ) (d : Plan ℕ) (port : ℕ) → Inside t f d end → FirstPort port (onward n f end) → Linked w (onward n f end) → Whereabouts w n t port
  unfolding ports right
  leave top d port inside at chain = at_end (inside_end inside) at
  leave (within b c out a) d port inside at chain =
      let below = (below_split n (labels t) held.shared.spare held.shared.below).0 in
      let low = block_low n b c out a (d then end) (subst (λ v. Below n (labels v)) inside.there below) in
      rw at (
      passed record {
        frame = out;
        d = b then block c d end;
        z = a;
        inside = inside_leave inside;
        at = first_linked w (close c) (ports a) (close (cell_of n out)) (right n out) chain;
        chain = linked_tail w (close c) (onward n out a) chain;
      } (close_shut w c) (λ e. omega arith)
      )

  -- an item: the inside of a block opens
  ahead-item : (f : Frame ℕ) (d z : Plan ℕ) (port : ℕ) → Inside t f d z → FirstPort port (onward n f z) → Linked w (onward n f z) → Whereabouts w n t port
  unfolding ports right inner ◌then◌
  ahead-item f d end port inside at chain = leave f d port inside at chain
  ahead-item f d (operator c o p) port inside at chain =
      pass_atom f d c (operator c o end) p refl refl (start-block_opens w c _ (says-ahead f d inside).0 ∙ ap is_block (kind_told (OPERATOR o))) inside at chain
  ahead-item f d (token c v p) port inside at chain =
      pass_atom f d c (token c v end) p refl refl (start-block_opens w c _ (says-ahead f d inside).0) inside at chain
  ahead-item f d (block c b p) port inside at chain =
      stand_opening record { frame = within d c f p; q = b; ahead = inside_enter inside; at = at; chain = simp append_assoc at chain }

  pub stand_passing : {port : ℕ} → Passing w n t port → Whereabouts w n t port
  stand_passing {port} h = ahead-item h.frame h.d h.z port h.inside h.at h.chain
