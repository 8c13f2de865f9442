-- The walk that prints a plan in the memory, port by port along the chain up to the end mark, on plain values. Every plan that the
-- memory holds has the ports that are ahead, so all of them have one printed text.
use Prim.Native.Nat.{ℕ, ◌+◌, ◌*◌, ◌/◌, ◌≤◌, ◌<◌}
use mathlib.Core.Path.{◌≡◌, refl, ap, sym, ◌∙◌, subst}
use mathlib.Core.Logic.{◌≢◌}
use mathlib.Core.List.{List, [], ◌∷◌, ◌++◌}
use native.Mathlib.Omega.{arith}
use lib.ListN.{length, drop, length-append, length-drop}
use lib.Seq.{drop_at, drop-drop}
use Rattle.kinds.specs.Limits.{cell_numbers}
use Rattle.plan.specs.Plan.{Plan, labels, print}
use Rattle.plan.specs.Pieces.{Piece as PlanPiece, pieces}
use Rattle.plan.proofs.Plans.{length-labels}
use Rattle.memory.specs.Held.{HeldIn}
use Rattle.pieces.specs.Written.{InText, piece_bytes, piece_length}
use Rattle.pieces.specs.declared.Piece.{Piece}
use Rattle.pieces.proofs.Pieces.{is_in_text, length-piece}
use Rattle.memory.specs.Memory.{start, close, link, whole, ports, Linked, Below, Absent}
use Rattle.memory.specs.Lent.{Lent}
use Rattle.memory.specs.Pieces.{piece_at, Shown, PrintsWithin}
use Rattle.memory.specs.declared.HeldPlan.{HeldPlan}
use Rattle.memory.proofs.Along.{along, along_leads, LeadsAlong}
use Rattle.memory.proofs.Lists.{below_split}
use Rattle.memory.proofs.Pieces.{piece-whole}
use Rattle.memory.proofs.Ports.{below_ports}
use Rattle.memory.proofs.Printing.{chain_shows, printed_ports, print-ports, length-ports}
use Rattle.memory.proofs.Whole.{first-whole}

-- these are the ports from one on up to the end mark; each is of a lent cell, and what it prints stands in the text
abbrev pub Chain : (text w : List ℕ) → (n port : ℕ) → List ℕ → Type 0
Chain text w n port [] = port ≡ close n
Chain text w n port (x ∷ ps) = (port ≡ x) × (x < start n) × InText text (piece_at w x) × Chain text w n (link w x) ps

chain_leads : (text w : List ℕ) (n port : ℕ) (ps : List ℕ) → Chain text w n port ps → LeadsAlong w (close n) port ps × Absent (close n) ps
chain_leads text w n port [] h = (h, tt)
chain_leads text w n port (x ∷ ps) h = let r = chain_leads text w n (link w x) ps h.3 in ((h.0, r.0), (omega arith, r.1))

along_chain : (text w : List ℕ) (n steps port : ℕ) (ps : List ℕ) → Chain text w n port ps → length ps ≤ steps → along w (close n) steps port ≡ ps
along_chain text w n steps port ps h l = let r = chain_leads text w n port ps h in along_leads w (close n) steps port ps r.0 r.1 l

-- the ports of a plan that the memory holds are such a chain

module _ (text w : List ℕ) (n : ℕ) where
  linked_chain : (x : ℕ) (qs : List ℕ) (ps : List (PlanPiece ℕ)) → Linked w (x ∷ (qs ++ close n ∷ [])) → Below (start n) qs → Shown text w qs ps
      → Chain text w n (link w x) qs
  linked_chain x [] ps h b f = h.0
  linked_chain x (y ∷ qs) [] h b f = absurd f
  linked_chain x (y ∷ qs) (z ∷ ps) h b f = (h.0, b.0, is_in_text f.0, linked_chain y qs ps h.1 b.1 f.1)

-- the ports ahead of a port, and what they print

abbrev pub ahead : (m : List ℕ) → (n first port : ℕ) → List ℕ
ahead m n first port = along (whole n m first) (close n) (2 * n) port

abbrev pub printed_ahead : (text m : List ℕ) → (n first port : ℕ) → List ℕ
printed_ahead text m n first port = printed_ports text (whole n m first) (ahead m n first port)

module _ (text : List ℕ) (h : HeldPlan) (t : Plan ℕ) (held : HeldIn text h t) where
  abbrev m : List ℕ
  m = h.numbers.now

  abbrev n : ℕ
  n = h.kept.outer.0

  abbrev first : ℕ
  first = h.kept.first.0

  held_chain : Chain text (whole n m first) n first (ports t)
  held_chain =
      subst (λ p. Chain text (whole n m first) n p (ports t)) (sym (first-whole n m first h.lent (start n) refl))
      (linked_chain text (whole n m first) n (start n) (ports t) (pieces t) held.chain
      (below_ports n t (below_split n (labels t) held.shared.spare held.shared.below).0) (chain_shows text (whole n m first) t held.says))

  held_few : length (ports t) ≤ 2 * n
  held_few = omega (arith, length-ports t, length-labels t, length-append (labels t) held.shared.spare, held.shared.all)

  held_ahead : ahead m n first first ≡ ports t
  held_ahead = along_chain text (whole n m first) n (2 * n) first (ports t) held_chain held_few

  pub held_prints : printed_ahead text m n first first ≡ print t
  held_prints = ap (printed_ports text (whole n m first)) held_ahead ∙ sym (print-ports text (whole n m first) t held.says)

-- where the walk stands

pub record PrintWalk (from room : ℕ) (text m : List ℕ) (n first port put : ℕ) : Type 0 where
  pub lent : Lent n m
  pub chain : Chain text (whole n m first) n port (ahead m n first port)
  pub few : length (ahead m n first port) ≤ 2 * n
  pub fits : from + length (printed_ahead text m n first first) ≤ room
  pub within : put ≤ length (printed_ahead text m n first first)
  pub so_far : printed_ahead text m n first port ≡ drop put (printed_ahead text m n first first)

pub walk_first : (from room : ℕ) (text : List ℕ) (h : HeldPlan) → PrintsWithin from room text h
    → PrintWalk from room text h.numbers.now h.kept.outer.0 h.kept.first.0 h.kept.first.0 0
walk_first from room text h p =
    let e = held_ahead text h p.plan p.held in
    record {
      lent = h.lent;
      chain = rw e (held_chain text h p.plan p.held);
      few = rw e (held_few text h p.plan p.held);
      fits = rw (held_prints text h p.plan p.held) p.fits;
      within = omega arith;
      so_far = refl;
    }

-- the first port ahead, and the ports behind it
record ChainAhead (text m : List ℕ) (n first port : ℕ) : Type 0 where
  below : port < start n
  in_text : InText text (piece_at (whole n m first) port)
  on : ahead m n first port ≡ port ∷ ahead m n first (link (whole n m first) port)
  chain : Chain text (whole n m first) n (link (whole n m first) port) (ahead m n first (link (whole n m first) port))

turn : (text m : List ℕ) (n first port : ℕ) (ps : List ℕ) → ahead m n first port ≡ ps → length ps ≤ 2 * n
    → Chain text (whole n m first) n port ps → port ≢ close n → ChainAhead text m n first port
turn text m n first port [] e l h more = absurd (more h)
turn text m n first port (x ∷ ps) e l h more =
    let next = along_chain text (whole n m first) n (2 * n) (link (whole n m first) x) ps h.3 (omega arith) in
    subst (ChainAhead text m n first) (sym h.0) record {
      below = h.1;
      in_text = h.2;
      on = ap (ahead m n first) (sym h.0) ∙ e ∙ ap (x ∷◌) (sym next);
      chain = rw next h.3;
    }

module _ (from room : ℕ) (text m : List ℕ) (n first port put : ℕ) (walk : PrintWalk from room text m n first port put) where
  abbrev w : List ℕ
  w = whole n m first

  abbrev printed : List ℕ
  printed = printed_ahead text m n first first

  abbrev rest : List ℕ
  rest = printed_ahead text m n first (link w port)

  -- at the end mark nothing is ahead, so all is put
  pub ended : port ≡ close n → put ≡ length printed
  unfolding printed_ports
  ended e =
      let none : ahead m n first port ≡ [] = along_chain text w n (2 * n) port [] e (omega arith) in
      omega (arith, walk.within, length-drop put printed, ap length (sym walk.so_far ∙ ap (printed_ports text w) none))

  -- a turn: the code stops at `stop`, which is the end mark
  module _ (stop : ℕ) (mark : stop ≡ close n) (more : port ≢ stop) where
    here : ChainAhead text m n first port
    here = turn text m n first port (ahead m n first port) refl walk.few walk.chain (λ e. more (e ∙ sym mark))

    -- the port is one of a lent cell
    pub walk_lent : cell_numbers * (port / 2) + cell_numbers ≤ length m
    walk_lent = omega (arith, here.below, walk.lent.room)

    pub walk_below : port ≤ start n
    walk_below = omega (arith, here.below)

    -- one port fewer is ahead
    pub walk_less : (next : ℕ) → next ≡ link w port → length (ahead m n first next) < length (ahead m n first port)
    walk_less next e = rw e (omega (arith, ap length here.on))

    -- the piece that the port prints
    module _ (piece : Piece) (is : piece ≡ piece_at m port) where
      same : piece ≡ piece_at w port
      same = is ∙ piece-whole n m first port walk.lent here.below

      pub walk_in_text : InText text piece
      walk_in_text = rw same here.in_text

      pub size : length (piece_bytes text piece) ≡ piece_length piece
      size = length-piece text piece walk_in_text

      -- what is still to come begins with the piece
      pub to_come : drop put printed ≡ piece_bytes text piece ++ rest
      unfolding printed_ports
      to_come =
          sym walk.so_far ∙ ap (printed_ports text w) here.on
          ∙ ap (◌++ rest) (ap (piece_bytes text) (sym same))

      put_within : put + piece_length piece ≤ length printed
      put_within =
          omega (arith, walk.within, size, length-drop put printed, length-append (piece_bytes text piece) rest, ap length to_come)

      pub walk_fits : from + put + piece_length piece ≤ room
      walk_fits = omega (arith, put_within, walk.fits)

      pub walk_on : (len : ℕ) → len ≡ piece_length piece → (next : ℕ) → next ≡ link w port → PrintWalk from room text m n first next (put + len)
      walk_on len el next e = rw (e, el) record {
        lent = walk.lent;
        chain = here.chain;
        few = omega (arith, walk.few, ap length here.on);
        fits = walk.fits;
        within = put_within;
        so_far =
            sym (sym (drop-drop (piece_length piece) put printed) ∙ ap (drop (piece_length piece)) to_come
            ∙ drop_at (piece_bytes text piece) rest (piece_length piece) size);
      }

-- at the end mark the walk has put the whole printed text, of every plan that the memory holds
pub walk_end : (from room : ℕ) (text : List ℕ) (h : HeldPlan) (port put : ℕ) → PrintWalk from room text h.numbers.now h.kept.outer.0 h.kept.first.0 port put
    → (stop : ℕ) → stop ≡ close h.kept.outer.0 → port ≡ stop → (t : Plan ℕ) → HeldIn text h t → put ≡ length (print t)
walk_end from room text h port put walk stop mark e t held =
    ended from room text h.numbers.now h.kept.outer.0 h.kept.first.0 port put walk (e ∙ mark) ∙ ap length (held_prints text h t held)
