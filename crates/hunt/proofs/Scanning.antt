-- The walk of `scan` over the items of a sequence. The ports ahead are those of the items that are not yet passed. The walk passes a block
-- by its close, so it jumps over the ports of its inside.
use Prim.Native.Nat.{ℕ, ◌*◌, ◌/◌, ◌≤◌, ◌<◌}
use mathlib.Core.Path.{◌≡◌, refl, ap, sym, ◌∙◌, subst, subst₂}
use mathlib.Core.Logic.{◌≢◌}
use mathlib.Core.List.{List, [], ◌∷◌}
use native.Mathlib.Omega.{arith}
use lib.ListN.{length, length-append}
use Rattle.kinds.specs.Limits.{cell_limit}
use Rattle.plan.specs.Plan.{Plan, end, operator, token, block}
use Rattle.plan.specs.declared.Operator.{Operator}
use Rattle.rules.proofs.Windows.{Window, no_block, begin, none_ready, front_token, past_token, window_block}
use Rattle.memory.specs.Held.{held_numbers}
use Rattle.memory.specs.Memory.{start, close, datum, link, whole, ports, Says}
use Rattle.memory.specs.Lent.{Lent}
use Rattle.std.specs.Prelude.{Option, None, Some}
use Rattle.memory.specs.Numbered.{kind_of}
use Rattle.memory.specs.declared.HeldPlan.{HeldPlan}
use Rattle.memory.specs.declared.Kind.{Kind}
use Rattle.memory.specs.declared.Kind.TheVariants.{Operator as OPERATOR, Token as TOKEN, Block as BLOCK}
use Rattle.memory.proofs.Whole.{number-whole}
use Rattle.memory.proofs.Numbered.{kind_told}
use Rattle.blocks.proofs.Ways.{ahead, way_ahead, Way}
use Rattle.hunt.specs.Hunting.{SequenceAt, Scannable, Scanned}
use Rattle.ready.specs.Ready.{end_port, ready_at}
use Rattle.ready.specs.declared.Spot.{Spot}
use Rattle.hunt.proofs.WaysThrough.{way_sequence, way_skip}
use Rattle.hunt.proofs.OnePlan.{one_inside}
use Rattle.hunt.proofs.Window.{Seen, Tested, seen_token, seen_block, tested_operator}

-- y are the items from the port `at` on
pub record Scanning (text m : List ℕ) (n first stop last second third at : ℕ) : Type 0 where
  pub lent : Lent n m
  pub cell : ℕ
  pub ends : stop ≡ close cell
  pub sequence : Plan ℕ
  pub there : SequenceAt text n (whole n m first) cell sequence
  pub y : Plan ℕ
  pub way : Way (whole n m first) n stop at (ports y)
  pub says : Says text (whole n m first) y
  pub window : Window sequence y
  pub seen : Seen cell window last second third

module _ {text : List ℕ} {h : HeldPlan} {s : ℕ} (can : Scannable text h s) where
  pub scan_small : s ≤ cell_limit
  scan_small = omega (arith, can.there.low, h.lent.few)

  pub scan_start : (last : ℕ) → last ≡ start s → last ≤ start h.kept.outer.0
  scan_start last e = omega (arith, can.there.low)

  pub scan_first : (stop last at : ℕ) → stop ≡ close s → last ≡ start s → at ≡ link (held_numbers h) last
      → Scanning text h.numbers.now h.kept.outer.0 h.kept.first.0 stop last last last at
  unfolding begin ports
  scan_first stop last at e l a =
      rw (e, a, l) record {
        lent = h.lent;
        cell = s;
        ends = refl;
        sequence = can.sequence;
        there = can.there;
        y = can.sequence;
        way = way_sequence can.there;
        says = can.there.says;
        window = no_block (begin can.sequence);
        seen = (refl, omega arith);
      }

-- what the test of an item gives: the walk goes on behind it; or the sequence's leftmost ready operator is there
abbrev pub AfterTest : (text m : List ℕ) → (n first stop last second at : ℕ) → Kind → Option Spot → Type 0
AfterTest text m n first stop last second at kind None =
    (last' at' : ℕ) → last' ≡ end_port kind at → at' ≡ link (whole n m first) last'
    → Scanning text m n first stop last' last second at'
    × (length (ahead (whole n m first) n stop at') < length (ahead (whole n m first) n stop at))
AfterTest text m n first stop last second at kind (Some spot) =
    (s : ℕ) × (q : Plan ℕ) × (stop ≡ close s) × SequenceAt text n (whole n m first) s q × Scanned (Some spot) s q

-- what is found in the one sequence inside the cell is found in every one
of_each : {text : List ℕ} {n : ℕ} {w : List ℕ} (r : Option Spot) (s : ℕ) (q : Plan ℕ) (stop s' : ℕ) → stop ≡ close s → SequenceAt text n w s q
    → Scanned r s q → stop ≡ close s' → (q' : Plan ℕ) → SequenceAt text n w s' q' → Scanned r s' q'
of_each {text} {n} {w} r s q stop s' e there found e' q' there' =
    let cell : s ≡ s' = omega arith in
    let same : q ≡ q' = one_inside (subst (λ z. SequenceAt text n w z q) cell there) there' in
    subst₂ (Scanned r) cell same found

module _ {text m : List ℕ} {n first stop last second third at : ℕ} (h : Scanning text m n first stop last second third at) (more : at ≢ stop) where
  abbrev w : List ℕ
  w = whole n m first

  low_item : (y : Plan ℕ) → Way w n stop at (ports y) → at < start n
  unfolding ports
  low_item end k = absurd (more k.leads)
  low_item (operator c o p) k = let e = k.leads.0 in let b = k.below.0 in omega arith
  low_item (token c t p) k = let e = k.leads.0 in let b = k.below.0 in omega arith
  low_item (block c b p) k = let e = k.leads.0 in let b = k.below.0 in omega arith

  pub scan_low : at < start n
  scan_low = low_item h.y h.way

  pub scan_here : 2 * at < length m
  scan_here = omega (arith, scan_low, h.lent.room)

  pub scan_cell : at / 2 ≤ cell_limit
  scan_cell = omega (arith, scan_low, h.lent.few)

  next_low : (kind : Kind) → end_port kind at ≤ start n
  next_low (OPERATOR o) = omega (arith, scan_low)
  next_low TOKEN = omega (arith, scan_low)
  next_low BLOCK = omega (arith, scan_low)

  pub scan_next : (kind : Kind) (last' : ℕ) → last' ≡ end_port kind at → last' ≤ start n
  scan_next kind last' e = rw e (next_low kind)

  -- behind an item that ends at the port, with the items p left
  onward : (y p : Plan ℕ) (port : ℕ) → Way w n stop at (ports y) → Way w n stop (link w port) (ports p) → length (ports p) < length (ports y)
      → Says text w p → (v : Window h.sequence p) → Seen h.cell v port last second → (last' at' : ℕ) → last' ≡ port → at' ≡ link w last'
      → Scanning text m n first stop last' last second at' × (length (ahead w n stop at') < length (ahead w n stop at))
  onward y p port way way' less says window seen last' at' e a =
      rw (a, e) (
        record {
          lent = h.lent;
          cell = h.cell;
          ends = h.ends;
          sequence = h.sequence;
          there = h.there;
          y = p;
          way = way';
          says = says;
          window = window;
          seen = seen;
        },
        rw (way_ahead way, way_ahead way') less,
      )

  -- behind an operator or a token
  pass_atom : (c : ℕ) (y p : Plan ℕ) → ports y ≡ start c ∷ ports p → Way w n stop at (ports y) → Says text w p → (v : Window h.sequence p)
      → Seen h.cell v (start c) last second → (last' at' : ℕ) → last' ≡ at → at' ≡ link w last'
      → Scanning text m n first stop last' last second at' × (length (ahead w n stop at') < length (ahead w n stop at))
  pass_atom c y p e way says window seen last' at' l a =
      let from : Way w n stop at (start c ∷ ports p) = subst (Way w n stop at) e way in
      onward y p (start c) way (way_skip [] (start c) (ports p) from) (omega (arith, ap length e)) says window seen last' at' (l ∙ from.leads.0) a

  abbrev Then : Kind → Option Spot → Type 0
  Then kind r = AfterTest text m n first stop last second at kind r

  tested : (c : ℕ) (o : Operator) (p : Plan ℕ) (r : Option Spot) → Way w n stop at (ports (operator c o p)) → Says text w p
      → Tested r h.cell h.sequence (start c) last second p → Then (OPERATOR o) r
  unfolding ports
  tested c o p None way says (window, seen) = pass_atom c (operator c o p) p refl way says window seen
  tested c o p (Some spot) way says found = (h.cell, h.sequence, h.ends, h.there, found)

  module _ (kind : Kind) (reads : kind ≡ kind_of (datum m at)) where
    told : (c number : ℕ) → at ≡ start c → datum w (start c) ≡ number → kind ≡ kind_of number
    told c number here says =
        reads ∙ ap kind_of (number-whole n m first h.lent (2 * at) (omega (arith, scan_low)) ∙ ap (datum w) here ∙ says)

    item : (y : Plan ℕ) → Way w n stop at (ports y) → Says text w y → (v : Window h.sequence y) → Seen h.cell v last second third
        → Then kind (ready_at kind at last second third)
    unfolding ports
    item end way says window seen = absurd (more way.leads)
    item (operator c o p) way says window seen =
        let here = way.leads.0 in
        rw (told c _ here says.0 ∙ kind_told (OPERATOR o))
        (tested c o p (ready_at (OPERATOR o) at last second third) way says.1
        (rw here (tested_operator h.cell h.sequence last second third c p o window seen)))
    item (token c t p) way says window seen =
        rw (told c _ way.leads.0 says.0)
        (pass_atom c (token c t p) p refl way says.2 (no_block (past_token (front_token window))) (seen_token h.cell (front_token window) last second))
    item (block c b p) way says window seen =
        let here = way.leads.0 in
        rw (told c _ here says.0)
        (λ last' at' e a. onward (block c b p) p (close c) way (way_skip (start c ∷ ports b) (close c) (ports p) way)
        (omega (arith, length-append (ports b) (close c ∷ ports p))) says.2 (window_block window) (seen_block h.cell last second third window seen)
        last' at' (omega arith) a)

    scan_item : Then kind (ready_at kind at last second third)
    scan_item = item h.y h.way h.says h.window h.seen

    module _ (r : Option Spot) (answers : r ≡ ready_at kind at last second third) where
      pub scan_past : r ≡ None → Then kind None
      scan_past e = subst (Then kind) (sym answers ∙ e) scan_item

      pub scan_found : (spot : Spot) → r ≡ Some spot → (s : ℕ) → stop ≡ close s → (q : Plan ℕ) → SequenceAt text n w s q → Scanned (Some spot) s q
      scan_found spot e s c q there =
          let o = subst (Then kind) (sym answers ∙ e) scan_item in
          of_each (Some spot) o.0 o.1 stop s o.2 o.3 o.4 c q there

-- at the stop no item is left, so none was ready
none_left : {w : List ℕ} {n stop at : ℕ} (y : Plan ℕ) → Way w n stop at (ports y) → at ≡ stop → y ≡ end
unfolding ports
none_left end way e = refl
none_left (operator c o p) way e = absurd (way.once.0.0 (sym e ∙ way.leads.0))
none_left (token c t p) way e = absurd (way.once.0.0 (sym e ∙ way.leads.0))
none_left (block c b p) way e = absurd (way.once.0.0 (sym e ∙ way.leads.0))

pub scan_none : {text m : List ℕ} {n first stop last second third at : ℕ} → Scanning text m n first stop last second third at → at ≡ stop
    → (s : ℕ) → stop ≡ close s → (q : Plan ℕ) → SequenceAt text n (whole n m first) s q → Scanned None s q
scan_none {stop} h e s c q there =
    let left = subst (Window h.sequence) (none_left h.y h.way e) h.window in
    of_each None h.cell h.sequence stop s h.ends h.there (none_ready left) c q there
