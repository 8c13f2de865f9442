-- What the reader's outer loop knows at each place: the bytes passed hold no fault, and the counts are those of these bytes. Then each turn
-- of the loop, on plain values. So what the loop answers at the end of the text, or at a fault, is what reading says.
use Prim.Native.Nat.{ℕ, suc, ◌+◌, ◌-◌, ◌≤◌, ◌<◌}
use mathlib.Core.Path.{◌≡◌, refl, ap, sym, ◌∙◌, subst}
use mathlib.Core.Bool.{Bool, true, false, cond}
use mathlib.Core.Logic.{◌≢◌}
use mathlib.Core.List.{List, [], ◌∷◌, ◌++◌, append-nil}
use native.Mathlib.Omega.{arith}
use native.Mathlib.Nat.{add-zero}
use native.Mathlib.Numerals.{add-one}
use lib.Dec.{eqb, ltb}
use lib.ListN.{length, get_or, take, drop, length-append, get_or-eq_default}
use lib.Seq.{take_all, split_at, length-take-le}
use borrow.Author.Tests.{eqb-true, eqb-false, ltb-true, ltb-false}
use Rattle.kinds.specs.Limits.{text_limit, token_limit}
use Rattle.kinds.specs.declared.Place.{Place}
use Rattle.std.specs.Prelude.{Result, Ok, Err}
use Rattle.plan.specs.Plan.{Plan, cells, labels, print}
use Rattle.plan.specs.Reading.{Mark, PLAN, blank, OUTSIDE, class, place, place_of_item, read_bytes, without_marks}
use Rattle.plan.specs.declared.Class.{Class}
use Rattle.plan.specs.declared.Class.TheVariants.{Operator as OPERATOR, Open as OPEN, Close as CLOSE, Brace as BRACE, Blank as BLANK, Bad as BAD}
use Rattle.plan.specs.Refusals.{Faultless, nothing, a_mark, an_operator, opens, closes, Fault, bad_byte, unmatched, Begins, first_fault_there, unclosed}
use Rattle.plan.specs.declared.TextFault.{TextFault}
use Rattle.plan.specs.declared.TextFault.TheVariants.{Unmatched, Unclosed}
use Rattle.plan.proofs.Marks.{kept, mark_dropped}
use Rattle.plan.proofs.Classes.{clash}
use Rattle.plan.proofs.Faultless.{take-one, faultless_then, marks_then, faultless_bounds, without_marks-length}
use Rattle.plan.proofs.Reached.{text-read}
use Rattle.plan.proofs.Refusals.{faulty_read, item-place}
use Rattle.plan.proofs.Plans.{length-labels}
use Rattle.kinds.proofs.Tests.{never}
use Rattle.reader.specs.Counting.{Small, nothing_yet, one_item, closed, counted as counted_of, stepped, survey_ended, surveyed}
use Rattle.reader.specs.declared.Count.{Count}
use Rattle.reader.specs.declared.ByteStep.{ByteStep}
use Rattle.reader.specs.declared.ByteStep.TheVariants.{On, Token}
use Rattle.reader.specs.declared.Counted.{Counted}

-- item number `room` begins at the place `first`
pub record PastAt (text : List ℕ) (room first at : ℕ) : Type 0 where
  pub deep : ℕ
  pub clean : Faultless token_limit 0 (take first text) deep room
  pub begins : Begins (class (get_or text first 0)) (drop (suc first) text)
  pub before : first < at

pub record SurveySoFar (text : List ℕ) (room : ℕ) (n : Count) (at : ℕ) : Type 0 where
  pub short : length text ≤ text_limit
  pub within : at ≤ length text
  pub clean : Faultless token_limit 0 (take at text) n.depth n.cells
  pub keeps : length (without_marks OUTSIDE (take at text)) ≡ n.length
  pub overfull : room < n.cells → PastAt text room n.overfull.0 at
  pub none_past : n.cells ≤ room → n.overfull.0 ≡ 0

pub survey_small : {text : List ℕ} {room at : ℕ} {n : Count} → SurveySoFar text room n at → Small n
survey_small {text} {room} {at} g =
    let whole = length-take-le at text g.within in
    record {
      depth = omega (arith, faultless_bounds g.clean, g.within, g.short);
      cells = omega (arith, faultless_bounds g.clean, g.within, g.short);
      length = omega (arith, without_marks-length OUTSIDE (take at text), g.keeps, g.within, g.short);
    }

-- the same with a further piece that holds no fault
module _ {text : List ℕ} {room at : ℕ} {n : Count} (g : SurveySoFar text room n at) (piece : List ℕ) (at' : ℕ)
    (joined : take at' text ≡ take at text ++ piece) (later : at < at') (within : at' ≤ length text) where
  cleaner : {d k : ℕ} → Faultless token_limit n.depth piece d k → Faultless token_limit 0 (take at' text) d (n.cells + k)
  cleaner f = rw joined (faultless_then g.clean f)

  keeping : length (without_marks OUTSIDE (take at' text)) ≡ n.length + length (without_marks OUTSIDE piece)
  keeping =
      ap (λ us. length (without_marks OUTSIDE us)) joined ∙ ap length (marks_then g.clean piece)
      ∙ length-append (without_marks OUTSIDE (take at text)) (without_marks OUTSIDE piece)
      ∙ ap (◌+ length (without_marks OUTSIDE piece)) g.keeps

  still_past : room < n.cells → PastAt text room n.overfull.0 at'
  still_past h =
      let p = g.overfull h in
      record { deep = p.deep; clean = p.clean; begins = p.begins; before = omega (arith, p.before) }

  -- no item begins in the piece
  same-items : (d kept_bytes : ℕ) → Faultless token_limit n.depth piece d 0 → length (without_marks OUTSIDE piece) ≡ kept_bytes
      → SurveySoFar text room (record { depth = d; cells = n.cells; length = n.length + kept_bytes; overfull = n.overfull }) at'
  same-items d kept_bytes f k =
      record {
        short = g.short;
        within = within;
        clean = rw add-zero at (cleaner f);
        keeps = keeping ∙ ap (n.length +◌) k;
        overfull = still_past;
        none_past = g.none_past;
      }

  -- a mark is passed over
  pub mark_more : (b : ℕ) (m : List ℕ) → piece ≡ b ∷ m → Mark token_limit b m → SurveySoFar text room n at'
  unfolding without_marks
  mark_more b m is h =
      let counted : Count → ℕ → Count = λ n l. record { depth = n.depth; cells = n.cells; length = l; overfull = n.overfull } in
      let whole : b ∷ (m ++ []) ≡ piece = ap (b ∷◌) (append-nil m) ∙ sym is in
      subst (λ x. SurveySoFar text room x at') (ap (counted n) (add-zero n.length))
      (same-items n.depth 0 (subst (λ us. Faultless token_limit n.depth us n.depth 0) whole (a_mark h nothing))
      (ap (λ us. length (without_marks OUTSIDE us)) (sym whole) ∙ ap length (mark_dropped [] h)))

  -- one item begins, with the piece
  pub item_more : (d bytes : ℕ) → Faultless token_limit n.depth piece d 1 → length (without_marks OUTSIDE piece) ≡ bytes
      → Begins (class (get_or text at 0)) (drop (suc at) text)
      → SurveySoFar text room (record { depth = d; cells = n.cells + 1; length = n.length + bytes; overfull = (one_item n at room bytes).overfull }) at'
  item_more d bytes f k begins =
      record {
        short = g.short;
        within = within;
        clean = cleaner f;
        keeps = keeping ∙ ap (n.length +◌) k;
        overfull = go (eqb n.cells room) refl;
        none_past = none (eqb n.cells room) refl;
      }
    where
      none : (t : Bool) → eqb n.cells room ≡ t → n.cells + 1 ≤ room → (cond t (place at) n.overfull).0 ≡ 0
      none true e h = let same : n.cells ≡ room = eqb-true n.cells room e in absurd (omega arith)
      none false e h = g.none_past (omega arith)

      go : (t : Bool) → eqb n.cells room ≡ t → room < n.cells + 1 → PastAt text room (cond t (place at) n.overfull).0 at'
      go true e h =
          record { deep = n.depth; clean = rw (eqb-true n.cells room e) at g.clean; begins = begins; before = later }
      go false e h = still_past (let differ : n.cells ≢ room = eqb-false n.cells room e in omega arith)

pub survey_start : (text : List ℕ) (room : ℕ) (n : Count) → length text ≤ text_limit → n ≡ nothing_yet → SurveySoFar text room n 0
unfolding without_marks
survey_start text room n short e =
    subst (λ m. SurveySoFar text room m 0) (sym e)
    (record {
      short = short;
      within = omega arith;
      clean = nothing;
      keeps = refl;
      overfull = λ h. absurd (omega arith);
      none_past = λ h. refl;
    })

same_counts : {c c' l l' : ℕ} {p p' : Place} → c ≡ c' → l ≡ l' → p ≡ p' → ◌≡◌ {A = Result Counted TextFault} (Ok (counted_of c l p)) (Ok (counted_of c' l' p'))
same_counts a b e = rw (a, b, e)

-- the answers that a byte may get
abbrev pub Step : Type 0
Step = Result ByteStep TextFault

on_injective : {n m : Count} → ◌≡◌ {A = Step} (Ok (On n)) (Ok (On m)) → n ≡ m
on_injective e = cc

stop_injective : {r s : TextFault} → ◌≡◌ {A = Step} (Err r) (Err s) → r ≡ s
stop_injective e = cc

stop_is_not_on : {A : Type 0} {r : TextFault} {n : Count} → ◌≡◌ {A = Step} (Err r) (Ok (On n)) → A
stop_is_not_on e = never cc

pub token_is_not_on : {A : Type 0} {n : Count} → ◌≡◌ {A = Step} (Ok Token) (Ok (On n)) → A
token_is_not_on e = never cc

pub token_is_not_stop : {A : Type 0} {r : TextFault} → ◌≡◌ {A = Step} (Ok Token) (Err r) → A
token_is_not_stop e = never cc

-- the byte at the place
module _ {text : List ℕ} {room at : ℕ} {n : Count} (g : SurveySoFar text room n at) (inside : at < length text) where
  abbrev here : ℕ
  here = get_or text at 0

  on_by_class : (k : Class) → class here ≡ k → (m : Count) → stepped n k at room ≡ Ok (On m) → SurveySoFar text room m (at + 1)
  unfolding stepped without_marks
  on_by_class (OPERATOR o) c m e =
      subst (λ x. SurveySoFar text room x (at + 1)) (on_injective e)
      (item_more g (here ∷ []) (at + 1) (take-one text at inside) (omega arith) (omega arith) n.depth 1 (an_operator c nothing)
      (ap length (kept here [] (λ z. clash (sym c ∙ z) tt) (λ z. clash (sym c ∙ z) tt))) (rw c tt))
  on_by_class OPEN c m e =
      subst (λ x. SurveySoFar text room x (at + 1)) (on_injective e)
      (item_more g (here ∷ []) (at + 1) (take-one text at inside) (omega arith) (omega arith) (n.depth + 1) 1 (rw add-one (opens c nothing))
      (ap length (kept here [] (λ z. clash (sym c ∙ z) tt) (λ z. clash (sym c ∙ z) tt))) (rw c tt))
  on_by_class CLOSE c m e = go (eqb n.depth 0) refl e
    where
      go : (t : Bool) → eqb n.depth 0 ≡ t → cond t (Err (Unmatched (place at))) (Ok (On (closed n))) ≡ Ok (On m) → SurveySoFar text room m (at + 1)
      go true h e = stop_is_not_on e
      go false h e =
          let differ : n.depth ≢ 0 = eqb-false n.depth 0 h in
          let deep : n.depth ≡ suc (n.depth - 1) = omega arith in
          subst (λ x. SurveySoFar text room x (at + 1)) (on_injective e)
          (same-items g (here ∷ []) (at + 1) (take-one text at inside) (omega arith) (omega arith) (n.depth - 1) 1
          (subst (λ d. Faultless token_limit d (here ∷ []) (n.depth - 1) 0) (sym deep) (closes c nothing))
          (ap length (kept here [] (λ z. clash (sym c ∙ z) tt) (λ z. clash (sym c ∙ z) tt))))
  on_by_class BRACE c m e = token_is_not_on e
  on_by_class BLANK c m e =
      subst (λ x. SurveySoFar text room x (at + 1)) (on_injective e)
      (mark_more g (here ∷ []) (at + 1) (take-one text at inside) (omega arith) (omega arith) here [] refl (blank c))
  on_by_class BAD c m e = stop_is_not_on e

  -- one byte that is no fault
  pub survey_on : (m : Count) → Ok (On m) ≡ stepped n (class here) at room → SurveySoFar text room m (at + 1)
  survey_on m e = on_by_class (class here) refl m (sym e)

  -- a fault at this place is what reading refuses
  pub refused-here : {r : TextFault} → Fault token_limit at here (drop (suc at) text) n.depth r → Err r ≡ surveyed room (read_bytes token_limit text)
  unfolding surveyed
  refused-here {r} f =
      rw (faulty_read {limit = token_limit}
      (first_fault_there (take at text) (drop (suc at) text) here (split_at text at 0 inside) g.clean
      (subst (λ k. Fault token_limit k here (drop (suc at) text) n.depth r) (sym (length-take-le at text g.within)) f)))

  stop_by_class : (k : Class) → class here ≡ k → (r : TextFault) → stepped n k at room ≡ Err r → Err r ≡ surveyed room (read_bytes token_limit text)
  unfolding stepped
  stop_by_class (OPERATOR o) c r e = stop_is_not_on (sym e)
  stop_by_class OPEN c r e = stop_is_not_on (sym e)
  stop_by_class CLOSE c r e = go (eqb n.depth 0) refl e
    where
      go : (t : Bool) → eqb n.depth 0 ≡ t → cond t (Err (Unmatched (place at))) (Ok (On (closed n))) ≡ Err r
          → Err r ≡ surveyed room (read_bytes token_limit text)
      go true h e =
          subst (λ s. Err s ≡ surveyed room (read_bytes token_limit text)) (stop_injective e)
          (refused-here (rw (eqb-true n.depth 0 h) (unmatched c)))
      go false h e = stop_is_not_on (sym e)
  stop_by_class BRACE c r e = token_is_not_stop e
  stop_by_class BLANK c r e = stop_is_not_on (sym e)
  stop_by_class BAD c r e =
      subst (λ s. Err s ≡ surveyed room (read_bytes token_limit text)) (stop_injective e) (refused-here (bad_byte c))

  pub survey_stop : (r : TextFault) → Err r ≡ stepped n (class here) at room → Err r ≡ surveyed room (read_bytes token_limit text)
  survey_stop r e = stop_by_class (class here) refl r (sym e)

-- the end of the text
pub survey_end : {text : List ℕ} {room at : ℕ} {n : Count} → SurveySoFar text room n at → length text ≤ at
    → survey_ended n at ≡ surveyed room (read_bytes token_limit text)
unfolding survey_ended surveyed
survey_end {text} {room} {at} {n} g ended = go (ltb 0 n.depth) refl
  where
    last : at ≡ length text
    last = omega (arith, g.within)

    whole : Faultless token_limit 0 text n.depth n.cells
    whole = rw (take_all at text ended) at g.clean

    -- item number `room` of the plan that was read begins where it was noted
    noted : {p : Plan ℕ} → read_bytes token_limit text ≡ PLAN p → cells p ≡ n.cells → (t : Bool) → ltb room n.cells ≡ t
        → n.overfull ≡ place_of_item room p
    noted {p} is counted true t =
        let w = g.overfull (ltb-true room n.cells t) in
        let first = n.overfull.0 in
        let inside : first < length text = omega (arith, w.before, g.within) in
        let at_item = item-place token_limit (take first text) (drop (suc first) text) (get_or text first 0) w.clean w.begins
        (ap (read_bytes token_limit) (sym (split_at text first 0 inside)) ∙ is) in
        ap place (sym (length-take-le first text (omega arith)) ∙ sym at_item.0)
    noted {p} is counted false t =
        let few = ltb-false room n.cells t in
        ap place (g.none_past few ∙ sym (get_or-eq_default (labels p) 0 (omega (arith, length-labels p))))

    go : (s : Bool) → ltb 0 n.depth ≡ s
        → cond s (Err (Unclosed (place at))) (Ok (counted_of n.cells n.length n.overfull)) ≡ surveyed room (read_bytes token_limit text)
    go true h =
        let deep : n.depth ≡ suc (n.depth - 1) = (let some_open = ltb-true 0 n.depth h in omega arith) in
        rw (faulty_read {limit = token_limit} (unclosed (rw deep at whole))) (ap (λ k. Err (Unclosed (place k))) last)
    go false h =
        let closed_all : n.depth ≡ 0 = (let some = ltb-false 0 n.depth h in omega arith) in
        let r = text-read (rw closed_all at whole) in
        let long : n.length ≡ length (print r.plan) =
        sym (ap (λ us. length (without_marks OUTSIDE us)) (sym (take_all at text ended)) ∙ g.keeps) ∙ sym (ap length r.printed) in
        rw r.reads (same_counts (sym r.counted) long (noted r.reads r.counted (ltb room n.cells) refl))
