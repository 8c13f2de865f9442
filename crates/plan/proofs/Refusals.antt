-- The rows 13 to 17 of the table, 21 to 25 for 14, are what reading refuses: each number exactly when its row says, at its row's place.
use Prim.Native.Nat.{ℕ, zero, suc, ◌+◌, ◌≤◌, ◌<◌}
use mathlib.Core.Path.{◌≡◌, refl, ap, sym, ◌∙◌, subst}
use mathlib.Core.Bool.{Bool, true, false, cond}
use mathlib.Core.Logic.{◌↔◌}
use Rattle.std.specs.Prelude.{Option, None, Some}
use mathlib.Core.List.{List, [], ◌∷◌, ◌++◌, append-nil, append_assoc}
use native.Mathlib.Omega.{arith}
use native.Mathlib.Nat.{zero-add}
use lib.ListN.{length, drop, get_or, length-append}
use lib.Seq.{drop-nil, get_or_at}
use lib.Dec.{leb}
use borrow.Author.Tests.{leb-true, leb-false, lt-leb}
use Rattle.plan.specs.declared.Unread.{Unread}
use Rattle.plan.specs.declared.Unread.TheVariants.{Overfull}
use Rattle.plan.specs.declared.TextFault.{TextFault}
use Rattle.plan.specs.declared.TextFault.TheVariants.{Unclosed}
use Rattle.plan.specs.Plan.{Plan, end, operator, token, block, ◌then◌, cells, labels, close_brace}
use Rattle.plan.specs.Token.{annotation, token_text}
use Rattle.plan.specs.Reading.{Around, outermost, inside, Class, OPERATOR, OPEN, CLOSE, BRACE, BLANK, BAD, blank, an_annotation, class, place, go_on, move, after_token, mark, Reading, PLAN, FAULT, ACCEPTED, UNREAD, place_of_item, read_from, fit, read}
use Rattle.plan.specs.Refusals.{Faultless, nothing, a_mark, an_operator, a_token, opens, closes, Fault, bad_byte, bad_token, unmatched, Begins, Faulty, first_fault_there, unclosed, Row, faulty, overfull}
use Rattle.plan.proofs.Options.{Each}
use Rattle.plan.proofs.Plans.{length-labels}
use Rattle.kinds.proofs.Tests.{never}
use Rattle.plan.proofs.TokenFaults.{fault_no_token, first-met, met-first}
use Rattle.plan.proofs.Tokens.{annotation-of, token_text_finds}
use Rattle.plan.specs.Pieces.{Found, pieces, piece_labels, so_far}
use Rattle.plan.proofs.Pieces.{first-start, labels-pieces, piece_labels_append}
use Rattle.plan.proofs.Reached.{depth, reached, read_whole, text-read}

-- what reading says of bytes that begin at the place `from` with d blocks open
data Verdict (limit from d : ℕ) (bs : List ℕ) : Reading → Type 0 where
  whole : {k : ℕ} {p : Plan ℕ} → Faultless limit d bs 0 k → Verdict limit from d bs (PLAN p)
  stopped : (before rest : List ℕ) (b : ℕ) {e k at : ℕ} {r : TextFault}
      → bs ≡ before ++ b ∷ rest → Faultless limit d before e k → Fault limit at b rest e r → at ≡ from + length before
      → Verdict limit from d bs (FAULT r)
  open_end : {e k at : ℕ} → Faultless limit d bs (suc e) k → at ≡ from + length bs → Verdict limit from d bs (FAULT (Unclosed (place at)))

-- a verdict on bytes behind others in which there is no fault
module _ {limit d d' : ℕ} (xs : List ℕ) (longer : (us : List ℕ) (e k : ℕ) → Faultless limit d' us e k → (m : ℕ) × Faultless limit d (xs ++ us) e m) where
  behind : {from from' : ℕ} {bs : List ℕ} {r : Reading} → from' ≡ from + length xs → Verdict limit from' d' bs r → Verdict limit from d (xs ++ bs) r
  behind {bs = bs} h (whole f) = whole (longer bs _ _ f).1
  behind {bs = bs} h (stopped before rest b e f g a) =
      stopped (xs ++ before) rest b (ap (xs ++◌) e ∙ sym (append_assoc xs before (b ∷ rest))) (longer before _ _ f).1 g
      (omega (arith, length-append xs before))
  behind {bs = bs} h (open_end {at = at} f a) = open_end {at = at} (longer bs _ _ f).1 (omega (arith, length-append xs bs))

drop_token : (t rest : List ℕ) → drop (suc (length t)) (t ++ close_brace ∷ rest) ≡ rest
drop_token [] rest = refl
drop_token (b ∷ t) rest = drop_token t rest

-- one byte, and what the verdict on the bytes after it makes of it
module _ (limit at b : ℕ) (bs : List ℕ)
    (further : (skip : ℕ) (out : Around) (here : Plan ℕ) (from : ℕ) → from ≡ suc at + skip → skip ≤ length bs
    → Verdict limit from (depth out) (drop skip bs) (read_from limit (suc at) skip out here bs)) where
  abbrev then_read : Around → Plan ℕ → ℕ → Reading
  then_read out here skip = read_from limit (suc at) skip out here bs

  by_token : (out : Around) (here : Plan ℕ) (o : Option (List ℕ)) → class b ≡ BRACE → token_text limit bs ≡ o → Each (Found limit bs) o
      → Verdict limit at (depth out) (b ∷ bs) (go_on (after_token limit at bs o out here) then_read)
  unfolding go_on after_token mark
  by_token out here None c e s = stopped [] bs b {at = at} refl nothing (bad_token c (first-met limit bs e)) (omega arith)
  by_token out here (Some t) c e s =
      let same : annotation bs ≡ annotation t = ap annotation s.splits ∙ annotation-of limit t (close_brace ∷ s.rest) s.fine in
      rw same (kept_or_passed (annotation t) refl)
    where
      regrouped : (us : List ℕ) → (t ++ close_brace ∷ []) ++ us ≡ t ++ close_brace ∷ us
      regrouped = append_assoc t (close_brace ∷ [])

      -- the whole token holds no fault, whatever is read on with
      whole_token : (after : Plan ℕ) → ((us : List ℕ) (e k : ℕ) → Faultless limit (depth out) us e k → (m : ℕ) × Faultless limit (depth out) (b ∷ ((t ++ close_brace ∷ []) ++ us)) e m)
          → Verdict limit at (depth out) (b ∷ bs) (then_read out after (suc (length t)))
      whole_token after longer =
          let there = further (suc (length t)) out after (at + suc (suc (length t))) (omega arith)
          (omega (arith, ap length s.splits, length-append t (close_brace ∷ s.rest))) in
          let past : drop (suc (length t)) bs ≡ s.rest = ap (drop (suc (length t))) s.splits ∙ drop_token t s.rest in
          let joined : (b ∷ (t ++ close_brace ∷ [])) ++ s.rest ≡ b ∷ bs = ap (b ∷◌) (regrouped s.rest ∙ sym s.splits) in
          subst (λ us. Verdict limit at (depth out) us (then_read out after (suc (length t)))) joined
          (behind (b ∷ (t ++ close_brace ∷ [])) longer (omega (arith, length-append t (close_brace ∷ []))) (rw past at there))

      kept_or_passed : (a : Bool) → annotation t ≡ a → Verdict limit at (depth out) (b ∷ bs) (then_read out (cond a here (here then token at t end)) (suc (length t)))
      kept_or_passed true h = whole_token here (λ us e k f. (_, a_mark (an_annotation t c s.fine h) f))
      kept_or_passed false h =
          whole_token (here then token at t end)
          (λ us e k f. (_, subst (λ vs. Faultless limit (depth out) (b ∷ vs) e (suc k)) (sym (regrouped us)) (a_token t c (record { fine = s.fine; own = h }) f)))

  by_class : (c : Class) → class b ≡ c → (out : Around) (here : Plan ℕ)
      → Verdict limit at (depth out) (b ∷ bs) (go_on (move limit at c bs out here) then_read)
  unfolding go_on move
  by_class (OPERATOR o) c out here =
      behind (b ∷ []) (λ us e k f. (_, an_operator c f)) refl (further 0 out (here then operator at o end) (at + 1) (omega arith) (omega arith))
  by_class OPEN c out here = behind (b ∷ []) (λ us e k f. (_, opens c f)) refl (further 0 (inside at here out) end (at + 1) (omega arith) (omega arith))
  by_class CLOSE c outermost here = stopped [] bs b {at = at} refl nothing (unmatched c) (omega arith)
  by_class CLOSE c (inside l before out) here =
      behind (b ∷ []) (λ us e k f. (_, closes c f)) refl (further 0 out (before then block l here end) (at + 1) (omega arith) (omega arith))
  by_class BRACE c out here = by_token out here (token_text limit bs) c refl (token_text_finds limit bs)
  by_class BLANK c out here = behind (b ∷ []) (λ us e k f. (_, a_mark (blank c) f)) refl (further 0 out here (at + 1) (omega arith) (omega arith))
  by_class BAD c out here = stopped [] bs b {at = at} refl nothing (bad_byte c) (omega arith)

verdict : (limit : ℕ) (bs : List ℕ) (at skip : ℕ) (out : Around) (here : Plan ℕ) (from : ℕ) → from ≡ at + skip → skip ≤ length bs
    → Verdict limit from (depth out) (drop skip bs) (read_from limit at skip out here bs)
unfolding read_from
verdict limit [] at skip outermost here from h g = rw drop-nil (whole nothing)
verdict limit [] at skip (inside l before out) here from h g = rw drop-nil (open_end {at = at} nothing (omega arith))
verdict limit (b ∷ bs) at (suc skip) out here from h g = verdict limit bs (suc at) skip out here from (omega arith) (omega arith)
verdict limit (b ∷ bs) at zero out here from h g =
    let here_from : from ≡ at = omega arith in
    rw here_from
    (by_class limit at b bs (λ skip out' here' from' h' g'. verdict limit bs (suc at) skip out' here' from' h' g') (class b) refl out here)

pub plan_injective : {p q : Plan ℕ} → PLAN p ≡ PLAN q → p ≡ q
plan_injective e = cc

pub accepted_injective : {p q : Plan ℕ} → ACCEPTED p ≡ ACCEPTED q → p ≡ q
accepted_injective e = cc

whole_of : {limit from d : ℕ} {bs : List ℕ} {p : Plan ℕ} → Verdict limit from d bs (PLAN p) → (k : ℕ) × Faultless limit d bs 0 k
whole_of (whole f) = (_, f)

-- Item number n of a text begins at its first byte: its label is the place of that byte.
pub item-place : (limit : ℕ) (before rest : List ℕ) (b : ℕ) {d n : ℕ} {p : Plan ℕ} → Faultless limit 0 before d n → Begins (class b) rest
    → read_from limit 0 0 outermost end (before ++ b ∷ rest) ≡ PLAN p → (get_or (labels p) n 0 ≡ length before) × (n < cells p)
unfolding so_far pieces
item-place limit before rest b {n = n} {p = p} f g e =
    let r = reached f 0 outermost end refl in
    let at = 0 + length before in
    let later : read_from limit at 0 r.then_out r.then_here (b ∷ rest) ≡ PLAN p = sym (r.goes (b ∷ rest)) ∙ e in
    let v = verdict limit (b ∷ rest) at 0 r.then_out r.then_here at (omega arith) (omega arith) in
    let w = (whole_of (rw later at v)).1 in
    let r' = reached w at r.then_out r.then_here refl in
    let read = read_whole at r.then_out r.then_here r' in
    let first = first-start r'.shows g in
    let before_it = piece_labels r.more in
    let plan : p ≡ read.plan = plan_injective (sym later ∙ read.reads) in
    let listed : labels p ≡ before_it ++ (length before) ∷ first.0 =
    labels-pieces p ∙ ap piece_labels (ap pieces plan ∙ read.all ∙ ap (◌++ r'.more) r.grown) ∙ piece_labels_append r.more r'.more
    ∙ ap (before_it ++◌) first.1 ∙ ap (λ n. before_it ++ n ∷ first.0) (zero-add (length before)) in (
      ap (λ l. get_or l n 0) listed ∙ get_or_at before_it (length before) first.0 0 n r.counted,
      omega (arith, length-labels p, ap length listed, length-append before_it (length before ∷ first.0), r.counted),
    )

-- where item number n begins
record ItemAt (limit d : ℕ) (bs : List ℕ) (n : ℕ) : Type 0 where
  before : List ℕ
  rest : List ℕ
  first : ℕ
  deep : ℕ
  splits : bs ≡ before ++ first ∷ rest
  faultless : Faultless limit d before deep n
  begins : Begins (class first) rest

item-here : {limit d b : ℕ} (bs : List ℕ) → Begins (class b) bs → ItemAt limit d (b ∷ bs) 0
item-here {d = d} {b = b} bs g = record { before = []; rest = bs; first = b; deep = d; splits = refl; faultless = nothing; begins = g }

item_behind : {limit d d' : ℕ} (xs : List ℕ) {bs : List ℕ} {n m : ℕ} (i : ItemAt limit d' bs n)
    → Faultless limit d (xs ++ i.before) i.deep m → ItemAt limit d (xs ++ bs) m
item_behind xs i f =
    record {
      before = xs ++ i.before;
      rest = i.rest;
      first = i.first;
      deep = i.deep;
      splits = ap (xs ++◌) i.splits ∙ sym (append_assoc xs i.before (i.first ∷ i.rest));
      faultless = f;
      begins = i.begins;
    }

item-at : {limit d e k : ℕ} {bs : List ℕ} → Faultless limit d bs e k → (n : ℕ) → n < k → ItemAt limit d bs n
item-at nothing n h = absurd (omega arith)
item-at (a_mark {b = b} {m = m} g f) n h =
    let i = item-at f n h in
    item_behind (b ∷ m) i (a_mark g i.faultless)
item-at (an_operator {bs = bs} c f) zero h = item-here bs (rw c tt)
item-at (an_operator {b = b} c f) (suc n) h = let i = item-at f n (omega arith) in item_behind (b ∷ []) i (an_operator c i.faultless)
item-at {limit} (a_token {bs = bs} t c a f) zero h = item-here _ (rw c (annotation-of limit t (close_brace ∷ bs) a.fine ∙ a.own))
item-at {limit} {d} (a_token {b = b} {bs = bs} t c a f) (suc n) h =
    let i = item-at f n (omega arith) in
    let regrouped : (us : List ℕ) → (t ++ close_brace ∷ []) ++ us ≡ t ++ close_brace ∷ us = append_assoc t (close_brace ∷ []) in
    let first : Faultless limit d (b ∷ ((t ++ close_brace ∷ []) ++ i.before)) i.deep (suc n) =
    subst (λ us. Faultless limit d (b ∷ us) i.deep (suc n)) (sym (regrouped i.before)) (a_token t c a i.faultless) in
    subst (λ us. ItemAt limit d (b ∷ us) (suc n)) (regrouped bs) (item_behind (b ∷ (t ++ close_brace ∷ [])) i first)
item-at (opens {bs = bs} c f) zero h = item-here bs (rw c tt)
item-at (opens {b = b} c f) (suc n) h = let i = item-at f n (omega arith) in item_behind (b ∷ []) i (opens c i.faultless)
item-at (closes {b = b} c f) n h = let i = item-at f n h in item_behind (b ∷ []) i (closes c i.faultless)

-- a fault of the next byte stops the reader there
fault_stops : {limit at b d : ℕ} {rest : List ℕ} {r : TextFault} (out : Around) (here : Plan ℕ) → depth out ≡ d → Fault limit at b rest d r
    → read_from limit at 0 out here (b ∷ rest) ≡ FAULT r
unfolding read_from go_on move after_token
fault_stops out here h (bad_byte c) = rw c
fault_stops out here h (bad_token c first) = rw (c, fault_no_token first.stands, met-first first)
fault_stops outermost here h (unmatched c) = rw c
fault_stops (inside l before out) here h (unmatched c) = absurd (omega arith)

open_stops : (limit at : ℕ) {d : ℕ} (out : Around) (here : Plan ℕ) → depth out ≡ suc d → read_from limit at 0 out here [] ≡ FAULT (Unclosed (place at))
unfolding read_from
open_stops limit at outermost here h = absurd (omega arith)
open_stops limit at (inside l before out) here h = refl

fit_over : (n : ℕ) (p : Plan ℕ) → n < cells p → fit n (PLAN p) ≡ UNREAD (Overfull (place_of_item n p))
unfolding fit
fit_over n p h = rw (lt-leb (cells p) n h)

-- the reader behind a front part of the text without a fault
module _ {limit d k : ℕ} {before : List ℕ} (f : Faultless limit 0 before d k) where
  past_front : (rest : List ℕ) → (out : Around) × (here : Plan ℕ) × (depth out ≡ d)
      × (read_from limit 0 0 outermost end (before ++ rest) ≡ read_from limit (length before) 0 out here rest)
  past_front rest =
      let r = reached f 0 outermost end refl in (
        r.then_out,
        r.then_here,
        r.deep,
        r.goes rest ∙ ap (λ at. read_from limit at 0 r.then_out r.then_here rest) (zero-add (length before)),
      )

-- the table's row, then the fault, however many cells there are
pub faulty_read : {limit : ℕ} {text : List ℕ} {f : TextFault} → Faulty limit text f → read_from limit 0 0 outermost end text ≡ FAULT f
faulty_read {limit} (first_fault_there before rest b e f g) =
    let r = past_front f (b ∷ rest) in
    ap (read_from limit 0 0 outermost end) e ∙ r.3 ∙ fault_stops r.0 r.1 r.2 g
faulty_read {limit} {text} (unclosed f) =
    let r = past_front f [] in
    ap (read_from limit 0 0 outermost end) (sym (append-nil text)) ∙ r.3 ∙ open_stops limit (length text) r.0 r.1 r.2

-- and the fault, then the row
pub read_faulty : (limit : ℕ) (text : List ℕ) {f : TextFault} → read_from limit 0 0 outermost end text ≡ FAULT f → Faulty limit text f
read_faulty limit text {f} h = go (rw h at (verdict limit text 0 0 outermost end 0 (omega arith) (omega arith)))
  where
    go : {g : TextFault} → Verdict limit 0 0 text (FAULT g) → Faulty limit text g
    go (stopped before rest b e ok wrong a) = first_fault_there before rest b e ok (rw (a ∙ zero-add (length before)) at wrong)
    go (open_end ok a) = subst (λ at. Faulty limit text (Unclosed (place at))) (sym (a ∙ zero-add (length text))) (unclosed ok)

-- the same with the row of a plan that is too large
pub row_refused : {limit n : ℕ} {text : List ℕ} {u : Unread} → Row limit n text u → read limit n text ≡ UNREAD u
unfolding read fit
row_refused {limit} {n} (faulty f) = ap (fit n) (faulty_read f)
row_refused {limit} {n} (overfull before rest b e f g h) =
    let w = text-read h in
    let i = item-place limit before rest b f g (ap (read_from limit 0 0 outermost end) (sym e) ∙ w.reads) in
    ap (fit n) w.reads ∙ fit_over n w.plan i.1 ∙ ap (λ at. UNREAD (Overfull (place at))) i.0

pub unread_injective : {u v : Unread} → UNREAD u ≡ UNREAD v → u ≡ v
unread_injective e = cc

pub accepted_is_not_unread : {A : Type 0} {p : Plan ℕ} {u : Unread} → ACCEPTED p ≡ UNREAD u → A
accepted_is_not_unread e = never cc

-- a text that reads has no fault, and each of its items a byte
pub plan_faultless : (limit : ℕ) (text : List ℕ) {p : Plan ℕ} → read_from limit 0 0 outermost end text ≡ PLAN p → Faultless limit 0 text 0 (cells p)
plan_faultless limit text {p} h =
    let w = whole_of (rw h at (verdict limit text 0 0 outermost end 0 (omega arith) (omega arith))) in
    let r = text-read w.1 in
    let counted : w.0 ≡ cells p = sym r.counted ∙ ap cells (plan_injective (sym r.reads ∙ h)) in
    rw counted at w.1

-- the refusal, then the table's row
pub refused-row : (limit n : ℕ) (text : List ℕ) {u : Unread} → read limit n text ≡ UNREAD u → Row limit n text u
unfolding read fit
refused-row limit n text {u} h = go (read_from limit 0 0 outermost end text) refl h
  where
    over : {p : Plan ℕ} → read_from limit 0 0 outermost end text ≡ PLAN p → n < cells p → UNREAD (Overfull (place_of_item n p)) ≡ UNREAD u → Row limit n text u
    over x g e =
        let f = plan_faultless limit text x in
        let i = item-at f n g in
        let at = item-place limit i.before i.rest i.first i.faultless i.begins
        (ap (read_from limit 0 0 outermost end) (sym i.splits) ∙ x) in
        subst (Row limit n text) (ap (λ at. Overfull (place at)) (sym at.0) ∙ unread_injective e)
        (overfull i.before i.rest i.first i.splits i.faultless i.begins f)

    go : (x : Reading) → read_from limit 0 0 outermost end text ≡ x → fit n x ≡ UNREAD u → Row limit n text u
    go (FAULT f) x h = subst (Row limit n text) (unread_injective h) (faulty (read_faulty limit text x))
    go (PLAN p) x h = test (leb (cells p) n) refl h
      where
        test : (t : Bool) → leb (cells p) n ≡ t → cond t (ACCEPTED p) (UNREAD (Overfull (place_of_item n p))) ≡ UNREAD u → Row limit n text u
        test true e h = accepted_is_not_unread h
        test false e h = over x (leb-false (cells p) n e) h

-- each refusal number of 13 to 17 and 21 to 25 exactly when its row of the table says, with that row's place
pub refused_iff : (limit n : ℕ) (text : List ℕ) (u : Unread) → (read limit n text ≡ UNREAD u) ↔ Row limit n text u
refused_iff limit n text u = (λ e. refused-row limit n text e, λ h. row_refused h)

-- a plan that fits is accepted as it was read
pub fit_accepted : (n : ℕ) (x : Reading) {p : Plan ℕ} → fit n x ≡ ACCEPTED p → (x ≡ PLAN p) × (cells p ≤ n)
unfolding fit
fit_accepted n (FAULT f) h = accepted_is_not_unread (sym h)
fit_accepted n (PLAN q) {p} h = test (leb (cells q) n) refl h
  where
    test : (t : Bool) → leb (cells q) n ≡ t → cond t (ACCEPTED q) (UNREAD (Overfull (place_of_item n q))) ≡ ACCEPTED p → (PLAN q ≡ PLAN p) × (cells p ≤ n)
    test true t h = let same : q ≡ p = accepted_injective h in (ap PLAN same, subst (λ z. cells z ≤ n) same (leb-true (cells q) n t))
    test false t h = accepted_is_not_unread (sym h)

-- a text that is accepted has no fault, and no more cells than there are
pub read_faultless : (limit n : ℕ) (text : List ℕ) {p : Plan ℕ} → read limit n text ≡ ACCEPTED p
    → Faultless limit 0 text 0 (cells p) × (cells p ≤ n) × (read_from limit 0 0 outermost end text ≡ PLAN p)
unfolding read
read_faultless limit n text e =
    let (is, few) = fit_accepted n (read_from limit 0 0 outermost end text) e in
    (plan_faultless limit text is, few, is)
