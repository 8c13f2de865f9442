-- What a reader has come to behind bytes without a fault: one induction over such bytes says where it goes on, and which pieces it
-- has read. The laws of reading are read off these pieces.
use Prim.Native.Nat.{ℕ, suc, ◌+◌}
use mathlib.Core.Path.{◌≡◌, refl, ap, sym, ◌∙◌}
use mathlib.Core.Bool.{Bool, true, cond}
use mathlib.Core.List.{List, [], ◌∷◌, ◌++◌, append-nil, append_assoc}
use native.Mathlib.Omega.{arith}
use lib.ListN.{length, length-append}
use Rattle.plan.specs.Plan.{Plan, end, operator, token, block, ◌then◌, cells, print, close_brace}
use Rattle.plan.specs.Token.{Allowed, allowed, annotation}
use Rattle.plan.specs.Reading.{ON, PLAN, Around, outermost, inside, class, go_on, move, after_token, read_from, Mark, blank, an_annotation, BRACE, OUTSIDE, mark, without_marks}
use Rattle.plan.specs.Refusals.{Faultless, nothing, a_mark, an_operator, a_token, opens, closes}
use Rattle.plan.specs.Pieces.{Piece, OP, TOKEN, BEGIN, END, pieces, piece_labels, Shows, so_far}
use Rattle.plan.specs.Pieces as shown
use Rattle.plan.proofs.Pieces.{cells-pieces, print-pieces, piece_labels_append, so_far-close, so_far-then, shows_allowed, shows_row}
use Rattle.plan.proofs.Tokens.{annotation-of, token_text-at}

abbrev pub depth : Around → ℕ
depth outermost = 0
depth (inside l before out) = suc (depth out)

-- the bytes of a token already read are passed over
pub skip_token : (limit at : ℕ) (out : Around) (here : Plan ℕ) (t rest : List ℕ)
    → read_from limit at (suc (length t)) out here (t ++ close_brace ∷ rest) ≡ read_from limit (at + suc (length t)) 0 out here rest
unfolding read_from
skip_token limit at out here [] rest = ap (λ n. read_from limit n 0 out here rest) (omega arith)
skip_token limit at out here (b ∷ t) rest =
    skip_token limit (suc at) out here t rest ∙ ap (λ n. read_from limit n 0 out here rest) (omega arith)

-- what one byte makes of the reader, where it is not `{`
pub moved : (limit at b : ℕ) (out : Around) (here : Plan ℕ) (out' : Around) (here' : Plan ℕ)
    → ((rest : List ℕ) → move limit at (class b) rest out here ≡ ON out' here' 0)
    → (rest : List ℕ) → read_from limit at 0 out here (b ∷ rest) ≡ read_from limit (at + 1) 0 out' here' rest
unfolding read_from go_on
moved limit at b out here out' here' m rest = rw (m rest) (ap (λ n. read_from limit n 0 out' here' rest) (omega arith))

-- a token is read, and kept or passed over
pub token_passed : (limit at b : ℕ) (t : List ℕ) (out : Around) (here : Plan ℕ) (rest : List ℕ) → class b ≡ BRACE → allowed limit t ≡ true
    → {s : Bool} → annotation t ≡ s → read_from limit at 0 out here (b ∷ (t ++ close_brace ∷ rest))
    ≡ read_from limit (suc at + suc (length t)) 0 out (cond s here (here then token at t end)) rest
unfolding read_from go_on move after_token mark
token_passed limit at b t out here rest c a {s} e =
    rw (c, token_text-at limit t rest a, annotation-of limit t (close_brace ∷ rest) a, e)
    (skip_token limit (suc at) out (cond s here (here then token at t end)) t rest)

-- a mark is passed over
mark_passed : {limit b : ℕ} {m : List ℕ} (at : ℕ) (out : Around) (here : Plan ℕ) (rest : List ℕ) → Mark limit b m
    → read_from limit at 0 out here (b ∷ (m ++ rest)) ≡ read_from limit (at + suc (length m)) 0 out here rest
unfolding move
mark_passed {limit} {b} at out here rest (blank c) = moved limit at b out here out here (λ us. rw c) rest
mark_passed {limit} {b} at out here rest (an_annotation t c a e) =
    rw (append_assoc t (close_brace ∷ []) rest)
    (token_passed limit at b t out here rest c a e ∙ ap (λ n. read_from limit n 0 out here rest) (omega (arith, length-append t (close_brace ∷ []))))

pub record Reached (limit at : ℕ) (out : Around) (here : Plan ℕ) (bs : List ℕ) (e k : ℕ) : Type 0 where
  pub then_out : Around
  pub then_here : Plan ℕ
  pub goes : (rest : List ℕ) → read_from limit at 0 out here (bs ++ rest) ≡ read_from limit (at + length bs) 0 then_out then_here rest
  pub deep : depth then_out ≡ e
  pub more : List (Piece ℕ)
  pub shows : Shows limit at bs more
  pub grown : so_far then_out then_here ≡ so_far out here ++ more
  pub counted : length (piece_labels more) ≡ k

-- one piece, or a mark, before the bytes bs
onward : {limit at later e j k : ℕ} {out next : Around} {here then_here : Plan ℕ} {us bs : List ℕ} (one : List (Piece ℕ))
    → ((rest : List ℕ) → read_from limit at 0 out here (us ++ rest) ≡ read_from limit later 0 next then_here (bs ++ rest))
    → later + length bs ≡ at + length us → so_far next then_here ≡ so_far out here ++ one → k ≡ length (piece_labels one) + j
    → (r : Reached limit later next then_here bs e j) → Shows limit at us (one ++ r.more) → Reached limit at out here us e k
onward {limit} {out = out} {here = here} one go far new count r s =
    record {
      then_out = r.then_out;
      then_here = r.then_here;
      goes = λ rest. go rest ∙ r.goes rest ∙ ap (λ n. read_from limit n 0 r.then_out r.then_here rest) far;
      deep = r.deep;
      more = one ++ r.more;
      shows = s;
      grown = r.grown ∙ ap (◌++ r.more) new ∙ append_assoc (so_far out here) one r.more;
      counted = omega (arith, r.counted, ap length (piece_labels_append one r.more), length-append (piece_labels one) (piece_labels r.more));
    }

pub reached : {limit d e k : ℕ} {bs : List ℕ} → Faultless limit d bs e k
    → (at : ℕ) (out : Around) (here : Plan ℕ) → depth out ≡ d → Reached limit at out here bs e k
unfolding read_from go_on move after_token so_far pieces piece_labels
reached {limit} nothing at out here h =
    record {
      then_out = out;
      then_here = here;
      goes = λ rest. ap (λ n. read_from limit n 0 out here rest) (omega arith);
      deep = h;
      more = [];
      shows = shown.nothing;
      grown = sym (append-nil (so_far out here));
      counted = refl;
    }
reached {limit} (a_mark {b = b} {m = m} {bs = bs} g f) at out here h =
    let r = reached f (at + suc (length m)) out here h in
    onward [] (λ rest. rw (append_assoc m bs rest) (mark_passed at out here (bs ++ rest) g)) (omega (arith, length-append m bs))
    (sym (append-nil (so_far out here))) (omega arith) r (shown.a_mark g r.shows)
reached {limit} (an_operator {b = b} {o = o} {bs = bs} c f) at out here h =
    let after = here then operator at o end in
    let r = reached f (at + 1) out after h in
    onward (OP at o ∷ []) (λ rest. moved limit at b out here out after (λ us. rw c) (bs ++ rest)) (omega arith)
    (so_far-then out here (operator at o end)) (omega arith) r (shown.an_operator c r.shows)
reached {limit} (a_token {b = b} {bs = bs} t c n f) at out here h =
    let after = here then token at t end in
    let r = reached f (at + (length t + 2)) out after h in
    onward (TOKEN at t ∷ [])
    (λ rest. rw append_assoc (token_passed limit at b t out here (bs ++ rest) c n.fine n.own ∙ ap (λ k. read_from limit k 0 out after (bs ++ rest)) (omega arith)))
    (omega (arith, length-append t (close_brace ∷ bs))) (so_far-then out here (token at t end)) (omega arith) r (shown.a_token t c n r.shows)
reached {limit} (opens {b = b} {bs = bs} c f) at out here h =
    let r = reached f (at + 1) (inside at here out) end (ap suc h) in
    onward (BEGIN at ∷ []) (λ rest. moved limit at b out here (inside at here out) end (λ us. rw c) (bs ++ rest)) (omega arith) refl
    (omega arith) r (shown.opens c r.shows)
reached {limit} (closes c f) at outermost here h = absurd (omega arith)
reached {limit} (closes {b = b} {bs = bs} c f) at (inside l before out) here h =
    let after = before then block l here end in
    let r = reached f (at + 1) out after (omega arith) in
    onward (END ∷ []) (λ rest. moved limit at b (inside l before out) here out after (λ us. rw c) (bs ++ rest)) (omega arith)
    (so_far-close l before out here) (omega arith) r
    (shown.closes c r.shows)

-- bytes without a fault that close every block are read to the end
pub record ReadWhole (limit at : ℕ) (out : Around) (here : Plan ℕ) (bs : List ℕ) (more : List (Piece ℕ)) : Type 0 where
  pub plan : Plan ℕ
  pub reads : read_from limit at 0 out here bs ≡ PLAN plan
  pub all : pieces plan ≡ so_far out here ++ more

pub read_whole : {limit k : ℕ} {bs : List ℕ} (at : ℕ) (out : Around) (here : Plan ℕ)
    → (r : Reached limit at out here bs 0 k) → ReadWhole limit at out here bs r.more
unfolding read_from so_far
read_whole {limit} {bs = bs} at out here r =
    let last = at_end r.then_out r.then_here r.deep in
    record {
      plan = r.then_here;
      reads = ap (read_from limit at 0 out here) (sym (append-nil bs)) ∙ r.goes [] ∙ last.0;
      all = sym last.1 ∙ r.grown;
    }
  where
    -- where no block is open, what was read so far is the plan
    at_end : (out : Around) (here : Plan ℕ) → depth out ≡ 0 → (read_from limit (at + length bs) 0 out here [] ≡ PLAN here) × (so_far out here ≡ pieces here)
    at_end outermost here h = (refl, refl)
    at_end (inside l before out) here h = absurd (omega arith)

-- a whole text
pub record TextRead (limit : ℕ) (text : List ℕ) (k : ℕ) : Type 0 where
  pub plan : Plan ℕ
  pub reads : read_from limit 0 0 outermost end text ≡ PLAN plan
  pub shows : Shows limit 0 text (pieces plan)
  pub counted : cells plan ≡ k
  pub printed : print plan ≡ without_marks OUTSIDE text
  pub fine : Allowed limit plan

pub text-read : {limit k : ℕ} {text : List ℕ} → Faultless limit 0 text 0 k → TextRead limit text k
unfolding so_far pieces
text-read {limit} {text = text} f =
    let r = reached f 0 outermost end refl in
    let w = read_whole 0 outermost end r in
    let shows : Shows limit 0 text (pieces w.plan) = rw w.all r.shows in
    record {
      plan = w.plan;
      reads = w.reads;
      shows = shows;
      counted = cells-pieces w.plan ∙ ap (λ ps. length (piece_labels ps)) w.all ∙ r.counted;
      printed = print-pieces w.plan ∙ shows_row shows;
      fine = shows_allowed w.plan shows;
    }
