-- The views of a plan's pieces: printed in a row they are the printed text, those that begin an item are its labels, one sequence
-- then another is one list then the other, and equal lists are equal plans.
use Prim.Native.Nat.{ℕ, suc}
use mathlib.Core.Path.{◌≡◌, refl, ap, sym, subst, ◌∙◌}
use mathlib.Core.Logic.{◌≢◌}
use mathlib.Core.List.{List, [], ◌∷◌, ◌++◌, append_assoc, append-nil}
use lib.ListN.{length}
use Rattle.plan.specs.Plan.{Plan, end, operator, token, block, ◌then◌, cells, labels, letter, print, relabel, open_bracket, close_bracket, open_brace, close_brace}
use Rattle.plan.specs.Token.{Allowed, KeptToken}
use Rattle.plan.specs.Reading.{Around, outermost, inside, BRACE, BLANK, OUTSIDE, class, without_marks}
use Rattle.plan.specs.Refusals.{Begins}
use Rattle.plan.specs.Pieces.{Piece, OP, TOKEN, BEGIN, END, pieces, piece_print, in_a_row, piece_labels, relabelled, Shows, nothing, a_mark, an_operator, a_token, opens, closes, so_far, seen, Closes}
use Rattle.plan.proofs.Marks.{kept, mark_begins_none, mark_dropped, token_kept}
use Rattle.plan.proofs.Classes.{class_byte, clash}
use Rattle.plan.proofs.Plans.{length-labels}
use Rattle.kinds.proofs.Tests.{never}

module _ {L : Type 0} where
  pub row_append : (ps qs : List (Piece L)) → in_a_row (ps ++ qs) ≡ in_a_row ps ++ in_a_row qs
  unfolding in_a_row
  row_append [] qs = refl
  row_append (x ∷ ps) qs = rw (row_append ps qs, append_assoc)

  pub piece_labels_append : (ps qs : List (Piece L)) → piece_labels (ps ++ qs) ≡ piece_labels ps ++ piece_labels qs
  unfolding piece_labels
  piece_labels_append [] qs = refl
  piece_labels_append (OP l o ∷ ps) qs = ap (l ∷◌) (piece_labels_append ps qs)
  piece_labels_append (TOKEN l t ∷ ps) qs = ap (l ∷◌) (piece_labels_append ps qs)
  piece_labels_append (BEGIN l ∷ ps) qs = ap (l ∷◌) (piece_labels_append ps qs)
  piece_labels_append (END ∷ ps) qs = piece_labels_append ps qs

  pub pieces_then : (p q : Plan L) → pieces (p then q) ≡ pieces p ++ pieces q
  unfolding ◌then◌ pieces
  pieces_then end q = refl
  pieces_then (operator l o p) q = ap (OP l o ∷◌) (pieces_then p q)
  pieces_then (token l t p) q = ap (TOKEN l t ∷◌) (pieces_then p q)
  pieces_then (block l b p) q = rw (pieces_then p q, append_assoc)

  pub print-pieces : (p : Plan L) → print p ≡ in_a_row (pieces p)
  unfolding print pieces in_a_row piece_print
  print-pieces end = refl
  print-pieces (operator l o p) = ap (letter o ∷◌) (print-pieces p)
  print-pieces (token l t p) = rw (print-pieces p, append_assoc)
  print-pieces (block l b p) = rw (row_append (pieces b) (END ∷ pieces p), print-pieces b, print-pieces p)

  pub labels-pieces : (p : Plan L) → labels p ≡ piece_labels (pieces p)
  unfolding labels pieces piece_labels
  labels-pieces end = refl
  labels-pieces (operator l o p) = ap (l ∷◌) (labels-pieces p)
  labels-pieces (token l t p) = ap (l ∷◌) (labels-pieces p)
  labels-pieces (block l b p) = rw (piece_labels_append (pieces b) (END ∷ pieces p), labels-pieces b, labels-pieces p)

  pub cells-pieces : (p : Plan L) → cells p ≡ length (piece_labels (pieces p))
  cells-pieces p = sym (length-labels p) ∙ ap length (labels-pieces p)

  -- a plan closes what it begins
  pub closes_then : (p : Plan L) (d : ℕ) (ps : List (Piece L)) → Closes d ps → Closes d (pieces p ++ ps)
  unfolding pieces
  closes_then end d ps h = h
  closes_then (operator l o p) d ps h = closes_then p d ps h
  closes_then (token l t p) d ps h = closes_then p d ps h
  closes_then (block l b p) d ps h =
      rw (append_assoc (pieces b) (END ∷ pieces p) ps) (closes_then b (suc d) (END ∷ (pieces p ++ ps)) (closes_then p d ps h))

  pub closes_pieces : (p : Plan L) → Closes 0 (pieces p)
  closes_pieces p = rw append-nil at (closes_then p 0 [] tt)

  -- what stands behind a sequence: nothing, or the close of the block that it is inside of
  abbrev Stops : List (Piece L) → Type 0
  Stops [] = Unit {0}
  Stops (OP l o ∷ ps) = ⊥
  Stops (TOKEN l t ∷ ps) = ⊥
  Stops (BEGIN l ∷ ps) = ⊥
  Stops (END ∷ ps) = Unit {0}

  same_parts : (p q : Plan L) (r s : List (Piece L)) → Stops r → Stops s → pieces p ++ r ≡ pieces q ++ s → (p ≡ q) × (r ≡ s)
  unfolding pieces
  same_parts end end r s hr hs e = (refl, e)
  same_parts end (operator l o q) r s hr hs e = absurd (subst Stops e hr)
  same_parts end (token l t q) r s hr hs e = absurd (subst Stops e hr)
  same_parts end (block l b q) r s hr hs e = absurd (subst Stops e hr)
  same_parts (operator l o p) end r s hr hs e = absurd (subst Stops (sym e) hs)
  same_parts (token l t p) end r s hr hs e = absurd (subst Stops (sym e) hs)
  same_parts (block l b p) end r s hr hs e = absurd (subst Stops (sym e) hs)
  same_parts (operator l o p) (operator m o' q) r s hr hs e = let h = same_parts p q r s hr hs (cc) in (cc, h.1)
  same_parts (token l t p) (token m t' q) r s hr hs e = let h = same_parts p q r s hr hs (cc) in (cc, h.1)
  same_parts (block l b p) (block m c q) r s hr hs e =
      let inner : pieces b ++ END ∷ (pieces p ++ r) ≡ pieces c ++ END ∷ (pieces q ++ s) =
      sym (append_assoc (pieces b) (END ∷ pieces p) r) ∙ (cc) ∙ append_assoc (pieces c) (END ∷ pieces q) s in
      let h = same_parts b c (END ∷ (pieces p ++ r)) (END ∷ (pieces q ++ s)) tt tt inner in
      let k = same_parts p q r s hr hs (cc h.1) in
      (cc (h.0, k.0), k.1)
  same_parts (operator l o p) (token m t q) r s hr hs e = never (cc)
  same_parts (operator l o p) (block m c q) r s hr hs e = never (cc)
  same_parts (token l t p) (operator m o q) r s hr hs e = never (cc)
  same_parts (token l t p) (block m c q) r s hr hs e = never (cc)
  same_parts (block l b p) (operator m o q) r s hr hs e = never (cc)
  same_parts (block l b p) (token m t q) r s hr hs e = never (cc)

  pub pieces_injective : (p q : Plan L) → pieces p ≡ pieces q → p ≡ q
  pieces_injective p q e = (same_parts p q [] [] tt tt (append-nil (pieces p) ∙ e ∙ sym (append-nil (pieces q)))).0

module _ {L M : Type 0} (f : L → M) where
  pub relabelled_append : (ps qs : List (Piece L)) → relabelled f (ps ++ qs) ≡ relabelled f ps ++ relabelled f qs
  unfolding relabelled
  relabelled_append [] qs = refl
  relabelled_append (OP l o ∷ ps) qs = ap (OP (f l) o ∷◌) (relabelled_append ps qs)
  relabelled_append (TOKEN l t ∷ ps) qs = ap (TOKEN (f l) t ∷◌) (relabelled_append ps qs)
  relabelled_append (BEGIN l ∷ ps) qs = ap (BEGIN (f l) ∷◌) (relabelled_append ps qs)
  relabelled_append (END ∷ ps) qs = ap (END ∷◌) (relabelled_append ps qs)

  pub length-relabelled : (ps : List (Piece L)) → length (piece_labels (relabelled f ps)) ≡ length (piece_labels ps)
  unfolding piece_labels relabelled
  length-relabelled [] = refl
  length-relabelled (OP l o ∷ ps) = ap suc (length-relabelled ps)
  length-relabelled (TOKEN l t ∷ ps) = ap suc (length-relabelled ps)
  length-relabelled (BEGIN l ∷ ps) = ap suc (length-relabelled ps)
  length-relabelled (END ∷ ps) = length-relabelled ps

  pub pieces-relabel : (p : Plan L) → pieces (relabel f p) ≡ relabelled f (pieces p)
  unfolding relabel relabelled pieces
  pieces-relabel end = refl
  pieces-relabel (operator l o p) = ap (OP (f l) o ∷◌) (pieces-relabel p)
  pieces-relabel (token l t p) = ap (TOKEN (f l) t ∷◌) (pieces-relabel p)
  pieces-relabel (block l b p) = rw (relabelled_append (pieces b) (END ∷ pieces p), pieces-relabel b, pieces-relabel p)

-- what was read so far

pub so_far-then : (out : Around) (here q : Plan ℕ) → so_far out (here then q) ≡ so_far out here ++ pieces q
unfolding so_far
so_far-then outermost here q = pieces_then here q
so_far-then (inside l before out) here q = rw (pieces_then here q, append_assoc)

pub so_far-close : (l : ℕ) (before : Plan ℕ) (out : Around) (here : Plan ℕ)
    → so_far out (before then block l here end) ≡ so_far (inside l before out) here ++ END ∷ []
unfolding so_far pieces
so_far-close l before out here =
    so_far-then out before (block l here end) ∙ sym (append_assoc (so_far out before) (BEGIN l ∷ pieces here) (END ∷ []))

pub seen-pieces : (out : Around) (here : Plan ℕ) → seen out here ≡ piece_labels (so_far out here)
unfolding seen so_far piece_labels
seen-pieces outermost here = labels-pieces here
seen-pieces (inside l before out) here =
    rw (seen-pieces out before, labels-pieces here) (sym (piece_labels_append (so_far out before) (BEGIN l ∷ pieces here)))

pub seen-then : (out : Around) (here q : Plan ℕ) → seen out (here then q) ≡ seen out here ++ labels q
seen-then out here q =
    rw (seen-pieces out (here then q), seen-pieces out here, labels-pieces q, so_far-then out here q) (piece_labels_append (so_far out here) (pieces q))

-- bytes and their pieces

one_byte : (b x : ℕ) (bs : List ℕ) {r : List ℕ} → class b ≢ BRACE → class b ≢ BLANK → b ≡ x → r ≡ without_marks OUTSIDE bs
    → x ∷ r ≡ without_marks OUTSIDE (b ∷ bs)
one_byte b x bs h k e g = sym (kept b bs h k ∙ rw (e, ← g))

-- in a row they are the bytes without their marks
pub shows_row : {limit at : ℕ} {bs : List ℕ} {ps : List (Piece ℕ)} → Shows limit at bs ps → in_a_row ps ≡ without_marks OUTSIDE bs
unfolding in_a_row piece_print without_marks
shows_row nothing = refl
shows_row (a_mark {bs = bs} h s) = shows_row s ∙ sym (mark_dropped bs h)
shows_row (an_operator {b = b} {o = o} {bs = bs} c s) =
    one_byte b (letter o) bs (λ z. clash (sym c ∙ z) tt) (λ z. clash (sym c ∙ z) tt) (rw c at (class_byte b)) (shows_row s)
shows_row {limit} (a_token {b = b} {bs = bs} t c n s) =
    append_assoc (open_brace ∷ t) (close_brace ∷ []) _ ∙ rw (shows_row s) (sym (token_kept limit b t bs c n))
shows_row (opens {b = b} {bs = bs} c s) =
    one_byte b open_bracket bs (λ z. clash (sym c ∙ z) tt) (λ z. clash (sym c ∙ z) tt) (rw c at (class_byte b)) (shows_row s)
shows_row (closes {b = b} {bs = bs} c s) =
    one_byte b close_bracket bs (λ z. clash (sym c ∙ z) tt) (λ z. clash (sym c ∙ z) tt) (rw c at (class_byte b)) (shows_row s)

-- their tokens are kept ones
abbrev Fine : (limit : ℕ) → List (Piece ℕ) → Type 0
Fine limit [] = Unit {0}
Fine limit (OP l o ∷ ps) = Fine limit ps
Fine limit (TOKEN l t ∷ ps) = KeptToken limit t × Fine limit ps
Fine limit (BEGIN l ∷ ps) = Fine limit ps
Fine limit (END ∷ ps) = Fine limit ps

fine : {limit at : ℕ} {bs : List ℕ} {ps : List (Piece ℕ)} → Shows limit at bs ps → Fine limit ps
fine nothing = tt
fine (a_mark h s) = fine s
fine (an_operator c s) = fine s
fine (a_token t c n s) = (n, fine s)
fine (opens c s) = fine s
fine (closes c s) = fine s

fine_parts : (limit : ℕ) (p : Plan ℕ) (ps : List (Piece ℕ)) → Fine limit (pieces p ++ ps) → Allowed limit p × Fine limit ps
unfolding pieces
fine_parts limit end ps h = (tt, h)
fine_parts limit (operator l o p) ps h = fine_parts limit p ps h
fine_parts limit (token l t p) ps h = let r = fine_parts limit p ps h.1 in ((h.0, r.0), r.1)
fine_parts limit (block l b p) ps h =
    let r = fine_parts limit b (END ∷ (pieces p ++ ps)) (rw (append_assoc (pieces b) (END ∷ pieces p) ps) at h) in
    let s = fine_parts limit p ps r.1 in
    ((r.0, s.0), s.1)

pub shows_allowed : {limit at : ℕ} {bs : List ℕ} (p : Plan ℕ) → Shows limit at bs (pieces p) → Allowed limit p
shows_allowed {limit} p s = (fine_parts limit p [] (rw (append-nil (pieces p)) (fine s))).0

-- an item that begins with the first byte gives the first label
pub first-start : {limit at b : ℕ} {bs : List ℕ} {ps : List (Piece ℕ)} → Shows limit at (b ∷ bs) ps → Begins (class b) bs → (ls : List ℕ) × (piece_labels ps ≡ at ∷ ls)
unfolding piece_labels
first-start (a_mark h s) g = absurd (mark_begins_none _ h g)
first-start (an_operator c s) g = (_, refl)
first-start (a_token t c n s) g = (_, refl)
first-start (opens c s) g = (_, refl)
first-start (closes c s) g = absurd (rw c at g)
