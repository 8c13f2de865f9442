-- Reading and printing undo one another: what is printed is read back as the same plan, and what is read is printed as
-- the text without its marks.
use Prim.Native.Nat.{ℕ, suc, ◌+◌, ◌*◌, ◌≤◌}
use mathlib.Core.Path.{◌≡◌, refl, ap, ap₂, sym, subst, ◌∙◌}
use mathlib.Core.Logic.{◌↔◌}
use mathlib.Core.List.{List, [], ◌∷◌, ◌++◌, append-nil, append_assoc}
use native.Mathlib.Omega.{arith}
use lib.ListN.{length, length-append}
use borrow.Author.Tests.{le-leb}
use Rattle.plan.specs.Plan.{Plan, end, operator, token, block, ◌then◌, cells, letter, print, relabel, bare, open_bracket, close_bracket, open_brace, close_brace}
use Rattle.plan.specs.Token.{Allowed}
use Rattle.plan.specs.Reading.{ACCEPTED, Around, outermost, inside, move, OUTSIDE, read_from, fit, read, without_marks}
use Rattle.plan.specs.Pieces.{Shows, pieces, placed}
use Rattle.plan.proofs.Classes.{class-letter, class_open, class-close, class_brace}
use Rattle.plan.proofs.Plans.{then_end, then_assoc, cells-relabel, print-relabel}
use Rattle.plan.proofs.Reached.{moved, text-read, token_passed}
use Rattle.plan.proofs.Refusals.{accepted_injective, plan_injective, read_faultless}
use Rattle.plan.proofs.Tokens.{allowed-parts}

module _ {L : Type 0} where
  pub bare-placed : (at : ℕ) (p : Plan L) → bare (placed at p) ≡ bare p
  unfolding placed relabel
  bare-placed at end = refl
  bare-placed at (operator l o p) = ap (operator tt o) (bare-placed (at + 1) p)
  bare-placed at (token l t p) = ap (token tt t) (bare-placed (suc at + suc (length t)) p)
  bare-placed at (block l b p) = rw (bare-placed (at + 1) b, bare-placed (at + 1 + length (print b) + 1) p)

  read-printed : (limit : ℕ) (p : Plan L) → Allowed limit p → (at : ℕ) (out : Around) (here : Plan ℕ) (rest : List ℕ)
      → read_from limit at 0 out here (print p ++ rest) ≡ read_from limit (at + length (print p)) 0 out (here then placed at p) rest
  unfolding placed print ◌then◌ move
  read-printed limit end h at out here rest =
      rw (then_end here) (ap (λ n. read_from limit n 0 out here rest) (omega arith))
  read-printed limit (operator l o p) h at out here rest =
      let after = here then operator at o end in
      moved limit at (letter o) out here out after (λ us. rw (class-letter o)) (print p ++ rest)
      ∙ read-printed limit p h (at + 1) out after rest
      ∙ ap₂ (λ n q. read_from limit n 0 out q rest) (omega arith) (then_assoc here (operator at o end) (placed (at + 1) p))
  read-printed limit (token l t p) h at out here rest =
      let after = here then token at t end in
      let later = suc at + suc (length t) in
      ap (λ us. read_from limit at 0 out here (open_brace ∷ us)) (append_assoc t (close_brace ∷ print p) rest)
      ∙ token_passed limit at open_brace t out here (print p ++ rest) class_brace h.0.fine h.0.own
      ∙ read-printed limit p h.1 later out after rest
      ∙ ap₂ (λ n q. read_from limit n 0 out q rest) (omega (arith, length-append t (close_brace ∷ print p)))
      (then_assoc here (token at t end) (placed later p))
  read-printed limit (block l b p) h at out here rest =
      let inner = placed (at + 1) b in
      let after = here then block at inner end in
      let later = at + 1 + length (print b) in
      ap (λ us. read_from limit at 0 out here (open_bracket ∷ us)) (append_assoc (print b) (close_bracket ∷ print p) rest)
      ∙ moved limit at open_bracket out here (inside at here out) end (λ us. rw class_open) (print b ++ close_bracket ∷ (print p ++ rest))
      ∙ read-printed limit b h.0 (at + 1) (inside at here out) end (close_bracket ∷ (print p ++ rest))
      ∙ moved limit later close_bracket (inside at here out) inner out after (λ us. rw class-close) (print p ++ rest)
      ∙ read-printed limit p h.1 (later + 1) out after rest
      ∙ ap₂ (λ n q. read_from limit n 0 out q rest) (omega (arith, length-append (print b) (close_bracket ∷ print p)))
      (then_assoc here (block at inner end) (placed (later + 1) p))

  pub cells-placed : (at : ℕ) (p : Plan L) → cells (placed at p) ≡ cells p
  cells-placed at p = sym (cells-relabel (λ l. tt) (placed at p)) ∙ ap cells (bare-placed at p) ∙ cells-relabel (λ l. tt) p

  pub print-placed : (at : ℕ) (p : Plan L) → print (placed at p) ≡ print p
  print-placed at p = sym (print-relabel (λ l. tt) (placed at p)) ∙ ap print (bare-placed at p) ∙ print-relabel (λ l. tt) p

  -- reading the printed text of a plan whose tokens are kept ones, so that none starts with `&`, gives the plan back, except for its labels
  pub read-print : (limit n : ℕ) (p : Plan L) → Allowed limit p → cells p ≤ n → read limit n (print p) ≡ ACCEPTED (placed 0 p)
  unfolding read fit ◌then◌ read_from
  read-print limit n p h g =
      let fits : cells (placed 0 p) ≤ n = omega (arith, cells-placed 0 p) in
      ap (λ us. fit n (read_from limit 0 0 outermost end us)) (sym (append-nil (print p)))
      ∙ ap (fit n) (read-printed limit p h 0 outermost end []) ∙ rw (le-leb (cells (placed 0 p)) n fits)

-- equal printed texts, equal plans, labels aside
pub print_injective : {L M : Type 0} (limit : ℕ) (p : Plan L) (q : Plan M) → Allowed limit p → Allowed limit q
    → print p ≡ print q → bare p ≡ bare q
print_injective limit p q hp hq e =
    let n = cells p + cells q in
    let same : placed 0 p ≡ placed 0 q =
    accepted_injective
    (sym (read-print limit n p hp (omega arith)) ∙ ap (read limit n) e ∙ read-print limit n q hq (omega arith)) in
    sym (bare-placed 0 p) ∙ ap bare same ∙ bare-placed 0 q

-- two plans are equal, labels aside, exactly when their printed texts are equal
pub equal_iff_print : {L M : Type 0} (limit : ℕ) (p : Plan L) (q : Plan M) → Allowed limit p → Allowed limit q
    → (bare p ≡ bare q) ↔ (print p ≡ print q)
equal_iff_print limit p q hp hq =
    (λ e. sym (print-relabel (λ l. tt) p) ∙ ap print e ∙ print-relabel (λ l. tt) q, print_injective limit p q hp hq)

-- What is read has kept tokens alone and no more cells than were lent, and is printed as the text without its marks.
pub record Accepted (limit n : ℕ) (text : List ℕ) (p : Plan ℕ) : Type 0 where
  pub fine : Allowed limit p
  pub fits : cells p ≤ n
  pub printed : print p ≡ without_marks OUTSIDE text
  pub shows : Shows limit 0 text (pieces p)

pub read_accepted : (limit n : ℕ) (text : List ℕ) {p : Plan ℕ} → read limit n text ≡ ACCEPTED p → Accepted limit n text p
read_accepted limit n text {p} e =
    let f = read_faultless limit n text e in
    let r = text-read f.0 in
    let same : r.plan ≡ p = plan_injective (sym r.reads ∙ f.2) in
    record {
      fine = subst (Allowed limit) same r.fine;
      fits = f.1;
      printed = ap print (sym same) ∙ r.printed;
      shows = subst (λ q. Shows limit 0 text (pieces q)) same r.shows;
    }

-- The printed text of a plan has no SP, LF or annotation outside tokens: taking them out takes out nothing.
-- a theorem of annotations
pub print_no_marks : {L : Type 0} (limit : ℕ) (p : Plan L) → Allowed limit p → without_marks OUTSIDE (print p) ≡ print p
print_no_marks limit p h =
    sym (read_accepted limit (cells p) (print p) (read-print limit (cells p) p h (omega arith))).printed ∙ print-placed 0 p

-- A token is no longer than its limit and every other cell prints two bytes at most.
pub print-bound : {L : Type 0} (limit : ℕ) (p : Plan L) → 2 ≤ limit → Allowed limit p → length (print p) ≤ limit * cells p
unfolding print cells
print-bound limit end g h = omega arith
print-bound limit (operator l o p) g h = omega (arith, print-bound limit p g h)
print-bound limit (token l t p) g h =
    omega (arith, print-bound limit p g h.1, length-append t (close_brace ∷ print p), allowed-parts limit t h.0.fine)
print-bound limit (block l b p) g h =
    omega (arith, print-bound limit b g h.0, print-bound limit p g h.1, length-append (print b) (close_bracket ∷ print p))
