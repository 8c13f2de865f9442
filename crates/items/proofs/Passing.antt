-- Marks are passed over. Where a mark begins, the text shows the same pieces as behind it. The mark's bytes tell where it ends.
use Prim.Native.Nat.{ℕ, suc, ◌+◌, ◌-◌, ◌≤◌, ◌<◌}
use mathlib.Core.Path.{◌≡◌, refl, ap, sym, ◌∙◌, subst}
use mathlib.Core.Logic.{◌≢◌}
use mathlib.Core.Bool.{Bool, true, false}
use mathlib.Core.List.{List, [], ◌∷◌, ◌++◌, append_assoc}
use native.Mathlib.Omega.{arith}
use native.Mathlib.Numerals.{add-one}
use lib.ListN.{length, get_or, drop, length-append, drop_of_length-le}
use lib.Seq.{drop_at, drop-cons, drop-drop}
use Rattle.kinds.specs.Limits.{token_limit}
use Rattle.plan.specs.Plan.{close_brace, open_brace}
use Rattle.plan.specs.Pieces.{Found, Piece as PlanPiece, Shows, nothing, a_mark, an_operator, a_token, opens, closes}
use Rattle.plan.specs.Reading.{Mark, blank, an_annotation, class, mark}
use Rattle.plan.proofs.Classes.{class_brace, class_byte, clash}
use Rattle.kinds.proofs.Tests.{false_is_not_true}
use Rattle.plan.proofs.Tokens.{annotation-of}
use Rattle.items.specs.Walk.{Begins, MarkAt, MarkFrom, PieceFrom, ShowsAhead, TokenFrom}
use Rattle.items.specs.declared.Placed.{Placed}

-- a `{` begins an annotation, whose text ends before the mark's last byte
opened : {text : List ℕ} {at : ℕ} {m : List ℕ} → get_or text at 0 ≡ open_brace → MarkAt text at m
    → (t : List ℕ) × Found token_limit (drop (at + 1) text) t × (length m ≡ length t + 1)
opened {text} {at} e f = go f.is f.splits
  where
    go : {m : List ℕ} → Mark token_limit (get_or text at 0) m → drop (at + 1) text ≡ m ++ f.rest
        → (t : List ℕ) × Found token_limit (drop (at + 1) text) t × (length m ≡ length t + 1)
    go (blank c) s = absurd (clash (sym c ∙ ap class e ∙ class_brace) tt)
    go (an_annotation t c a g) s =
        (t, record { rest = f.rest; splits = s ∙ append_assoc t (close_brace ∷ []) f.rest; fine = a }, length-append t (close_brace ∷ []))

pub mark_opens : {text : List ℕ} {at : ℕ} → MarkFrom text at → get_or text at 0 ≡ open_brace → TokenFrom text at
mark_opens f e = let o = opened e f.found in record { short = f.short; inside = f.inside; t = o.0; found = o.1 }

pub mark_braces : {text : List ℕ} {at fin : ℕ} → get_or text at 0 ≡ open_brace
    → ((t : List ℕ) → Found token_limit (drop (at + 1) text) t → fin ≡ at + 1 + length t)
    → (m : List ℕ) → MarkAt text at m → fin + 1 ≡ at + suc (length m)
mark_braces e ends m f = let o = opened e f in omega (arith, ends o.0 o.1, o.2)

-- any other byte is a blank
pub mark_byte : {text : List ℕ} {at : ℕ} → get_or text at 0 ≢ open_brace → (m : List ℕ) → MarkAt text at m → at + 1 ≡ at + suc (length m)
mark_byte {text} {at} e m f = go f.is
  where
    go : {m : List ℕ} → Mark token_limit (get_or text at 0) m → at + 1 ≡ at + suc (length m)
    go (blank c) = refl
    go (an_annotation t c a g) = absurd (e (rw c at (class_byte (get_or text at 0))))

-- the mark that bytes begin with, where they show pieces
record Marked (at b : ℕ) (bs : List ℕ) (ps : List (PlanPiece ℕ)) : Type 0 where
  m : List ℕ
  rest : List ℕ
  splits : bs ≡ m ++ rest
  is : Mark token_limit b m
  shows : Shows token_limit (at + suc (length m)) rest ps

marked : {at b : ℕ} {bs : List ℕ} {ps : List (PlanPiece ℕ)} → Shows token_limit at (b ∷ bs) ps → mark (class b) bs ≡ true → Marked at b bs ps
unfolding mark
marked (a_mark h s) is = record { m = _; rest = _; splits = refl; is = h; shows = s }
marked (an_operator c s) is = false_is_not_true (rw c at is)
marked (a_token {bs = bs} t c n s) is =
    false_is_not_true (sym (annotation-of token_limit t (close_brace ∷ bs) n.fine ∙ n.own) ∙ (rw c at is))
marked (opens c s) is = false_is_not_true (rw c at is)
marked (closes c s) is = false_is_not_true (rw c at is)

-- what the walk knows where it stands, behind the marks that it passed
pub record WalkSoFar (text : List ℕ) (from at : ℕ) : Type 0 where
  pub began : ShowsAhead text from
  pub low : from ≤ at
  pub still : (ps : List (PlanPiece ℕ)) → Shows token_limit from (drop from text) ps → Shows token_limit at (drop at text) ps

pub passing_first : {text : List ℕ} {from : ℕ} → ShowsAhead text from → WalkSoFar text from from
passing_first a = record { began = a; low = omega arith; still = λ ps s. s }

-- the pieces that were ahead where it began
ahead : {text : List ℕ} {from at : ℕ} → WalkSoFar text from at → ShowsAhead text at
ahead p = let a = p.began in record { short = a.short; come = a.come; shows = p.still a.come a.shows }

-- the byte at a place, and those behind it
pub byte_first : (text : List ℕ) (at : ℕ) → at < length text → drop at text ≡ get_or text at 0 ∷ drop (at + 1) text
byte_first text at inside = drop-cons text at 0 inside ∙ rw add-one refl

module _ {text : List ℕ} {from at : ℕ} (p : WalkSoFar text from at) (inside : at < length text) where
  -- what the code found, s, says that a mark begins here
  module _ {s : Bool} (told : s ≡ mark (class (get_or text at 0)) (drop (at + 1) text)) (is : s ≡ true) where
    here : {ps : List (PlanPiece ℕ)} → Shows token_limit at (drop at text) ps → Marked at (get_or text at 0) (drop (at + 1) text) ps
    here {ps} s = marked (subst (λ us. Shows token_limit at us ps) (byte_first text at inside) s) (sym told ∙ is)

    stands : {ps : List (PlanPiece ℕ)} (k : Marked at (get_or text at 0) (drop (at + 1) text) ps) → MarkAt text at k.m
    stands k = record { rest = k.rest; splits = k.splits; is = k.is }

    pub mark_from : MarkFrom text at
    mark_from = let k = here (ahead p).shows in record { short = p.began.short; inside = inside; m = k.m; found = stands k }

    module _ (fin : ℕ) (ends : (m : List ℕ) → MarkAt text at m → fin ≡ at + suc (length m)) where
      behind : {ps : List (PlanPiece ℕ)} → Shows token_limit at (drop at text) ps → Shows token_limit fin (drop fin text) ps
      behind {ps} s =
          let k = here s in
          let there = ends k.m (stands k) in
          let far : fin ≡ at + 1 + length k.m = omega arith in
          let later : drop fin text ≡ k.rest =
          ap (λ n. drop n text) far ∙ sym (drop-drop (length k.m) (at + 1) text) ∙ ap (drop (length k.m)) k.splits
          ∙ drop_at k.m k.rest (length k.m) refl in
          rw (later, there) k.shows

      pub mark_less : length text - fin < length text - at
      mark_less = let k = here (ahead p).shows in omega (arith, ends k.m (stands k))

      pub mark_passed : WalkSoFar text from fin
      mark_passed = record { began = p.began; low = omega (arith, p.low, mark_less); still = λ ps s. behind (p.still ps s) }

-- the piece behind the marks is the walk's
later : (text : List ℕ) (from at : ℕ) → from ≤ at → (k : Placed) (ps : List (PlanPiece ℕ)) → Begins text at k ps → Begins text from k ps
later text from at low k ps w =
    record {
      first = w.first;
      later = w.later;
      parts = w.parts;
      is = w.is;
      placed = w.placed;
      prints = w.prints;
      shows = w.shows;
      ahead = omega (arith, w.ahead);
      within = w.within;
    }

pub piece_from : {text : List ℕ} {from at : ℕ} → WalkSoFar text from at → at < length text → {s : Bool} → s ≡ mark (class (get_or text at 0)) (drop (at + 1) text)
    → s ≡ false → PieceFrom text at
piece_from p inside e h = record { ahead = ahead p; inside = inside; no_mark = sym e ∙ h }

pub pass_piece : {text : List ℕ} {from at : ℕ} → WalkSoFar text from at → (k : Placed)
    → ((ps : List (PlanPiece ℕ)) → Shows token_limit at (drop at text) ps → Begins text at k ps)
    → (ps : List (PlanPiece ℕ)) → Shows token_limit from (drop from text) ps → Begins text from k ps
pass_piece {text} {from} {at} p k w ps s = later text from at p.low k ps (w ps (p.still ps s))

none_left : {at : ℕ} {ps : List (PlanPiece ℕ)} → Shows token_limit at [] ps → ps ≡ []
none_left nothing = refl

-- behind the last byte
pub pass_end : {text : List ℕ} {from at : ℕ} → WalkSoFar text from at → length text ≤ at → (ps : List (PlanPiece ℕ)) → Shows token_limit from (drop from text) ps
    → ps ≡ []
pass_end {text} {from} {at} p past ps s = none_left (subst (λ us. Shows token_limit at us ps) (drop_of_length-le text past) (p.still ps s))
