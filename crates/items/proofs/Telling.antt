-- What the class of a byte tells, where no mark begins: of the pieces that the text shows from there on, and of the piece that begins there.
use Prim.Native.Nat.{ℕ, ◌+◌, ◌≤◌}
use mathlib.Core.Path.{◌≡◌, refl, ap, sym, ◌∙◌, subst}
use mathlib.Core.Bool.{false}
use mathlib.Core.List.{List, [], ◌∷◌, ◌++◌, append_assoc}
use native.Mathlib.Omega.{arith}
use lib.ListN.{length, get_or, take, drop, length-append, length-drop}
use lib.Seq.{drop_at, drop-drop, take_at}
use Rattle.kinds.specs.Limits.{token_limit}
use Rattle.plan.specs.Plan.{close_brace, open_brace}
use Rattle.plan.specs.Pieces.{Found, Piece as PlanPiece, OP, TOKEN, BEGIN, END, Shows, a_mark, an_operator, a_token, opens, closes, piece_print}
use Rattle.plan.specs.Reading.{Byte, class, mark}
use Rattle.plan.specs.declared.Class.{Class}
use Rattle.plan.specs.declared.Class.TheVariants.{Operator as OPERATOR, Open as OPEN, Close as CLOSE, Brace as BRACE, Blank as BLANK, Bad as BAD}
use Rattle.plan.specs.declared.Operator.{Operator}
use Rattle.plan.proofs.Classes.{class_byte}
use Rattle.plan.proofs.Marks.{mark_told}
use Rattle.kinds.proofs.Tests.{false_is_not_true}
use Rattle.plan.proofs.Tokens.{allowed-parts}
use Rattle.text.specs.TokenEnds.{TokenEnds}
use Rattle.pieces.specs.Written.{Is, is_operator, is_token, is_open, is_close, TokenAt}
use Rattle.pieces.specs.declared.Piece.{Piece as CodePiece}
use Rattle.pieces.specs.declared.Piece.TheVariants.{Operator as an_op, Open, Close}
use Rattle.items.specs.Walk.{Begins, LabelledAt, Passed, PieceFrom, TokenFrom, at_place, one_token}
use Rattle.items.specs.declared.Placed.{Placed}
use Rattle.items.proofs.Passing.{byte_first}

-- the first piece is x, of one byte
abbrev FirstPiece : (at : ℕ) → PlanPiece ℕ → List ℕ → List (PlanPiece ℕ) → Type 0
FirstPiece at x bs ps = (later : List (PlanPiece ℕ)) × (ps ≡ x ∷ later) × Shows token_limit (at + 1) bs later

-- by the class of the byte at the place, with the bytes bs behind it
abbrev ToldByClass : Class → (at : ℕ) → List ℕ → List (PlanPiece ℕ) → Type 0
ToldByClass (OPERATOR o) at bs ps = FirstPiece at (OP at o) bs ps
ToldByClass OPEN at bs ps = FirstPiece at (BEGIN at) bs ps
ToldByClass CLOSE at bs ps = FirstPiece at END bs ps
ToldByClass BRACE at bs ps =
    (t : List ℕ) × (f : Found token_limit bs t) × (later : List (PlanPiece ℕ)) × (ps ≡ TOKEN at t ∷ later) × Shows token_limit (at + (length t + 2)) f.rest later
ToldByClass BLANK at bs ps = ⊥
ToldByClass BAD at bs ps = ⊥

told : {at b : ℕ} {bs : List ℕ} {ps : List (PlanPiece ℕ)} → Shows token_limit at (b ∷ bs) ps → mark (class b) bs ≡ false → ToldByClass (class b) at bs ps
told (a_mark {bs = bs} h s) no_mark = false_is_not_true (sym no_mark ∙ mark_told bs h)
told (an_operator c s) no_mark = rw c (_, refl, s)
told (a_token t c n s) no_mark = rw c (t, record { rest = _; splits = refl; fine = n.fine }, _, refl, s)
told (opens c s) no_mark = rw c (_, refl, s)
told (closes c s) no_mark = rw c (_, refl, s)

-- the place of the token's end, as `token_end` finds it
pub token_ends : {text : List ℕ} {at fin : ℕ} → TokenFrom text at → ((t : List ℕ) → Found token_limit (drop (at + 1) text) t → fin ≡ at + 1 + length t)
    → TokenEnds text at fin
token_ends {text} {at} f ends =
    let there = ends f.t f.found in
    let fine = allowed-parts token_limit f.t f.found.fine in
    record {
      inside = omega (arith, there, ap length f.found.splits, length-append f.t (close_brace ∷ f.found.rest), length-drop (at + 1) text);
      ahead = omega (arith, there);
      few = omega (arith, there, fine.1);
      short = f.short;
    }

module _ {text : List ℕ} {at : ℕ} (p : PieceFrom text at) where
  abbrev b : ℕ
  b = get_or text at 0

  onward : drop at text ≡ b ∷ drop (at + 1) text
  onward = byte_first text at p.inside

  module _ {k : Class} (e : k ≡ class b) where
    here : (c : Class) → k ≡ c → {ps : List (PlanPiece ℕ)} → Shows token_limit at (drop at text) ps → ToldByClass c at (drop (at + 1) text) ps
    here c h {ps} s =
        subst (λ x. ToldByClass x at (drop (at + 1) text) ps) (sym e ∙ h) (told (subst (λ us. Shows token_limit at us ps) onward s) p.no_mark)

    byte : (c : Class) → k ≡ c → Byte c b
    byte c h = subst (λ x. Byte x b) (sym e ∙ h) (class_byte b)

    pub no_blank : k ≡ BLANK → ⊥
    no_blank h = here BLANK h p.ahead.shows

    pub no_bad : k ≡ BAD → ⊥
    no_bad h = here BAD h p.ahead.shows

    -- a piece of one byte
    one_passed : (j : CodePiece) (x : PlanPiece ℕ) {ps : List (PlanPiece ℕ)} → Is text j x → LabelledAt at x → piece_print x ≡ b ∷ []
        → FirstPiece at x (drop (at + 1) text) ps → Passed text at j at (at + 1) ps
    one_passed j x is placed prints f =
        record {
          first = x;
          later = f.0;
          parts = f.1;
          is = is;
          placed = placed;
          prints = onward ∙ ap (◌++ drop (at + 1) text) (sym prints);
          shows = f.2;
          ahead = omega arith;
          within = omega (arith, p.inside);
        }

    module _ (r : Placed) where
      pub pass_operator : (o : Operator) → k ≡ OPERATOR o → r ≡ at_place (an_op o) at
          → (ps : List (PlanPiece ℕ)) → Shows token_limit at (drop at text) ps → Begins text at r ps
      unfolding piece_print
      pass_operator o h is ps s =
          rw is (one_passed (an_op o) (OP at o) is_operator refl (ap (◌∷ []) (sym (byte (OPERATOR o) h))) (here (OPERATOR o) h s))

      pub pass_open : k ≡ OPEN → r ≡ at_place Open at → (ps : List (PlanPiece ℕ)) → Shows token_limit at (drop at text) ps → Begins text at r ps
      unfolding piece_print
      pass_open h is ps s = rw is (one_passed Open (BEGIN at) is_open refl (ap (◌∷ []) (sym (byte OPEN h))) (here OPEN h s))

      pub pass_close : k ≡ CLOSE → r ≡ at_place Close at → (ps : List (PlanPiece ℕ)) → Shows token_limit at (drop at text) ps → Begins text at r ps
      unfolding piece_print
      pass_close h is ps s = rw is (one_passed Close END is_close tt (ap (◌∷ []) (sym (byte CLOSE h))) (here CLOSE h s))

    pub token_from : k ≡ BRACE → TokenFrom text at
    token_from h = let t = here BRACE h p.ahead.shows in record { short = p.ahead.short; inside = p.inside; t = t.0; found = t.1 }

    -- the token that the `{` opens
    module _ (h : k ≡ BRACE) (t : List ℕ) (f : Found token_limit (drop (at + 1) text) t) where
      abbrev whole : List ℕ
      whole = open_brace ∷ (t ++ close_brace ∷ [])

      long : length whole ≡ length t + 2
      long = omega (arith, length-append t (close_brace ∷ []))

      parts : drop at text ≡ whole ++ f.rest
      parts = onward ∙ rw (byte BRACE h, f.splits) (ap (open_brace ∷◌) (sym (append_assoc t (close_brace ∷ []) f.rest)))

      behind : drop (at + (length t + 2)) text ≡ f.rest
      behind = sym (drop-drop (length t + 2) at text) ∙ ap (drop (length t + 2)) parts ∙ drop_at whole f.rest (length t + 2) long

      inside_text : at + (length t + 2) ≤ length text
      inside_text = omega (arith, long, ap length parts, length-append whole f.rest, length-drop at text)

      token_there : TokenAt text at (length t + 2) t
      token_there = (inside_text, ap (take (length t + 2)) parts ∙ take_at whole f.rest (length t + 2) long)

    pub pass_token : (r : Placed) → k ≡ BRACE → ((t : List ℕ) → Found token_limit (drop (at + 1) text) t → r ≡ one_token at t)
        → (ps : List (PlanPiece ℕ)) → Shows token_limit at (drop at text) ps → Begins text at r ps
    unfolding piece_print
    pass_token r h is ps s =
        let (t, f, later, first, shows) = here BRACE h s in
        rw (is t f) record {
          first = TOKEN at t;
          later = later;
          parts = first;
          is = is_token (token_there h t f);
          placed = refl;
          prints = parts h t f ∙ ap (whole h t f ++◌) (sym (behind h t f));
          shows = rw (behind h t f) shows;
          ahead = omega arith;
          within = inside_text h t f;
        }
