-- What the reader's inner loop knows inside a token: the bytes taken since the `{` are whole characters that a token may hold, and few
-- enough. So each answer of `token_byte` ends the token, or goes on, or is the first fault, which reading refuses.
use Prim.Native.Nat.{ℕ, suc, ◌+◌, ◌-◌, ◌≤◌, ◌<◌}
use mathlib.Core.Path.{◌≡◌, refl, ap, sym, ◌∙◌, subst}
use mathlib.Core.Bool.{Bool, true, false, cond}
use mathlib.Core.Logic.{◌≢◌}
use mathlib.Core.List.{List, [], ◌∷◌, ◌++◌, append_assoc}
use native.Mathlib.Nat.{add-zero}
use native.Mathlib.Numerals.{add-one}
use native.Mathlib.Omega.{arith}
use lib.Dec.{eqb, leb}
use lib.ListN.{length, get_or, take, drop, length-append, length-drop, take-append-drop, drop_of_length-le}
use lib.Seq.{drop-cons, drop-drop, get_or-drop, length-take-le, split_at, take-add, take_at}
use borrow.Author.Tests.{eqb-true, eqb-false, leb-true, leb-false}
use Rattle.kinds.specs.Limits.{token_limit}
use Rattle.kinds.specs.declared.Place.{Place}
use Rattle.std.specs.Prelude.{Option, Some, None, Result, Ok, Err}
use Rattle.plan.specs.Plan.{open_brace, close_brace}
use Rattle.plan.specs.Token.{KeptToken, allowed, annotation, character, may_hold, whole}
use Rattle.plan.specs.TokenFaults.{FirstFault, unheld}
use Rattle.plan.specs.Reading.{an_annotation, class, mark, place, read_bytes, without_marks}
use Rattle.plan.specs.declared.Class.{Class}
use Rattle.plan.specs.declared.Class.TheVariants.{Operator as OPERATOR, Open as OPEN, Close as CLOSE, Brace as BRACE, Blank as BLANK, Bad as BAD}
use Rattle.plan.specs.Refusals.{nothing, a_token, bad_token}
use Rattle.plan.specs.declared.Character.{Character}
use Rattle.plan.specs.declared.TextFault.TheVariants.{BadToken, Unmatched}
use Rattle.plan.specs.declared.TokenFault.{TokenFault}
use Rattle.plan.specs.declared.TokenFault.TheVariants.{Empty, Long, BadUtf8, Forbidden, InnerBrace}
use Rattle.plan.proofs.Marks.{token_kept}
use Rattle.plan.proofs.MayHold.{opening}
use Rattle.plan.proofs.Taken.{Taken, none_yet, scanned_step, scanned_allowed}
use Rattle.plan.proofs.TokenFaults.{ends_first, forbidden_unheld, low_byte, malformed_first, nothing_first, open_unheld, over_first, reaching_first, unheld-first}
use Rattle.kinds.proofs.Tests.{never}
use Rattle.plan.proofs.Tokens.{annotation-of}
use Rattle.plan.proofs.Utf8.{character_width}
use Rattle.text.specs.TokenEnds.{TokenEnds}
use Rattle.reader.specs.Counting.{closed, kept_or_passed, stepped, surveyed}
use Rattle.tokens.specs.InToken.{token_faulty, in_character, in_token}
use Rattle.reader.specs.declared.Count.{Count}
use Rattle.tokens.specs.declared.InToken.{InToken}
use Rattle.tokens.specs.declared.InToken.TheVariants.{Further, Ends}
use Rattle.tokens.specs.declared.FaultyToken.{FaultyToken}
use Rattle.reader.specs.declared.ByteStep.TheVariants.{On, Token}
use Rattle.reader.proofs.SurveySoFar.{SurveySoFar, item_more, mark_more, refused-here, token_is_not_on, token_is_not_stop}

abbrev faulty : TokenFault → Place → Result (Unit {0}) FaultyToken
faulty f p = Err (record { fault = f; at = p })

-- what an answer says of the next byte of the token whose `{` is at `start`
data NextSays (limit start at : ℕ) (text : List ℕ) : InToken → Type 0 where
  text_end : length text ≤ at → NextSays limit start at text (token_faulty Long (length text))
  empty : at < length text → get_or text at 0 ≡ close_brace → at ≡ start + 1 → NextSays limit start at text (token_faulty Empty at)
  ends : at < length text → get_or text at 0 ≡ close_brace → at ≢ start + 1 → NextSays limit start at text (Ends (Ok tt))
  over : at < length text → get_or text at 0 ≢ close_brace → at ≡ start + (limit - 1) → NextSays limit start at text (token_faulty Long at)
  malformed : at < length text → at ≢ start + (limit - 1) → character (drop at text) ≡ None → NextSays limit start at text (token_faulty BadUtf8 at)
  unheld_character : {v w : ℕ} {f : TokenFault} → get_or text at 0 ≢ close_brace → at ≢ start + (limit - 1)
      → character (drop at text) ≡ Some (whole v w) → may_hold v ≡ false → unheld v ≡ f → NextSays limit start at text (token_faulty f at)
  reaching : {v w last : ℕ} → character (drop at text) ≡ Some (whole v w) → may_hold v ≡ true → last ≡ start + (limit - 1) → last ≤ at + (w - 1)
      → NextSays limit start at text (token_faulty Long last)
  further : {v w : ℕ} → character (drop at text) ≡ Some (whole v w) → may_hold v ≡ true → at + (w - 1) < start + (limit - 1)
      → NextSays limit start at text (Further w)

module _ (limit start at : ℕ) (text : List ℕ) where
  said_character : (l : at < length text) → get_or text at 0 ≢ close_brace → at ≢ start + (limit - 1) → (x : Option Character) → character (drop at text) ≡ x
      → NextSays limit start at text (in_character (start + (limit - 1)) at x)
  unfolding in_character
  said_character l c n None e = malformed l n e
  said_character l c n (Some k) e =
      go (eqb k.value open_brace) refl (may_hold k.value) refl (leb (start + (limit - 1)) (at + (k.width - 1))) refl
    where
      other : k.value ≢ close_brace
      other z = c (sym (ap (λ i. get_or text i 0) (add-zero at)) ∙ sym (get_or-drop at text 0 0) ∙ low_byte (drop at text) (omega arith) e ∙ z)

      go : (a : Bool) → eqb k.value open_brace ≡ a → (b : Bool) → may_hold k.value ≡ b → (d : Bool) → leb (start + (limit - 1)) (at + (k.width - 1)) ≡ d
          → NextSays limit start at text (cond a (token_faulty InnerBrace at) (cond b (cond d (token_faulty Long (start + (limit - 1))) (Further k.width)) (token_faulty Forbidden at)))
      go true a b b' d d' =
          let is : k.value ≡ open_brace = eqb-true _ _ a in
          unheld_character c n e (sym (opening k.value is)) (ap unheld is ∙ open_unheld)
      go false a true b true d = reaching e b refl (leb-true _ _ d)
      go false a true b false d = further e b (leb-false _ _ d)
      go false a false b d d' = unheld_character c n e b (sym (forbidden_unheld k.value (eqb-false _ _ a) other))

  said : NextSays limit start at text (in_token limit start at text)
  unfolding in_token
  said = go (leb (length text) at) refl (eqb (get_or text at 0) close_brace) refl (eqb at (start + 1)) refl (eqb at (start + (limit - 1))) refl
    where
      go : (a : Bool) → leb (length text) at ≡ a → (b : Bool) → eqb (get_or text at 0) close_brace ≡ b → (c : Bool) → eqb at (start + 1) ≡ c
          → (d : Bool) → eqb at (start + (limit - 1)) ≡ d
          → NextSays limit start at text (cond a (token_faulty Long (length text)) (cond b (cond c (token_faulty Empty at) (Ends (Ok tt)))
          (cond d (token_faulty Long at) (in_character (start + (limit - 1)) at (character (drop at text))))))
      go true a b b' c c' d d' = text_end (leb-true _ _ a)
      go false a true b true c d d' = empty (leb-false _ _ a) (eqb-true _ _ b) (eqb-true _ _ c)
      go false a true b false c d d' = ends (leb-false _ _ a) (eqb-true _ _ b) (eqb-false _ _ c)
      go false a false b c c' true d = over (leb-false _ _ a) (eqb-false _ _ b) (eqb-true _ _ d)
      go false a false b c c' false d = said_character (leb-false _ _ a) (eqb-false _ _ b) (eqb-false _ _ d) (character (drop at text)) refl

further_injective : {v w : ℕ} → Further v ≡ Further w → v ≡ w
further_injective e = cc

-- the bytes taken since the `{`
abbrev pub part : List ℕ → (at end : ℕ) → List ℕ
part text at end = take (end - at - 1) (drop (suc at) text)

pub record TokenSoFar (text : List ℕ) (room : ℕ) (n : Count) (at end : ℕ) : Type 0 where
  pub survey : SurveySoFar text room n at
  pub starts : at < length text
  pub brace : class (get_or text at 0) ≡ BRACE
  pub ahead : at < end
  pub within : end ≤ length text
  pub scanned : Taken (part text at end)
  pub few : end < at + token_limit

token_by_class : (n : Count) (k : Class) (at room : ℕ) → stepped n k at room ≡ Ok Token → k ≡ BRACE
unfolding stepped
token_by_class n (OPERATOR o) at room e = token_is_not_on (sym e)
token_by_class n OPEN at room e = token_is_not_on (sym e)
token_by_class n CLOSE at room e = go (eqb n.depth 0) e
  where
    go : (t : Bool) → cond t (Err (Unmatched (place at))) (Ok (On (closed n))) ≡ Ok Token → CLOSE ≡ BRACE
    go true e = token_is_not_stop (sym e)
    go false e = token_is_not_on (sym e)
token_by_class n BRACE at room e = refl
token_by_class n BLANK at room e = token_is_not_on (sym e)
token_by_class n BAD at room e = token_is_not_stop (sym e)

pub inside_start : {text : List ℕ} {room at : ℕ} {n : Count} → SurveySoFar text room n at → at < length text
    → Ok Token ≡ stepped n (class (get_or text at 0)) at room → TokenSoFar text room n at (at + 1)
inside_start {text} {room} {at} {n} g h e =
    let none_passed : at + 1 - at - 1 ≡ 0 = omega arith in
    record {
      survey = g;
      starts = h;
      brace = token_by_class n (class (get_or text at 0)) at room (sym e);
      ahead = omega arith;
      within = omega arith;
      scanned = rw none_passed none_yet;
      few = omega arith;
    }

module _ {text : List ℕ} {room at end : ℕ} {n : Count} (i' : TokenSoFar text room n at end) where
  -- what the `{` stands before
  bytes_after : drop (suc at) text ≡ part text at end ++ drop end text
  bytes_after =
      let there : suc at + (end - at - 1) ≡ end = omega (arith, i'.ahead) in
      sym (take-append-drop (end - at - 1) (drop (suc at) text))
      ∙ ap (part text at end ++◌) (drop-drop (end - at - 1) (suc at) text ∙ ap (λ k. drop k text) there)

  longer_part : (w : ℕ) → part text at (end + w) ≡ part text at end ++ take w (drop end text)
  longer_part w =
      let there : suc at + (end - at - 1) ≡ end = omega (arith, i'.ahead) in
      let count : end + w - at - 1 ≡ end - at - 1 + w = omega (arith, i'.ahead) in
      ap (λ k. take k (drop (suc at) text)) count ∙ take-add (end - at - 1) w (drop (suc at) text)
      ∙ ap (λ us. part text at end ++ take w us) (drop-drop (end - at - 1) (suc at) text ∙ ap (λ k. drop k text) there)

  taken : length (part text at end) ≡ end - at - 1
  taken = length-take-le (end - at - 1) (drop (suc at) text) (omega (arith, length-drop (suc at) text, i'.ahead, i'.within))

  -- what comes behind the `{` has a first fault: it is what reading refuses, at its own place
  refused_token : {f g : TokenFault} {k : ℕ} {p : Place} (j : ℕ) → FirstFault token_limit (part text at end ++ drop end text) j f → k ≡ suc at + j
      → token_faulty f k ≡ Ends (faulty g p) → Err (BadToken g p) ≡ surveyed room (read_bytes token_limit text)
  refused_token {f} {g} {k} {p} j first h e =
      let found : record { fault = f; at = place k } ≡ record { fault = g; at = p } = cc in
      ap (λ (t : FaultyToken). Err (BadToken t.fault t.at)) (sym found) ∙ ap (λ q. Err (BadToken f (place q))) h
      ∙ refused-here i'.survey i'.starts (bad_token i'.brace (subst (λ us. FirstFault token_limit us j f) (sym bytes_after) first))

  room_left : length (part text at end) ≤ token_limit - 2
  room_left = omega (arith, taken, i'.few, i'.ahead)

  some_byte : end < length text → 0 < length (drop end text)
  some_byte l = omega (arith, length-drop end text)

  before_last : end ≢ at + (token_limit - 1) → length (part text at end) < token_limit - 2
  before_last z = omega (arith, taken, i'.few, i'.ahead)

  next_byte : get_or (drop end text) 0 0 ≡ get_or text end 0
  next_byte = get_or-drop end text 0 0 ∙ ap (λ k. get_or text k 0) (add-zero end)

  -- the same of a fault at the next byte
  refused-next : {f g : TokenFault} {k : ℕ} {p : Place} → FirstFault token_limit (part text at end ++ drop end text) (length (part text at end)) f
      → k ≡ end → token_faulty f k ≡ Ends (faulty g p) → Err (BadToken g p) ≡ surveyed room (read_bytes token_limit text)
  refused-next first h = refused_token (length (part text at end)) first (omega (arith, h, taken, i'.ahead))

  faults : {a : InToken} {f : TokenFault} {p : Place} → NextSays token_limit at end text a → a ≡ Ends (faulty f p)
      → Err (BadToken f p) ≡ surveyed room (read_bytes token_limit text)
  faults (text_end l) e =
      refused-next (rw (drop_of_length-le text l) (ends_first i'.scanned room_left)) (omega (arith, i'.within)) e
  faults (empty l c z) e =
      let none_passed : end - at - 1 ≡ 0 = omega arith in
      refused_token 0 (rw (none_passed, drop-cons text end 0 l, c) (nothing_first token_limit (drop (suc end) text))) (omega arith) e
  faults (ends l c z) e = never cc
  faults (over l c z) e =
      let full : length (part text at end) ≡ token_limit - 2 = omega (arith, taken) in
      refused-next (over_first i'.scanned room_left (drop end text) full (some_byte l) (λ h. c (sym next_byte ∙ h))) refl e
  faults (malformed l z x) e = refused-next (malformed_first i'.scanned room_left (drop end text) (some_byte l) (before_last z) x) refl e
  faults (unheld_character {v = v} c z x h u) e =
      let other : v ≢ close_brace = λ (is : v ≡ close_brace). c (sym next_byte ∙ low_byte (drop end text) (omega arith) x ∙ is) in
      let first = unheld-first {limit = token_limit} i'.scanned room_left (drop end text) (before_last z) x h other in
      refused-next (rw u at first) refl e
  faults (reaching x h z l) e =
      let wide = character_width (drop end text) x in
      refused_token (token_limit - 2) (reaching_first i'.scanned room_left (drop end text) x h (omega (arith, taken, i'.ahead, wide.0)))
      (omega arith) e
  faults (further x h l) e = never cc

  pub inside_faulty : (t : FaultyToken) → Ends (Err t) ≡ in_token token_limit at end text
      → Err (BadToken t.fault t.at) ≡ surveyed room (read_bytes token_limit text)
  inside_faulty t e = faults (said token_limit at end text) (sym e)

  goes_on : (w : ℕ) {a : InToken} → NextSays token_limit at end text a → a ≡ Further w → (1 ≤ w) × TokenSoFar text room n at (end + w)
  goes_on w (text_end l) e = never cc
  goes_on w (empty l c z) e = never cc
  goes_on w (ends l c z) e = never cc
  goes_on w (over l c z) e = never cc
  goes_on w (malformed l z x) e = never cc
  goes_on w (unheld_character c z x h u) e = never cc
  goes_on w (reaching x h z l) e = never cc
  goes_on w (further {w = w'} x fine l) e =
      let same : w' ≡ w = further_injective e in
      let wide = character_width (drop end text) x in (
        omega (arith, wide.0),
        record {
          survey = i'.survey;
          starts = i'.starts;
          brace = i'.brace;
          ahead = omega (arith, i'.ahead);
          within = omega (arith, wide.1, length-drop end text, i'.within);
          scanned = subst (λ k. Taken (part text at (end + k))) same
              (subst Taken (sym (longer_part w')) (scanned_step (part text at end) (drop end text) i'.scanned x fine));
          few = omega (arith, l, i'.ahead);
        },
      )

  pub inside_further : (w : ℕ) → Further w ≡ in_token token_limit at end text → (1 ≤ w) × TokenSoFar text room n at (end + w)
  inside_further w e = goes_on w (said token_limit at end text) (sym e)

  closing : {a : InToken} → NextSays token_limit at end text a → a ≡ Ends (Ok tt)
      → (end < length text) × (drop end text ≡ close_brace ∷ drop (suc end) text) × (1 ≤ end - at - 1)
  closing (text_end l) e = never cc
  closing (empty l c z) e = never cc
  closing (ends l c z) e =
      (l, drop-cons text end 0 l ∙ ap (◌∷ drop (suc end) text) c, omega (arith, i'.ahead))
  closing (over l c z) e = never cc
  closing (malformed l z x) e = never cc
  closing (unheld_character c z x h u) e = never cc
  closing (reaching x h z l) e = never cc
  closing (further x h l) e = never cc

  -- the token from its `{` to its `}`
  abbrev piece : List ℕ
  piece = get_or text at 0 ∷ (part text at end ++ close_brace ∷ [])

  joined : drop end text ≡ close_brace ∷ drop (suc end) text → take (end + 1) text ≡ take at text ++ piece
  joined e =
      let rest = drop (suc end) text in
      let whole : text ≡ take at text ++ piece ++ rest =
      split_at text at 0 i'.starts
      ∙ ap (λ us. take at text ++ get_or text at 0 ∷ us)
      (bytes_after ∙ ap (part text at end ++◌) e ∙ sym (append_assoc (part text at end) (close_brace ∷ []) rest))
      ∙ sym (append_assoc (take at text) piece rest) in
      ap (take (end + 1)) whole
      ∙ take_at (take at text ++ piece) rest (end + 1)
      (omega (
        arith,
        length-append (take at text) piece,
        length-append (part text at end) (close_brace ∷ []),
        taken,
        i'.ahead,
        length-take-le at text (omega (arith, i'.starts)),
      ))

  -- the bytes behind the `{` tell whether it is an annotation
  told_behind : allowed token_limit (part text at end) ≡ true → annotation (drop (suc at) text) ≡ annotation (part text at end)
  told_behind fine = ap annotation bytes_after ∙ annotation-of token_limit (part text at end) (drop end text) fine

  -- it is passed over, or an item
  whole_token : end < length text → drop end text ≡ close_brace ∷ drop (suc end) text → allowed token_limit (part text at end) ≡ true
      → (is_mark : Bool) → annotation (part text at end) ≡ is_mark → SurveySoFar text room (kept_or_passed is_mark n at room (end + 1 - at)) (end + 1)
  unfolding without_marks
  whole_token inside e fine true h =
      mark_more i'.survey piece (end + 1) (joined e) (omega (arith, i'.ahead)) (omega arith) (get_or text at 0) (part text at end ++ close_brace ∷ []) refl
      (an_annotation (part text at end) i'.brace fine h)
  whole_token inside e fine false h =
      let own_token : KeptToken token_limit (part text at end) = record { fine = fine; own = h } in
      item_more i'.survey piece (end + 1) (joined e) (omega (arith, i'.ahead)) (omega arith) n.depth (end + 1 - at)
      (a_token (part text at end) i'.brace own_token nothing)
      (ap length (token_kept token_limit (get_or text at 0) (part text at end) [] i'.brace own_token)
      ∙ omega (arith, length-append (part text at end) (close_brace ∷ []), taken, i'.ahead))
      (rw i'.brace (told_behind fine ∙ h))

  -- where it stands
  pub inside_ends : Ends (Ok tt) ≡ in_token token_limit at end text → TokenEnds text at end
  inside_ends e =
      record {
        inside = (closing (said token_limit at end text) (sym e)).0;
        ahead = i'.ahead;
        few = omega (arith, i'.few, i'.ahead);
        short = i'.survey.short;
      }

  pub inside_close : (m : Count) → Ends (Ok tt) ≡ in_token token_limit at end text
      → m ≡ kept_or_passed (mark (class (get_or text at 0)) (drop (at + 1) text)) n at room (end + 1 - at)
      → SurveySoFar text room m (end + 1)
  unfolding mark
  inside_close m e h =
      let c = closing (said token_limit at end text) (sym e) in
      let fine = scanned_allowed token_limit (part text at end) i'.scanned (omega (arith, taken, c.2)) (omega (arith, taken, i'.few, i'.ahead)) in
      let told : mark (class (get_or text at 0)) (drop (at + 1) text) ≡ annotation (part text at end) =
      rw (i'.brace, add-one at) (told_behind fine) in
      subst (λ x. SurveySoFar text room x (end + 1)) (sym (h ∙ ap (λ s. kept_or_passed s n at room (end + 1 - at)) told)) (whole_token c.0 c.1 fine _ refl)
