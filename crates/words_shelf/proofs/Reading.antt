-- That a word's text reads is kept as a test's outcome. It says neither more nor less than that a walk over the text shows its plan.
use Prim.Native.Nat.{ℕ}
use mathlib.Core.Path.{◌≡◌, refl, ap, ◌∙◌}
use mathlib.Core.Bool.{true}
use mathlib.Core.List.{List, []}
use Rattle.kinds.specs.Limits.{standard, token_limit}
use Rattle.kinds.proofs.Tests.{never}
use Rattle.plan.specs.Pieces.{Piece, Shows, nothing, a_mark, an_operator, a_token, opens, closes, pieces}
use Rattle.plan.specs.Plan.{Plan}
use Rattle.plan.specs.Reading.{FAULT, PLAN, Reading, plan_in, plan_of, read_bytes, read_text}
use Rattle.plan.specs.Refusals.{Faultless}
use Rattle.plan.specs.Refusals as faultless
use Rattle.plan.proofs.Accepting.{reads_short, text_short}
use Rattle.plan.proofs.Reached.{text-read}
use Rattle.plan.proofs.Refusals.{plan_faultless}
use Rattle.words_shelf.specs.Shelf.{Readable}
use Rattle.words_shelf.specs.Words.{is_plan}

-- bytes that show no piece are marks alone
no_piece : {limit at : ℕ} {bs : List ℕ} {ps : List (Piece ℕ)} → Shows limit at bs ps → ps ≡ [] → Faultless limit 0 bs 0 0
no_piece nothing e = faultless.nothing
no_piece (a_mark m s) e = faultless.a_mark m (no_piece s e)
no_piece (an_operator c s) e = never cc
no_piece (a_token t c k s) e = never cc
no_piece (opens c s) e = never cc
no_piece (closes c s) e = never cc

module _ (text : List ℕ) where
  pub reads_readable : {p : Plan ℕ} → read_text standard text ≡ PLAN p → Readable text
  unfolding plan_of plan_in
  reads_readable is =
      let (short, read) = reads_short standard text is in
      let r = text-read (plan_faultless token_limit text read) in
      record { short = short; shows = rw (ap plan_in r.reads) r.shows }

  pub plan_readable : is_plan (read_text standard text) ≡ true → Readable text
  unfolding is_plan
  plan_readable h = go (read_text standard text) refl h
    where
      go : (x : Reading) → read_text standard text ≡ x → is_plan x ≡ true → Readable text
      go (PLAN p) is e = reads_readable is
      go (FAULT f) is e = never cc

  pub readable_plan : Readable text → is_plan (read_text standard text) ≡ true
  unfolding is_plan plan_of plan_in pieces
  readable_plan r = ap is_plan (text_short standard text r.short) ∙ go (read_bytes token_limit text) refl
    where
      go : (x : Reading) → read_bytes token_limit text ≡ x → is_plan (read_bytes token_limit text) ≡ true
      go (PLAN p) is = ap is_plan is
      go (FAULT f) is =
          let none : pieces (plan_of token_limit text) ≡ [] = ap (λ x. pieces (plan_in x)) is in
          ap is_plan (text-read (no_piece r.shows none)).reads
