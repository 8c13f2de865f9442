-- A turn of the loop that writes a text's pieces in a row: what stands in the output and what the pieces to come print make up the whole.
use Prim.Native.Nat.{ℕ, ◌+◌, ◌≤◌}
use mathlib.Core.Path.{◌≡◌, ap, sym, ◌∙◌, subst}
use mathlib.Core.List.{List, [], ◌++◌, append_assoc, append-nil}
use native.Mathlib.Omega.{arith}
use native.Mathlib.Nat.{add-zero}
use lib.ListN.{length, length-append}
use Rattle.kinds.specs.Limits.{token_limit}
use Rattle.plan.specs.Plan.{Plan, print}
use Rattle.plan.specs.Pieces.{Shows, in_a_row, piece_print, pieces}
use Rattle.plan.specs.Reading.{OUTSIDE, without_marks}
use Rattle.plan.proofs.Pieces.{print-pieces, shows_row}
use Rattle.kinds.specs.Written.{put_at}
use Rattle.pieces.specs.Written.{piece_bytes, piece_length, InText}
use Rattle.pieces.specs.declared.Piece.{Piece as CodePiece}
use Rattle.pieces.proofs.Pieces.{is_in_text, is_printed, length-piece}
use Rattle.kinds.proofs.Putting.{put_long, put_nothing, put_on}
use Rattle.items.specs.Walk.{ShowsAhead, Passed, Tidyable}
use Rattle.items.proofs.Walking.{passed_ahead}

pub record Tidying (text out₀ : List ℕ) (from : ℕ) (out : List ℕ) (at put : ℕ) : Type 0 where
  pub ahead : ShowsAhead text at
  pub gone : List ℕ
  pub whole : without_marks OUTSIDE text ≡ gone ++ in_a_row ahead.come
  pub room : from + length (without_marks OUTSIDE text) ≤ length out₀
  pub put_at_end : put ≡ from + length gone
  pub holds : out ≡ put_at out₀ from gone

pub tidy_first : {text out : List ℕ} {from : ℕ} → Tidyable text out from → Tidying text out from out 0 from
tidy_first {text} {out} {from} t =
    record {
      ahead = record { short = t.short; come = pieces t.plan; shows = t.shows };
      gone = [];
      whole = sym (shows_row t.shows);
      room = subst (λ l. from + length l ≤ length out) (print-pieces t.plan ∙ shows_row t.shows) t.room;
      put_at_end = sym (add-zero from);
      holds = sym (put_nothing out from);
    }

module _ {text out₀ : List ℕ} {from : ℕ} {out : List ℕ} {at put : ℕ} (inv : Tidying text out₀ from out at put) where
  so_far : from + length inv.gone ≤ length out₀
  so_far = omega (arith, inv.room, ap length inv.whole, length-append inv.gone (in_a_row inv.ahead.come))

  pub tidy_long : length out ≡ length out₀
  tidy_long = ap length inv.holds ∙ put_long out₀ from inv.gone so_far

  -- the whole is written, of every plan whose pieces the text shows
  pub tidy_last : inv.ahead.come ≡ [] → (p : Plan ℕ) → Shows token_limit 0 text (pieces p) → out ≡ put_at out₀ from (print p)
  unfolding in_a_row
  tidy_last none p s =
      let all : print p ≡ inv.gone = print-pieces p ∙ shows_row s ∙ inv.whole ∙ ap (λ ps. inv.gone ++ in_a_row ps) none ∙ append-nil inv.gone in
      inv.holds ∙ ap (put_at out₀ from) (sym all)

  -- the next piece
  module _ (k : CodePiece) (place rest : ℕ) (passed : Passed text at k place rest inv.ahead.come) where
    pub tidy_in_text : InText text k
    tidy_in_text = is_in_text passed.is

    bytes : List ℕ
    bytes = piece_print passed.first

    parts : without_marks OUTSIDE text ≡ (inv.gone ++ bytes) ++ in_a_row passed.later
    unfolding in_a_row bytes
    parts = inv.whole ∙ ap (λ ps. inv.gone ++ in_a_row ps) passed.parts ∙ sym (append_assoc inv.gone bytes (in_a_row passed.later))

    long : length bytes ≡ piece_length k
    unfolding bytes
    long = ap length (sym (is_printed passed.is)) ∙ length-piece text k tidy_in_text

    pub tidy_room : put + piece_length k ≤ length out
    tidy_room =
        omega (
          arith,
          long,
          inv.room,
          inv.put_at_end,
          tidy_long,
          ap length parts,
          length-append (inv.gone ++ bytes) (in_a_row passed.later),
          length-append inv.gone bytes,
        )

    pub tidy_on : (out' : List ℕ) → out' ≡ put_at out put (piece_bytes text k) → (len : ℕ) → len ≡ piece_length k → Tidying text out₀ from out' rest (put + len)
    unfolding bytes
    tidy_on out' e len is =
        record {
          ahead = passed_ahead inv.ahead passed;
          gone = inv.gone ++ bytes;
          whole = parts;
          room = inv.room;
          put_at_end = omega (arith, long, inv.put_at_end, is, length-append inv.gone bytes);
          holds = e ∙ rw (inv.holds, inv.put_at_end, is_printed passed.is) (put_on out₀ from inv.gone so_far bytes);
        }
