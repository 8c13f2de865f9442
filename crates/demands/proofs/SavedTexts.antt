-- "A printed plan is at most 64 times its cells, so at most 262,144 bytes: a saved text is never TOOLONG. With the same N it is never
-- OVERFULL." Document 01, about the text that an unrefused RUN saved, given to a service again.
-- Every public law here is a theorem of the demands.
use Prim.Native.Nat.{ℕ, ◌*◌, ◌≤◌}
use mathlib.Core.Path.{◌≡◌, ap}
use mathlib.Core.Logic.{◌≢◌}
use mathlib.Core.List.{List}
use native.Mathlib.Omega.{arith}
use lib.ListN.{length}
use Rattle.kinds.specs.Limits.{cell_limit, standard, text_limit, token_limit}
use Rattle.plan.specs.declared.TextFault.{TextFault}
use Rattle.plan.specs.declared.Unread.{Unread}
use Rattle.plan.specs.Plan.{cells, print}
use Rattle.plan.specs.Refusals.{Fault, Row, bad_byte, bad_text as bad_row, bad_token, first_fault_there, faulty, overfull, too_long, unclosed, unmatched}
use Rattle.answers.specs.declared.RunRefusal.{RunRefusal}
use Rattle.answers.specs.Run.{Refuses, RunAnswer, bad_arena, run_numbers, run_refusal_numbers, text_refused as run_bad_row, text_too_long as run_too_long}
use Rattle.plan.specs.Read.{ReadAnswer}
use Rattle.numbers.specs.Numbers.{fault_number, read_numbers, unread_numbers}
use Rattle.numbers.proofs.Told.{token_fault_range, unread_number_is}
use Rattle.read.specs.Calls.{ReadsOut}
use Rattle.run.specs.Calls.{Runs}
use Rattle.demands.specs.Terms.{OUTSHORT, OVERFULL, Reads, TOOLONG, Unrefused, lent, saved}
use Rattle.demands.proofs.Cases.{EndedRun, ReadCase, RunCase, bad_text, ended, ended-saved, is_read, out_short, read_case, run_case, run_ended}
use Rattle.demands.proofs.Meanings.{ends_sound, reads_not-refused, sound_back, sound_cells, sound_length}
use Rattle.demands.proofs.Numbers.{ending-at_most}

-- 11 is for no fault at a byte, so for no row of the text's bytes, and 18 for no row before the output's
fault_there_number : {at b d : ℕ} {rest : List ℕ} {f : TextFault} → Fault token_limit at b rest d f → fault_number f ≢ TOOLONG
fault_there_number (bad_byte c) e = omega arith
fault_there_number (bad_token {f = t} c first) e = omega (arith, token_fault_range t)
fault_there_number (unmatched c) e = omega arith

row_number : {n : ℕ} {text : List ℕ} {u : Unread} → Row token_limit n text u → (unread_numbers u).number ≢ TOOLONG
row_number (faulty (first_fault_there before rest b split f there)) e = fault_there_number there e
row_number (faulty (unclosed f)) e = omega arith
row_number (overfull before rest b split f i w) e = omega arith

row-not_outshort : {n : ℕ} {text : List ℕ} {x : RunRefusal} → Refuses standard n text x → (run_refusal_numbers x).number ≢ OUTSHORT
row-not_outshort (run_too_long h) e = omega arith
row-not_outshort (bad_arena h g) e = omega arith
row-not_outshort (run_bad_row {u} h g row) e = (unread_number_is u).no_outshort e

module _ {text : List ℕ} {quota : ℕ} {memory out : List ℕ} {r : RunAnswer} {memory' out' : List ℕ}
    (call : Runs text quota memory out r memory' out') where
  -- an output of 64 bytes for each cell lent is always long enough
  pub output_long_enough : token_limit * lent memory ≤ length out → (run_numbers r).number ≢ OUTSHORT
  output_long_enough room = go (run_case call)
    where
      go : {r : RunAnswer} {out' : List ℕ} → RunCase (lent memory) quota text out r out' → (run_numbers r).number ≢ OUTSHORT
      go (bad_text row) e = row-not_outshort row e
      go (out_short g short) e = omega (arith, sound_length (ends_sound g), (sound_cells (ends_sound g)).0)
      go (ended {e = d} g fits) e = omega (arith, ending-at_most d)

  module _ (unrefused : Unrefused (run_numbers r)) where
    run : EndedRun (lent memory) quota text out r out'
    run = run_ended call unrefused

    pub saved-at_most : (length (saved (run_numbers r) out') ≤ token_limit * (run_numbers r).cells) × (length (saved (run_numbers r) out') ≤ token_limit * cell_limit)
    saved-at_most =
        let sound = ends_sound run.ends in
        let told : (run_numbers r).cells ≡ cells run.result = ap (λ (a : RunAnswer). (run_numbers a).cells) run.told in
        let sized : length (saved (run_numbers r) out') ≡ length (print run.result) = ap length (ended-saved run) in (
          omega (arith, sound_length sound),
          omega (arith, sound_length sound, sound_cells sound),
        )

    short : length (saved (run_numbers r) out') ≤ text_limit
    short = omega (arith, saved-at_most.1)

    pub read-of-saved_never_too_long : {s : ReadAnswer} {out₂ out₂' : List ℕ} → ReadsOut (saved (run_numbers r) out') out₂ s out₂' → (read_numbers s).number ≢ TOOLONG
    read-of-saved_never_too_long {out₂ = out₂} again = go (read_case again)
      where
        go : {s : ReadAnswer} {out₂' : List ℕ} → ReadCase (saved (run_numbers r) out') out₂ s out₂' → (read_numbers s).number ≢ TOOLONG
        go (bad_text (too_long long)) e = omega (arith, short)
        go (bad_text (bad_row h row)) e = row_number row e
        go (out_short g h) e = omega arith
        go (is_read g h) e = omega arith

    module _ {quota₂ : ℕ} {memory₂ out₂ : List ℕ} {s : RunAnswer} {memory₂' out₂' : List ℕ}
        (again : Runs (saved (run_numbers r) out') quota₂ memory₂ out₂ s memory₂' out₂') where
      pub run_of-saved_never_too_long : (run_numbers s).number ≢ TOOLONG
      run_of-saved_never_too_long = go (run_case again)
        where
          go : {s : RunAnswer} {out₂' : List ℕ} → RunCase (lent memory₂) quota₂ (saved (run_numbers r) out') out₂ s out₂' → (run_numbers s).number ≢ TOOLONG
          go (bad_text (run_too_long long)) e = omega (arith, short)
          go (bad_text (bad_arena h g)) e = omega arith
          go (bad_text (run_bad_row h g row)) e = row_number row e
          go (out_short g h) e = omega arith
          go (ended {e = d} g h) e = omega (arith, ending-at_most d)

      pub run_of-saved_never_overfull : lent memory₂ ≡ lent memory → (run_numbers s).number ≢ OVERFULL
      run_of-saved_never_overfull same = go (run_case again)
        where
          reads : Reads (lent memory₂) (saved (run_numbers r) out') run.result
          reads = rw (same, ended-saved run) (sound_back (ends_sound run.ends))

          go : {s : RunAnswer} {out₂' : List ℕ} → RunCase (lent memory₂) quota₂ (saved (run_numbers r) out') out₂ s out₂' → (run_numbers s).number ≢ OVERFULL
          go (bad_text g) e = reads_not-refused reads g
          go (out_short g h) e = omega arith
          go (ended {e = d} g h) e = omega (arith, ending-at_most d)
