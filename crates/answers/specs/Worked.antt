-- The worked plans. First come P1 to P12 of document 01, "Plans to try". Then come rows that tell apart the feared slips which P1 to P12
-- do not: FULL at quota 0, P11 at quota 2, and the places of 16 and 17. Then come annotations, request 2 of document 02.
-- WorkedTokens.antt has the rows of tokens.
use Rattle.std.specs.Prelude.{ℕ, ◌*◌, ◌-◌, List, [], ◌∷◌, ◌++◌, length, drop, replicate}
use Prim.Native.String.{String}
use Rattle.kinds.specs.Limits.{cell_limit, cell_numbers, standard}
use Rattle.numbers.specs.declared.Numbers.{Numbers}
use Rattle.numbers.specs.Rows.{Told, bytes, five}
use Rattle.plan.specs.Outcomes.{write}
use Rattle.plan.specs.Plan.{open_bracket, close_bracket}
use Rattle.answers.specs.Run.{quarter, run_family, run_numbers, run_outcome}

pub record WorkedRow : Type 0 where
  pub text : List ℕ
  pub quota : ℕ
  pub cells : ℕ
  pub numbers : Numbers
  pub printed : List ℕ

-- a text, the quota, the cells lent; number, steps, cells, length and place; the printed text
abbrev pub row : String → (quota cells number steps resulting length place : ℕ) → String → WorkedRow
row text quota cells number steps resulting length place printed =
    record {
      text = bytes text;
      quota = quota;
      cells = cells;
      numbers = five number steps resulting length place;
      printed = bytes printed;
    }

-- a plan of 4,096 cells, blocks in blocks with a d behind them, and an annotation behind that
abbrev full_and_annotated : WorkedRow
full_and_annotated =
    record {
      text = replicate (cell_limit - 1) open_bracket ++ replicate (cell_limit - 1) close_bracket ++ bytes "d{&}";
      quota = 100;
      cells = cell_limit;
      numbers = five 0 1 0 0 0;
      printed = [];
    }

unfoldable pub worked : List WorkedRow
worked =
    row "" 100 0 0 0 0 0 0 "" ∷
    row "[{x}][{y}]a" 100 cell_limit 0 1 3 8 0 "{y}[{x}]" ∷
    row "[{x}][{y}]b" 100 cell_limit 0 1 4 10 0 "[[{x}]{y}]" ∷
    row "[{x}]c" 100 cell_limit 0 1 4 10 0 "[{x}][{x}]" ∷
    row "[{x}]d" 100 cell_limit 0 1 0 0 0 "" ∷
    row "[{x}][{y}][]ba" 100 cell_limit 0 2 4 10 0 "[{y}][{x}]" ∷
    row "[{x}][{y}][]ba" 1 cell_limit 1 1 6 13 0 "[{x}][[{y}]]a" ∷
    row "[{x}][][]baad" 100 cell_limit 0 4 1 3 0 "{x}" ∷
    row "[{x}]{y}d" 100 cell_limit 0 0 4 9 0 "[{x}]{y}d" ∷
    row "[[]d]d" 100 cell_limit 0 1 0 0 0 "" ∷
    row "[[]d]c" 100 cell_limit 0 3 2 4 0 "[][]" ∷
    row "[c[][]baad]c[][]baad" 100 22 2 4 17 23 0 "[c[][]baad]c[][]baad[]d" ∷
    row "[c[][]baad]c[][]baad" 0 21 2 0 15 20 0 "[c[][]baad]c[][]baad" ∷
    row "[[]d]c" 2 cell_limit 1 2 4 7 0 "[][[]d]" ∷
    row "[[]" 100 cell_limit 16 0 0 0 3 "" ∷
    row "[c[][]baad]c[][]baad" 100 14 17 0 0 0 19 "" ∷
    row "[{x}][{y}]{&jit}a" 100 cell_limit 0 1 3 8 0 "{y}[{x}]" ∷
    row "{&}" 100 0 0 0 0 0 0 "" ∷
    row "{&a} {&}{&b c}" 100 0 0 0 0 0 0 "" ∷
    row "[{%p}[{x}]{&}[{y}]{&jit}{&a}a]" 100 cell_limit 0 1 5 14 0 "[{%p}{y}[{x}]]" ∷
    row "[]{x&}d" 100 cell_limit 0 0 3 7 0 "[]{x&}d" ∷
    row "{&{}" 100 cell_limit 25 0 0 0 2 "" ∷
    row "[]{&x" 100 cell_limit 22 0 0 0 5 "" ∷
    row "{x}{&y}{z}" 100 1 17 0 0 0 7 "" ∷
    full_and_annotated ∷ []

-- outputs are 70 bytes that each held 7
unfoldable pub sheet : List ℕ
sheet = replicate 70 7

unfoldable pub run_told : WorkedRow → Told
run_told r =
    let w = write run_family (run_outcome standard (quarter (cell_numbers * r.cells)) r.quota r.text) sheet in
    record { says = run_numbers w.answer; holds = w.output }

unfoldable pub run_expected : WorkedRow → Told
run_expected r = record { says = r.numbers; holds = r.printed ++ drop (length r.printed) sheet }
