-- The worked plans and tokens hold of the definitions, from the bytes of the text to the five numbers and every byte of the output.
use mathlib.Core.Path.{◌≡◌, refl}
use mathlib.Core.List.{[], ◌∷◌, map}
use lib.ListN.{replicate}
use Rattle.kinds.specs.Limits.{token_limit}
use Rattle.plan.specs.declared.TokenFault.TheVariants.{Empty, Long, BadUtf8, Forbidden, InnerBrace}
use Rattle.plan.specs.TokenFaults.{FirstFault}
use Rattle.plan.specs.Reading.{OUTSIDE, enter, leave, without_marks}
use Rattle.answers.specs.Run.{as_run, run_read, run_outcome}
use Rattle.answers.specs.Worked.{run_told, run_expected, sheet, worked}
use Rattle.numbers.specs.Rows.{bytes}
use Rattle.answers.specs.WorkedTokens.{worked_tokens}
use Rattle.plan.proofs.TokenFaults.{first-met}
use Rattle.plan.proofs.Worked.{read_answer, reading}
use Rattle.rules.proofs.Worked.{running}

unfoldable pub worked_plans : map run_told worked ≡ map run_expected worked
unfolding running read_answer run_outcome run_read as_run run_told run_expected sheet worked bytes
worked_plans = refl

-- a theorem of tokens' faults
pub worked_token_faults : map run_told worked_tokens ≡ map run_expected worked_tokens
unfolding worked_plans worked_tokens
worked_token_faults = refl

-- Of a text SP, LF and annotations outside tokens are taken out, and nothing else.
-- a theorem of annotations
pub worked_marks : without_marks OUTSIDE (bytes "{&} [{x y}{&jit}\n]{y&}{&a b}{%&}") ≡ bytes "[{x y}]{y&}{%&}"
unfolding reading without_marks enter leave bytes
worked_marks = refl

-- No row of the table of faults is empty: a token of which each is the first. The text's end, and a byte that is too many, are both 22.
-- a theorem of tokens' faults
pub each_fault_stands :
    FirstFault token_limit (bytes "}") 0 Empty × FirstFault token_limit (bytes "x") 1 Long × FirstFault token_limit (replicate 63 0x78) 62 Long
    × FirstFault token_limit (0x78 ∷ 0xC3 ∷ 0x7D ∷ []) 1 BadUtf8 × FirstFault token_limit (0x78 ∷ 0xC2 ∷ 0x9F ∷ 0x7D ∷ []) 1 Forbidden
    × FirstFault token_limit (bytes "x{}") 1 InnerBrace
unfolding worked_token_faults
each_fault_stands =
    (first-met _ _ refl, first-met _ _ refl, first-met _ _ refl, first-met _ _ refl, first-met _ _ refl, first-met _ _ refl)
