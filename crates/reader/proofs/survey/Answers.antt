-- `survey`: a byte outside tokens, or the next byte of a token, is a turn of the loop that it stands in, or ends both with a fault.
use Rattle.std.proofs.Common.{arith, sym, ap, ◌∙◌}
use Rattle.tokens.specs.declared.InToken.TheVariants.{Ends}
use Rattle.reader.proofs.SurveySoFar.{survey_start, survey_small, survey_on, survey_stop, survey_end}
use Rattle.reader.proofs.TokenSoFar.{inside_start, inside_further, inside_faulty, inside_ends, inside_close}
use Rattle.reader.proofs.survey.Goals as goal

pub items-init : goal.items-init
items-init c = survey_start _ _ _ c.requires c.nothing_yet-count.ensures

pub returns-then-text-at : goal.returns-then-text-at
returns-then-text-at c = c.end_survey.ensures ∙ survey_end c.items.invariant c.if-text-at.true

pub read_byte-requires : goal.read_byte-requires
read_byte-requires c = (
  survey_small c.items.invariant,
  omega (arith, c.items.invariant.within, c.items.invariant.short),
)

pub items-preserved-in-Ok-On : goal.items-preserved-in-Ok-On
items-preserved-in-Ok-On c =
    survey_on c.items.invariant c.if-text-at.false _ (rw c.in-Ok-On.field-0-is at c.in-Ok-On.ensures)

pub loop-width-init : goal.loop-width-init
loop-width-init c =
    inside_start c.items.invariant c.if-text-at.false (rw c.in-Ok-Token.field-0-is at c.in-Ok-Token.ensures)

pub loop-width-smaller : goal.loop-width-smaller
loop-width-smaller c =
    let f = inside_further c.loop-width.invariant _ (sym c.in-Further.is ∙ c.token_byte.ensures) in
    omega (arith, f.0, f.1.within)

pub loop-width-preserved : goal.loop-width-preserved
loop-width-preserved c =
    (inside_further c.loop-width.invariant _ (sym c.in-Further.is ∙ c.token_byte.ensures)).1

pub whole_token-count-requires : goal.whole_token-count-requires
whole_token-count-requires c =
    let i = c.loop-width.invariant in (
      survey_small i.survey,
      inside_ends i (sym (c.in-Ends.is ∙ ap Ends c.in_default.is) ∙ c.token_byte.ensures),
    )

pub items-preserved : goal.items-preserved
items-preserved c =
    inside_close c.loop-width.invariant _
    (sym (c.in-Ends.is ∙ ap Ends c.in_default.is) ∙ c.token_byte.ensures) c.whole_token-count.ensures

pub returns-in-Err : goal.returns-in-Err
returns-in-Err c =
    survey_stop c.items.invariant c.if-text-at.false _ (sym c.in-Err.is ∙ c.read_byte.ensures)

pub returns-in-Err-token : goal.returns-in-Err-token
returns-in-Err-token c =
    inside_faulty c.loop-width.invariant _
    (sym (c.in-Ends.is ∙ ap Ends c.in-Err-token.is) ∙ c.token_byte.ensures)
