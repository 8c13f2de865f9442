-- `judge_entries`: an entry that is torn or breaks a rule ends the walk, and any other is counted.
use Rattle.std.proofs.Common.{rules, arith, refl, ap, ◌∙◌}
use Rattle.std.specs.Prelude.{Ok}
use Rattle.roll_rules.specs.declared.Sums.{Sums}
use Rattle.roll_rules.proofs.Refusing.{refused}
use Rattle.roll_read.proofs.Judging.{judged-broken, judged-first, judged_less, judged-next, judged_on, judged_torn}
use Rattle.roll_read.proofs.judge_entries.Goals as goal

pub loop-next-init : goal.loop-next-init
loop-next-init c = judged-first c.requires.0 c.requires.1

pub returns-in_err-next : goal.returns-in_err-next
returns-in_err-next c = refused c.from_residual.ensures.1 ∙ judged-broken c.loop-next.invariant c.judge_entry.ensures c.in_err-next.was

pub overflow_cast-end : goal.overflow_cast-end
overflow_cast-end c =
    let next = judged-next c.loop-next.invariant c.judge_entry.ensures (c.in_ok-next.was ∙ ap Ok c.in-Some.is) in
    let short = c.loop-next.invariant.short in search rules

pub loop-next-smaller : goal.loop-next-smaller
loop-next-smaller c =
    let fine = c.in_ok-next.was ∙ ap Ok c.in-Some.is in
    omega (
      arith,
      judged_less c.loop-next.invariant c.judge_entry.ensures fine refl,
      judged-next c.loop-next.invariant c.judge_entry.ensures fine,
      ap (λ (x : Sums). x.end) c.with_entry-sums.ensures,
    )

pub loop-next-preserved : goal.loop-next-preserved
loop-next-preserved c = judged_on c.loop-next.invariant c.judge_entry.ensures (c.in_ok-next.was ∙ ap Ok c.in-Some.is) c.with_entry-sums.ensures

pub returns : goal.returns
returns c = judged_torn c.loop-next.invariant c.judge_entry.ensures (c.in_ok-next.was ∙ ap Ok c.in_default.is)
