-- `judge_entry`: torn, or of neither kind, or weighed.
use Rattle.std.proofs.Common.{ap, ◌∙◌}
use Rattle.std.specs.Prelude.{Some}
use Rattle.roll_read.proofs.Judging.{faulty_judged, fine_judged, known, other_judged, torn_judged}
use Rattle.roll_read.proofs.judge_entry.Goals as goal

pub entry_of-requires : goal.entry_of-requires
entry_of-requires c = let k = known _ _ c.entry_at.ensures (c.in-Some.is ∙ ap Some c.in-Known.is) in (k.job_within, k.text_within)

pub returns-in_default : goal.returns-in_default
returns-in_default c es b = torn_judged _ _ c.entry_at.ensures _ c.in_default.is

pub returns-in-Other : goal.returns-in-Other
returns-in-Other c es b = other_judged _ _ c.entry_at.ensures _ (c.in-Some.is ∙ ap Some c.in-Other.is)

pub returns-in-Err : goal.returns-in-Err
returns-in-Err c es b =
    faulty_judged _ _ c.entry_at.ensures _ (c.in-Some.is ∙ ap Some c.in-Known.is) c.entry_of.ensures (c.weigh.ensures es b _) c.in-Err.is

pub returns-in-Ok : goal.returns-in-Ok
returns-in-Ok c es b =
    fine_judged _ _ c.entry_at.ensures _ (c.in-Some.is ∙ ap Some c.in-Known.is) c.entry_of.ensures (c.weigh.ensures es b _) c.in-Ok.is
