-- `weigh`: the job number, and then by the kind.
use Rattle.std.proofs.Common.{ap}
use Rattle.roll_format.specs.Format.{job_in, parts_in}
use Rattle.roll_weigh.proofs.Weights.{no_job, weighs_done, weighs_filed}
use Rattle.roll_weigh.proofs.weigh.Goals as goal

pub returns-then-not-is_job : goal.returns-then-not-is_job
returns-then-not-is_job c es b place = no_job _ _ _ c.job.ensures c.is_job.ensures c.if-not-is_job.true

pub returns-in-Filed : goal.returns-in-Filed
returns-in-Filed c es b place =
    weighs_filed _ _ _ c.job.ensures c.is_job.ensures c.if-not-is_job.false (ap job_in c.in-Filed.is) (ap parts_in c.in-Filed.is) (c.weigh_filed.ensures es b)

pub returns-in-Done : goal.returns-in-Done
returns-in-Done c es b place =
    weighs_done _ _ _ c.job.ensures c.is_job.ensures c.if-not-is_job.false (ap job_in c.in-Done.is) (ap parts_in c.in-Done.is) (c.weigh_done.ensures es b)
