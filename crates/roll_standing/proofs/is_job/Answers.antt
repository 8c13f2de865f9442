-- `is_job`: too short or too long, or told by its digits.
use Rattle.std.proofs.Common.{◌∙◌}
use Rattle.roll_standing.proofs.Jobs.{job-digits, job_size}
use Rattle.roll_standing.proofs.is_job.Goals as goal

pub returns-then-is_empty : goal.returns-then-is_empty
returns-then-is_empty c = job_size _ c.is_empty.ensures c.then-is_empty.either

pub returns : goal.returns
returns c = c.are_digits.ensures ∙ job-digits _ c.is_empty.ensures c.if-is_empty.false c.if-job-gt-JOB_LIMIT.false
