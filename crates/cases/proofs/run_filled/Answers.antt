-- `run_filled`: RUN refuses a printed text that is longer than the output.
use Rattle.std.proofs.Common.{ap, arith}
use Rattle.numbers.specs.declared.Numbers.{Numbers}
use Rattle.numbers.proofs.Told.{told}
use Rattle.answers.specs.Run.{run_numbers}
use Rattle.answers.proofs.Fits.{run_fits}
use Rattle.cases.proofs.run_filled.Goals as goal

pub returns : goal.returns
returns c = omega (arith, run_fits c.run.ensures.wrote, ap (λ (n : Numbers). n.length) (told run_numbers c.run.result c.into.ensures))
