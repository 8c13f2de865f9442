-- `run_text`: RUN refuses a printed text that is longer than the output, so what there is to tell lies within it.
use Rattle.std.proofs.Common.{ap, arith}
use Rattle.numbers.specs.declared.Numbers.{Numbers}
use Rattle.numbers.proofs.Told.{told}
use Rattle.answers.specs.Run.{run_numbers}
use Rattle.answers.proofs.Fits.{run_fits}
use Rattle.runplan.proofs.run_text.Goals as goal

pub tell_printed-requires : goal.tell_printed-requires
tell_printed-requires g c =
    omega (arith, run_fits c.run.ensures.wrote, ap (λ (n : Numbers). n.length) (told run_numbers c.run.result c.into-numbers.ensures))
