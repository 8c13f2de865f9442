-- `link_filled`: LINK refuses a printed text that is longer than the output.
use Rattle.std.proofs.Common.{ap, arith}
use Rattle.numbers.specs.declared.Numbers.{Numbers}
use Rattle.numbers.proofs.Told.{told}
use Rattle.words_meaning.specs.Answers.{link_numbers}
use Rattle.words_lists.proofs.Fits.{link_fits}
use Rattle.words_lists.proofs.link_filled.Goals as goal

pub returns : goal.returns
returns c = omega (arith, link_fits c.link.ensures.wrote, ap (λ (n : Numbers). n.length) (told link_numbers c.link.result c.into.ensures))
