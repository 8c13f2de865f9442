-- `size_of`: a piece that stays has its own size.
use Rattle.std.proofs.Common.{ap, min, ◌∙◌}
use Rattle.words_measure.specs.Sizes.{past_bytes}
use Rattle.words_measure.proofs.Measuring.{piece-size}
use Rattle.words_measure.proofs.size_of.Goals as goal

pub returns : goal.returns
returns c = λ text x is. piece-size is c.cells_of.ensures (c.min.ensures ∙ ap (λ n. min n past_bytes) c.length.ensures)
