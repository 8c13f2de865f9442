-- `put_number`: the number's bytes, put there.
use Rattle.std.proofs.Common.{ap, ◌∙◌}
use Rattle.kinds.specs.Written.{put_at}
use Rattle.stored.specs.Counted.{four_bytes}
use Rattle.stored.proofs.put_number.Goals as goal

pub returns : goal.returns
unfolding four_bytes
returns c = c.put_bytes.ensures ∙ ap (put_at c.args.bytes.now c.args.at) c.to_le_bytes.ensures
