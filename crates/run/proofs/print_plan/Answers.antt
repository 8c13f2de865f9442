-- `print_plan`: 18, or the printed text in front of an output that is otherwise as it was.
use Rattle.std.proofs.Common.{arith}
use Rattle.run.proofs.RunParts.{writes_all, writes_short}
use Rattle.run.proofs.print_plan.Goals as goal

pub returns : goal.returns
returns c = writes_all c.args.ended c.printed_length-length.ensures _ (omega arith) c.print_into.ensures

pub returns-then-output-length : goal.returns-then-output-length
returns-then-output-length c = writes_short c.args.ended c.printed_length-length.ensures _ (omega arith)
