-- `read`: a refusal, 18, or the text without its marks in front of an output that is otherwise as it was.
use Rattle.std.proofs.lemmas.Result.{err_from_is_err_and}
use Rattle.read.proofs.Reading.{read_fits, read-refused, read_short, read-written}
use Rattle.read.proofs.read.Goals as goal

pub returns-in_err-size : goal.returns-in_err-size
returns-in_err-size c =
    let p = err_from_is_err_and c.from_residual.result c.from_residual.ensures.1 in
    rw (p.1, p.2) (read-refused _ _ c.in_err-size.ensures)

pub returns-then-output-size : goal.returns-then-output-size
returns-then-output-size c = read_short _ _ c.in_ok-size.ensures c.if-output-size.true

pub put_tidied-requires : goal.put_tidied-requires
put_tidied-requires c = read_fits _ _ c.in_ok-size.ensures c.if-output-size.false

pub returns : goal.returns
returns c = read-written _ _ c.in_ok-size.ensures c.if-output-size.false c.put_tidied.ensures
