-- `is_annotation`: the first byte of the token's text tells it, where there is one.
use Rattle.std.proofs.Common.{◌∙◌, refl}
use Rattle.text.proofs.Marks.{starts_with}
use Rattle.text.proofs.is_annotation.Goals as goal

pub returns : goal.returns
returns c =
    let found = c.get.ensures.lookup in
    c.eq.ensures ∙ starts_with c.args.text.now c.args.from (λ x. x.now) c.get.result found.0 found.1 _ refl
