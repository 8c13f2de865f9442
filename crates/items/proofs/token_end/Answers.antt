-- `token_end`: the first `}` is the one behind the token's text.
use Rattle.std.proofs.Common.{rules, refl, ap, ◌≡◌, ◌∙◌, ◌+◌, length, arith}
use Rattle.items.proofs.TokenEnd.{brace_found, brace_inside}
use Rattle.items.proofs.token_end.Goals as goal

pub slice_bounds-first_brace-count : goal.slice_bounds-first_brace-count
slice_bounds-first_brace-count c = omega (arith, brace_inside c.args.text.now c.args.from c.requires.1)

pub slice_bounds-first_brace-start : goal.slice_bounds-first_brace-start
slice_bounds-first_brace-start c = let inside = brace_inside c.args.text.now c.args.from c.requires.1 in search rules

pub unwrap-requires : goal.unwrap-requires
unwrap-requires c = rw (c.first_brace.ensures ∙ brace_found c.args.text.now c.args.from c.requires.1) refl

pub returns : goal.returns
returns c = λ t f.
    let there = c.first_brace.ensures ∙ brace_found c.args.text.now c.args.from f in
    let result = c.unwrap.ensures in
    let same : c.unwrap.result ≡ length t = cc in
    ap (c.args.from +◌) same
