-- `link_readable`: what was measured is the linked plan, up to the limit.
use Rattle.std.proofs.Common.{arith}
use Rattle.words_shelf.proofs.Noting.{noted_nothing}
use Rattle.words_link.proofs.Outcomes.{length_is, link_overfull, link_short, link-written}
use Rattle.words_link.proofs.link_readable.Goals as goal

pub measure-size-requires : goal.measure-size-requires
measure-size-requires c = record { reads = c.requires.reads; known = λ r s e. noted_nothing 256 r e; long = omega (arith, c.requires.few) }

pub returns-then-size-gt-LIMIT : goal.returns-then-size-gt-LIMIT
returns-then-size-gt-LIMIT c = link_overfull _ _ c.args.shelf.now.shelved c.requires.reads c.measure-size.ensures.told _ c.if-size-gt-LIMIT.true

pub returns-then-output-size : goal.returns-then-output-size
returns-then-output-size c =
    link_short _ _ c.args.shelf.now.shelved c.requires.reads c.measure-size.ensures.told c.if-size-gt-LIMIT.false _ c.if-output-size.true

pub write-requires : goal.write-requires
write-requires c =
    let size = c.measure-size.ensures in
    let long = length_is _ _ c.args.shelf.now.shelved c.requires.reads size.told c.if-size-gt-LIMIT.false in
    record { few = c.requires.few; reads = c.requires.reads; known = size.known; long = omega (arith, size.as_long, c.requires.few); room = omega (arith, long, c.if-output-size.false) }

pub returns : goal.returns
returns c =
    link-written _ _ c.args.shelf.now.shelved c.requires.reads c.measure-size.ensures.told c.if-size-gt-LIMIT.false _ c.if-output-size.false c.write.ensures
