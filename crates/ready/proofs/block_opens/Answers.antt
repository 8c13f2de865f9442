-- `block_opens`: the outermost start's datum is no number of the memory, every other is.
use Rattle.std.proofs.Common.{ap, sym, ◌∙◌}
use Rattle.memory.proofs.Compared.{alike, unlike}
use Rattle.ready.specs.Ready.{is_block}
use Rattle.ready.proofs.Tests.{close-block_opens, outermost_block_opens, datum-block_opens, no_block}
use Rattle.ready.proofs.block_opens.Goals as goal

pub returns-then-closes : goal.returns-then-closes
returns-then-closes c =
    let h = c.args.held.now in
    close-block_opens h.kept.outer.0 h.numbers.now h.kept.first.0 c.args.port.0 (sym c.closes.ensures ∙ c.if-closes.true)

pub returns-then-eq : goal.returns-then-eq
returns-then-eq c =
    outermost_block_opens _ _ _ _ c.args.held.now.lent (sym c.closes.ensures ∙ c.if-closes.false)
    (alike c.eq.ensures c.if-eq.true ∙ c.start.ensures)

pub returns-in-Block : goal.returns-in-Block
returns-in-Block c =
    datum-block_opens _ _ _ _ c.args.held.now.lent c.requires (sym c.closes.ensures ∙ c.if-closes.false)
    (λ z. unlike c.eq.ensures c.if-eq.false (z ∙ sym c.start.ensures)) _ c.kind_at.ensures (sym (ap is_block c.in-Block.is))

pub returns-in_default : goal.returns-in_default
returns-in_default c =
    datum-block_opens _ _ _ _ c.args.held.now.lent c.requires (sym c.closes.ensures ∙ c.if-closes.false)
    (λ z. unlike c.eq.ensures c.if-eq.false (z ∙ sym c.start.ensures)) _ c.kind_at.ensures (no_block _ c.in_default.not-Block)
