-- `look_back`: each turn of the loop goes past one entry.
use Rattle.roll_standing.proofs.Fronts.{front_entries}
use Rattle.roll_standing.proofs.LookedBack.{looked_end, looked_first, looked_less, looked_on, looked_there, looked_within, unfiled_at_0}
use Rattle.roll_standing.proofs.Front.look_back.Goals as goal

pub returns-then-self-eq0-clause-told : goal.returns-then-self-eq0-clause-told
returns-then-self-eq0-clause-told c = unfiled_at_0 _ _ c.if-self-eq0.true

pub loop-at-init : goal.loop-at-init
loop-at-init c = looked_first _ (front_entries _ _ c.args.self.now.entries) c.if-self-eq0.false

pub newest-found-requires : goal.newest-found-requires
newest-found-requires c =
    let l = c.loop-at.invariant in
    (looked_within l c.loop-at-test.true _ c.entry_at-entry.ensures, l.within, looked_there l c.loop-at-test.true)

pub loop-at-smaller : goal.loop-at-smaller
loop-at-smaller c = looked_less c.loop-at.invariant c.loop-at-test.true _ _ c.entry_at-entry.ensures c.next_of-at.ensures

pub loop-at-preserved : goal.loop-at-preserved
loop-at-preserved c =
    let e = c.newest-found.ensures in
    looked_on c.loop-at.invariant c.loop-at-test.true _ _ c.entry_at-entry.ensures c.next_of-at.ensures _ e.within e.told

pub returns-clause-told : goal.returns-clause-told
returns-clause-told c = looked_end c.loop-at.invariant c.if-self-eq0.false c.loop-at-test.false
