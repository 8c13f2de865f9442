-- `scan`: what each call requires, and each turn of the loop, are the lemmas of `Scanning`.
use Rattle.std.proofs.Common.{le_of_lt}
use Rattle.memory.proofs.Compared.{apart, met}
use Rattle.hunt.proofs.Scanning.{scan_first, scan_here, scan_low, scan_cell, scan_next, scan_past, scan_found, scan_none}
use Rattle.hunt.proofs.scan.Goals as goal

pub loop-end-init : goal.loop-end-init
loop-end-init c = scan_first c.requires _ _ _ c.close-end.ensures c.start-third.ensures c.link_of-at.ensures

pub kind_at-kind-requires : goal.kind_at-kind-requires
kind_at-kind-requires c = scan_here c.loop-end.invariant (apart c.ne.ensures c.loop-end-test.true)

pub returns-in-Some : goal.returns-in-Some
returns-in-Some c =
    scan_found c.loop-end.invariant (apart c.ne.ensures c.loop-end-test.true) _ c.kind_at-kind.ensures _ c.ready_at.ensures _ c.in-Some.is _
    c.close-end.ensures

pub end_port-last-requires : goal.end_port-last-requires
end_port-last-requires c = scan_cell c.loop-end.invariant (apart c.ne.ensures c.loop-end-test.true)

pub link_of-at-requires-in-loop-end : goal.link_of-at-requires-in-loop-end
link_of-at-requires-in-loop-end c =
    let more = apart c.ne.ensures c.loop-end-test.true in
    search (scan_next, scan_low, le_of_lt)

pub loop-end-preserved : goal.loop-end-preserved
loop-end-preserved c =
    (scan_past c.loop-end.invariant (apart c.ne.ensures c.loop-end-test.true) _ c.kind_at-kind.ensures _ c.ready_at.ensures c.in_default.is
    _ _ c.end_port-last.ensures c.link_of-at-in-loop-end.ensures).0

pub loop-end-smaller : goal.loop-end-smaller
loop-end-smaller c =
    (scan_past c.loop-end.invariant (apart c.ne.ensures c.loop-end-test.true) _ c.kind_at-kind.ensures _ c.ready_at.ensures c.in_default.is
    _ _ c.end_port-last.ensures c.link_of-at-in-loop-end.ensures).1

pub returns : goal.returns
returns c = scan_none c.loop-end.invariant (met c.ne.ensures c.loop-end-test.false) _ c.close-end.ensures
