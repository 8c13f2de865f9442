-- A memory whose cells are all free, in order: one more cell that links to the next, and what `Building` says of it.
use Prim.Native.Nat.{ℕ, ◌+◌, ◌*◌, ◌<◌}
use mathlib.Core.Path.{◌≡◌, ap, sym, ◌∙◌}
use mathlib.Core.List.{List, []}
use native.Mathlib.Omega.{arith}
use borrow.Author.Count.{below_more}
use lib.ListN.{get_or, set}
use lib.Seq.{get_or-set_same, get_or-set_other}
use Rattle.plan.specs.Plan.{end}
use Rattle.plan.specs.Reading.{outermost}
use Rattle.memory.specs.Memory.{start, link}
use Rattle.memory.specs.Held.{held_numbers}
use Rattle.memory.specs.Model.{Fresh, Built, model}
use Rattle.memory.specs.declared.HeldPlan.{HeldPlan}
use Rattle.memory.proofs.Building.{begin}
use Rattle.memory.proofs.Whole.{length_whole}

pub one_more : (h h' : HeldPlan) (port k : ℕ) → k < h.kept.outer.0 → port ≡ start k
    → held_numbers h' ≡ set (held_numbers h) (2 * port + 1) (k + 1)
    → ((i : ℕ) → i < k → link (held_numbers h) (start i) ≡ i + 1)
    → (i : ℕ) → i < k + 1 → link (held_numbers h') (start i) ≡ i + 1
one_more h h' port k low e stored before =
    let w = held_numbers h in
    let long = length_whole h.kept.outer.0 h.numbers.now h.kept.first.0 h.lent in
    rw stored
    (below_more _ _ (λ i l. get_or-set_other w (2 * port + 1) (2 * start i + 1) (k + 1) 0 (omega arith) ∙ before i l)
    (ap (λ p. get_or (set w (2 * port + 1) (k + 1)) (2 * p + 1) 0) (sym e) ∙ get_or-set_same w (2 * port + 1) (k + 1) 0 (omega arith)))

pub fresh_building : {b : HeldPlan} → Fresh b → (text : List ℕ) → Built text b.kept.outer.0 (model b) b.kept.outer.0 [] outermost end
fresh_building {b} f text =
    rw (f.tail, f.opened, f.free)
    (begin text b.kept.outer.0 (held_numbers b) (length_whole b.kept.outer.0 b.numbers.now b.kept.first.0 b.lent) f.links)
