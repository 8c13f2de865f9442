-- `set_link`: the link of the outermost start is kept beside the numbers, and every other is one of them.
use Rattle.std.proofs.Common.{refl, ap, ◌∙◌}
use Rattle.memory.specs.Model.{model, with_numbers}
use Rattle.memory.proofs.Compared.{alike}
use Rattle.memory.proofs.Whole.{aside_same, set_first}
use Rattle.memory.proofs.HeldPlan.set_link.Goals as goal

pub returns-then-eq : goal.returns-then-eq
returns-then-eq c =
    let h = c.args.self.now in
    record {
      steps = ap (with_numbers (model h)) (set_first h.kept.outer.0 h.numbers.now h.kept.first.0 h.lent _ _ (alike c.eq.ensures c.if-eq.true ∙ c.start.ensures));
      same = record { outer = refl; lent = refl; aside = aside_same };
    }
