-- `set_number`: a number of a lent cell is stored.
use Rattle.std.proofs.Common.{refl, ap}
use Rattle.memory.specs.Model.{model, with_numbers}
use Rattle.memory.proofs.Whole.{aside_set, set-whole}
use Rattle.memory.proofs.HeldPlan.set_number.Goals as goal

pub returns : goal.returns
returns c =
    let h = c.args.self.now in
    record {
      steps = ap (with_numbers (model h)) (set-whole h.kept.outer.0 h.numbers.now h.kept.first.0 h.lent _ _ c.requires);
      same = record { outer = refl; lent = refl; aside = aside_set h.kept.outer.0 h.numbers.now _ _ c.requires };
    }
