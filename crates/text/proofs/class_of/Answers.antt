-- `class_of`: the code's table is by computation the one that the rule makes of 0 to 255, so its entry is the rule's number, which tells
-- the class.
use Rattle.std.proofs.Common.{rules, ap, ◌∙◌}
use Rattle.plan.specs.Reading.{class}
use Rattle.pieces.specs.Numbered.{class_number, class_of}
use Rattle.pieces.proofs.Numbered.{class_told}
use Rattle.text.proofs.Table.{entry}
use Rattle.text.proofs.class_of.Goals as goal

pub returns : goal.returns
unfolding class
returns c =
    let byte = c.args.byte in
    c.class_of_number.ensures ∙ ap class_of (entry (λ b. class_number (class b)) 256 byte (search rules)) ∙ class_told (class byte)
