-- `following`: the step that a byte takes is the definition's, and so is the end where too few bytes are there.
use Rattle.std.proofs.Common.{rules, arith, ◌<◌, length, inl, inr, ◌∙◌}
use Rattle.characters.proofs.Values.{value_short, value_taken, room_taken, value_step, room_more, times_fits, sum_fits}
use Rattle.characters.proofs.following.Goals as goal

pub returns-in_err-byte-items : goal.returns-in_err-byte-items
returns-in_err-byte-items c =
    let short : length c.args.bytes.now < c.args.count =
    elim c.in_err-byte-items.ensures.lookup.0 [ inl h ↦ omega arith | inr h ↦ h ] in
    c.from_residual.ensures ∙ value_short _ _ _ short

pub loop-byte-init : goal.loop-byte-init
loop-byte-init c =
    let found = c.in_ok-byte-items.ensures.lookup.0 in
    record {
      same_value = value_taken _ _ _ _ found.2 found.3;
      room = room_taken _ _ _ _ found.2 found.3 c.requires;
    }

pub loop-byte-preserved : goal.loop-byte-preserved
loop-byte-preserved c = record {
  same_value = rw c.loop-byte.invariant.same_value (search (rules, value_step));
  room = search (rules, room_more);
}

pub overflow_mul-value : goal.overflow_mul-value
overflow_mul-value c = search (rules, times_fits)

pub overflow_add-value : goal.overflow_add-value
overflow_add-value c = search (rules, sum_fits)
