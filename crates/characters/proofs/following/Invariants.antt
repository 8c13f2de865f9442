-- `following`: what the bytes still to come make of the value so far stays what is to be found, and the value keeps room for them.
use Rattle.std.proofs.Common.{◌≡◌, drop, length}
use Rattle.plan.specs.Token.{value}
use Rattle.characters.specs.Continued.{Room}
use Rattle.characters.proofs.following.Given as goal

abbrev pub invariant-loop-byte : goal.invariant-loop-byte
invariant-loop-byte l =
    let rest = drop l.byte-index l.byte-items in
    record {
      same_value : value l.fn.count l.fn.first l.fn.bytes ≡ value (length rest) l.value rest;
      room : Room (length rest) l.value;
    }
