-- `write`: no word is written yet.
use Rattle.std.proofs.Common.{arith}
use Rattle.words_shelf.proofs.Noting.{noted_nothing}
use Rattle.words_write.proofs.write.Goals as goal

pub write_text-requires : goal.write_text-requires
write_text-requires c =
    record {
      writable =
          record { reads = c.requires.reads; known = c.requires.known; placed = λ r s e. noted_nothing 256 r e; room = omega (arith, c.requires.room) };
      sizes_long = c.requires.long;
      places_long = c.requires.few;
    }
