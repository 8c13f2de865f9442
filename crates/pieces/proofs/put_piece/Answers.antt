-- `put_piece`: a byte is one store, and a token is what `copy_token` copies.
use Rattle.std.proofs.Common.{rules, refl, ap, [], ◌∷◌}
use Rattle.pieces.specs.Written.{piece_bytes}
use Rattle.pieces.specs.declared.Piece.TheVariants.{Operator, Open, Close}
use Rattle.pieces.proofs.Pieces.{byte_put, token_put}
use Rattle.pieces.proofs.put_piece.Goals as goal

pub returns-in-Operator : goal.returns-in-Operator
unfolding piece_bytes
returns-in-Operator c = byte_put _ _ _ _ c.requires.1 (Operator _) _ c.in-Operator.is refl (ap (◌∷ []) c.letter.ensures)

pub returns-in-Token : goal.returns-in-Token
returns-in-Token c = search (rules, token_put)

pub returns-in-Open : goal.returns-in-Open
unfolding piece_bytes
returns-in-Open c = byte_put _ _ _ _ c.requires.1 Open _ c.in-Open.is refl refl

pub returns-in-Close : goal.returns-in-Close
unfolding piece_bytes
returns-in-Close c = byte_put _ _ _ _ c.requires.1 Close _ c.in-Close.is refl refl
