-- `piece_at`: the class of the byte tells the first of the pieces.
use Rattle.std.proofs.Common.{inl, inr}
use Rattle.items.proofs.Telling.{no_bad, no_blank, pass_close, pass_open, pass_operator, pass_token, token_from}
use Rattle.items.proofs.piece_at.Goals as goal

pub token_piece-requires : goal.token_piece-requires
token_piece-requires c = token_from c.requires c.class_of.ensures c.in-Brace.is

pub returns-in-Operator : goal.returns-in-Operator
returns-in-Operator c = pass_operator c.requires c.class_of.ensures _ _ c.in-Operator.is c.new.ensures

pub returns-in-Open : goal.returns-in-Open
returns-in-Open c = pass_open c.requires c.class_of.ensures _ c.in-Open.is c.new-in-Open.ensures

pub returns-in-Close : goal.returns-in-Close
returns-in-Close c = pass_close c.requires c.class_of.ensures _ c.in-Close.is c.new-in-Close.ensures

pub returns-in-Brace : goal.returns-in-Brace
returns-in-Brace c = pass_token c.requires c.class_of.ensures _ c.in-Brace.is c.token_piece.ensures

pub unreachable-requires : goal.unreachable-requires
unreachable-requires c = elim c.in-Blank.is [ inl e ↦ no_blank c.requires c.class_of.ensures e | inr e ↦ no_bad c.requires c.class_of.ensures e ]
