-- `put_like`: the piece that the port shows is put.
use Rattle.copier.proofs.Likes.{like_ready, like-stepped}
use Rattle.copier.proofs.put_like.Goals as goal

pub put_piece-requires : goal.put_piece-requires
put_piece-requires c = like_ready c.requires c.piece_at-piece.ensures

pub returns : goal.returns
returns c = like-stepped c.requires c.piece_at-piece.ensures c.put_piece.ensures
