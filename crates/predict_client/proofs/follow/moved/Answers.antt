use Rattle.std.proofs.Common.{arith}
use Rattle.predict_client.proofs.Followed.{followed_move}
use Rattle.predict_client.proofs.follow.moved.Goals as goal

pub returns : goal.returns
returns c log client stands h = followed_move _ _ c.args.m log (omega (arith, stands.moves.first, stands.moves.within)) c.sampled.ensures h
