use Rattle.std.proofs.Common.{ℕ, List, ◌∷◌, ap}
use Rattle.tn_types.specs.declared.moves.MoveBits.{MoveBits}
use Rattle.stream_manager.specs.Client.{Took}
use Rattle.predict_client.proofs.Followed.{followed_packet}
use Rattle.predict_client.proofs.follow.arrived.Goals as goal

second : ℕ × List MoveBits → List MoveBits
second x = x.1

pub returns : goal.returns
unfolding second
returns c log p client h =
    followed_packet c.args.predict.now c.told.new.self c.base.result _ log p c.told.ensures (c.base.ensures.log (Took p ∷ log) client)
    (ap second (c.pending.ensures (Took p ∷ log) client)) h
