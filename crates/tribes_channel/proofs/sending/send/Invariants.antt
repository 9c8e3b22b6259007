use Rattle.std.proofs.Common.{length}
use Rattle.tribes_channel.specs.Channel.{Sends}
use Rattle.tribes_channel.proofs.sending.send.Given as goal

abbrev pub invariant-pieces : goal.invariant-pieces
invariant-pieces l = Sends l.fn.outbox l.fn.link l.outbox l.link

abbrev pub decreases-pieces : goal.decreases-pieces
decreases-pieces l = length l.outbox.held
