use Rattle.std.proofs.Common.{true}
use Rattle.host_guests.proofs.Opening.{sent_holds}
use Rattle.host_guests.proofs.entrance.Entrance.send.Goals as goal

pub returns-then-send-clause-holds : goal.returns-then-send-clause-holds
returns-then-send-clause-holds g c holds =
    sent_holds c.args.self.now.guests (g.S.Socket.log c.args.self.now.socket) (g.S.Socket.log c.send.new.self) true c.in-Some.to _
    c.if-send.ensures.goes c.in-Some.ensures.log holds
