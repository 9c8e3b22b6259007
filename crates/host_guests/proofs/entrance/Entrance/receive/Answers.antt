use Rattle.host_guests.proofs.Opening.{received_holds}
use Rattle.host_guests.proofs.entrance.Entrance.receive.Goals as goal

pub returns-in-Ok-Some-clause-passes : goal.returns-in-Ok-Some-clause-passes
returns-in-Ok-Some-clause-passes g c = (
  g.S.Socket.log c.receive.new.self,
  c.hear-heard.new.reply,
  rw c.in-Ok-Some.field-0-is at c.in-Ok-Some.ensures.comes,
  c.hear-heard.ensures.answer,
  rw c.key-key.ensures at c.answer-answered.ensures,
)

pub returns-in-Ok-Some-clause-holds : goal.returns-in-Ok-Some-clause-holds
returns-in-Ok-Some-clause-holds g c holds =
    received_holds c.args.self.now.guests c.hear-heard.new.self (g.S.Socket.log c.args.self.now.socket) (g.S.Socket.log c.receive.new.self)
    (g.S.Socket.log c.answer-answered.new.socket) (c.in-Ok-Some.from, c.in-Ok-Some.count) c.receive.new.buf c.hear-heard.new.reply
    (rw c.in-Ok-Some.field-0-is at c.in-Ok-Some.ensures.comes) (rw c.key-key.ensures at c.answer-answered.ensures) c.hear-heard.ensures.log holds
