use Rattle.std.proofs.Common.{sym}
use Rattle.net_rules.specs.Turns.{Heard}
use Rattle.net_rules.proofs.ByAnswer.{on_ok, on_ok2, on_err}
use Rattle.net_serve.proofs.Hearing.{stopped_at, hello_serves, hello_at, arrival_front, arrival_serves, arrival_at}
use Rattle.net_serve.proofs.server.Server.hear.Goals as goal

pub returns-in-Some-clause-serves : goal.returns-in-Some-clause-serves
returns-in-Some-clause-serves g c =
    let e = c.greet.ensures in
    on_ok c.greet.result
    (λ joins. hello_serves c.args.self.now c.greet.new.self (record { peer = c.args.peer; bytes = c.args.bytes.now }) c.in-Some.hello (sym c.in-Some.ensures) e.script e.game joins)
    e.joined

pub returns-in-Some-clause-done : goal.returns-in-Some-clause-done
returns-in-Some-clause-done g c =
    let e = c.greet.ensures in
    on_ok2 c.greet.result
    (λ joins sent o past at. hello_at c.args.self.now c.greet.new.self (record { peer = c.args.peer; bytes = c.args.bytes.now }) c.in-Some.hello (sym c.in-Some.ensures) e.script e.game joins o
    (g.K.Sink.written c.args.sink.now) (g.L.Link.sent c.args.link.now) (g.L.Link.sent c.greet.new.link) past at sent)
    e.joined e.sent

pub returns-in-Some-clause-front : goal.returns-in-Some-clause-front
returns-in-Some-clause-front g c =
    on_err c.greet.result
    (λ same o past at. stopped_at o c.args.self.now (g.K.Sink.written c.args.sink.now) (g.L.Link.sent c.args.link.now) (g.L.Link.sent c.greet.new.link)
    (Heard (record { peer = c.args.peer; bytes = c.args.bytes.now })) past same at)
    c.greet.ensures.unsent

pub returns-in-Err-clause-front : goal.returns-in-Err-clause-front
returns-in-Err-clause-front g c o past at =
    arrival_front c.args.self.now (record { peer = c.args.peer; bytes = c.args.bytes.now }) (sym c.in_default.ensures) c.args.self.now c.in-Some-client_of.client c.joined-count.result
    (sym c.if-not-is_arrival.ensures) (sym c.in-Some-client_of.ensures) c.joined-count.ensures o (g.K.Sink.written c.args.sink.now) (g.K.Sink.written c.arrive.new.sink) (g.L.Link.sent c.args.link.now) past
    c.in-Err.ensures.front at

pub returns-in-Ok-clause-serves : goal.returns-in-Ok-clause-serves
returns-in-Ok-clause-serves g c =
    arrival_serves c.args.self.now (record { peer = c.args.peer; bytes = c.args.bytes.now }) (sym c.in_default.ensures) c.arrive.new.self c.in-Some-client_of.client c.joined-count.result
    (sym c.if-not-is_arrival.ensures) (sym c.in-Some-client_of.ensures) c.joined-count.ensures c.in-Ok.ensures.same c.in-Ok.ensures.plays

pub returns-in-Ok-clause-done : goal.returns-in-Ok-clause-done
returns-in-Ok-clause-done g c o past at =
    arrival_at c.args.self.now (record { peer = c.args.peer; bytes = c.args.bytes.now }) (sym c.in_default.ensures) c.arrive.new.self c.in-Some-client_of.client c.joined-count.result
    (sym c.if-not-is_arrival.ensures) (sym c.in-Some-client_of.ensures) c.joined-count.ensures c.in-Ok.ensures.same c.in-Ok.ensures.plays
    o (g.K.Sink.written c.args.sink.now) (g.K.Sink.written c.arrive.new.sink) (g.L.Link.sent c.args.link.now) past c.in-Ok.ensures.written at
