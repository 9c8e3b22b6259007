use Rattle.net_top.specs.Outcome.{told, met, serving}
use Rattle.net_top.proofs.Ends.{all_done, not_handed, stopped, served_now, served_front_now}
use Rattle.net_top.proofs.serving.top_serve.Goals as goal

pub returns-in-Ok-flush-clause-serves : goal.returns-in-Ok-flush-clause-serves
returns-in-Ok-flush-clause-serves g c =
    let e = c.in-Ok.ensures in let f = c.in-Ok-flush.ensures in
    all_done (serving c.args.offer.seed c.args.offer.clients c.args.offer.turns) (g.L.Link.ahead c.args.link.now) (g.L.Link.ahead c.serve.new.link) (g.C.Clock.ahead c.args.clock.now) (g.C.Clock.ahead c.serve.new.clock)
    (g.K.Sink.written c.args.sink.now) (g.K.Sink.written c.serve.new.sink) (g.K.Sink.written c.flush.new.self) (g.L.Link.sent c.args.link.now) (g.L.Link.sent c.serve.new.link)
    (g.L.Link.faults c.args.link.now) (g.L.Link.faults c.serve.new.link) (g.C.Clock.faults c.args.clock.now) (g.C.Clock.faults c.serve.new.clock)
    (g.K.Sink.faults c.args.sink.now) (g.K.Sink.faults c.serve.new.sink) (g.K.Sink.faults c.flush.new.self) e.cause
    (served_now c.args.offer.seed c.args.offer.clients c.args.offer.turns (met (told (g.L.Link.ahead c.args.link.now) (g.L.Link.ahead c.serve.new.link) (g.L.Link.faults c.args.link.now) (g.L.Link.faults c.serve.new.link)) (told (g.C.Clock.ahead c.args.clock.now) (g.C.Clock.ahead c.serve.new.clock) (g.C.Clock.faults c.args.clock.now) (g.C.Clock.faults c.serve.new.clock)) (told (g.K.Sink.written c.args.sink.now) (g.K.Sink.written c.serve.new.sink) (g.K.Sink.faults c.args.sink.now) (g.K.Sink.faults c.serve.new.sink)) (g.L.Link.sent c.args.link.now) (g.L.Link.sent c.serve.new.link)) (g.K.Sink.written c.flush.new.self) (g.K.Sink.faults c.flush.new.self) f.bytes (e.done, e.heard)) f.cause.worked

pub returns-in-Err-flush-clause-serves : goal.returns-in-Err-flush-clause-serves
returns-in-Err-flush-clause-serves g c =
    let e = c.in-Ok.ensures in let f = c.in-Err-flush.ensures in
    not_handed (serving c.args.offer.seed c.args.offer.clients c.args.offer.turns) (g.L.Link.ahead c.args.link.now) (g.L.Link.ahead c.serve.new.link) (g.C.Clock.ahead c.args.clock.now) (g.C.Clock.ahead c.serve.new.clock)
    (g.K.Sink.written c.args.sink.now) (g.K.Sink.written c.serve.new.sink) (g.K.Sink.written c.flush.new.self) (g.L.Link.sent c.args.link.now) (g.L.Link.sent c.serve.new.link)
    (g.L.Link.faults c.args.link.now) (g.L.Link.faults c.serve.new.link) (g.C.Clock.faults c.args.clock.now) (g.C.Clock.faults c.serve.new.clock)
    (g.K.Sink.faults c.args.sink.now) (g.K.Sink.faults c.serve.new.sink) (g.K.Sink.faults c.flush.new.self) e.cause
    (served_front_now c.args.offer.seed c.args.offer.clients c.args.offer.turns (met (told (g.L.Link.ahead c.args.link.now) (g.L.Link.ahead c.serve.new.link) (g.L.Link.faults c.args.link.now) (g.L.Link.faults c.serve.new.link)) (told (g.C.Clock.ahead c.args.clock.now) (g.C.Clock.ahead c.serve.new.clock) (g.C.Clock.faults c.args.clock.now) (g.C.Clock.faults c.serve.new.clock)) (told (g.K.Sink.written c.args.sink.now) (g.K.Sink.written c.serve.new.sink) (g.K.Sink.faults c.args.sink.now) (g.K.Sink.faults c.serve.new.sink)) (g.L.Link.sent c.args.link.now) (g.L.Link.sent c.serve.new.link)) (g.K.Sink.written c.flush.new.self) (g.K.Sink.faults c.flush.new.self) f.bytes (e.done, e.heard)) f.cause.later f.cause.failed
