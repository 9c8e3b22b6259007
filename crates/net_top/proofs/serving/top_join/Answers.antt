use Rattle.net_top.specs.Outcome.{told, met, joining}
use Rattle.net_top.proofs.Ends.{all_done, not_handed, stopped, joined_now, joined_front_now}
use Rattle.net_top.proofs.serving.top_join.Goals as goal

pub returns-in-Ok-flush-clause-serves : goal.returns-in-Ok-flush-clause-serves
returns-in-Ok-flush-clause-serves g c =
    let e = c.in-Ok.ensures in let f = c.in-Ok-flush.ensures in
    all_done (joining c.args.turns) (g.L.Link.ahead c.args.link.now) (g.L.Link.ahead c.join.new.link) (g.C.Clock.ahead c.args.clock.now) (g.C.Clock.ahead c.join.new.clock)
    (g.K.Sink.written c.args.sink.now) (g.K.Sink.written c.join.new.sink) (g.K.Sink.written c.flush.new.self) (g.L.Link.sent c.args.link.now) (g.L.Link.sent c.join.new.link)
    (g.L.Link.faults c.args.link.now) (g.L.Link.faults c.join.new.link) (g.C.Clock.faults c.args.clock.now) (g.C.Clock.faults c.join.new.clock)
    (g.K.Sink.faults c.args.sink.now) (g.K.Sink.faults c.join.new.sink) (g.K.Sink.faults c.flush.new.self) e.cause
    (joined_now c.args.turns (met (told (g.L.Link.ahead c.args.link.now) (g.L.Link.ahead c.join.new.link) (g.L.Link.faults c.args.link.now) (g.L.Link.faults c.join.new.link)) (told (g.C.Clock.ahead c.args.clock.now) (g.C.Clock.ahead c.join.new.clock) (g.C.Clock.faults c.args.clock.now) (g.C.Clock.faults c.join.new.clock)) (told (g.K.Sink.written c.args.sink.now) (g.K.Sink.written c.join.new.sink) (g.K.Sink.faults c.args.sink.now) (g.K.Sink.faults c.join.new.sink)) (g.L.Link.sent c.args.link.now) (g.L.Link.sent c.join.new.link)) (g.K.Sink.written c.flush.new.self) (g.K.Sink.faults c.flush.new.self) f.bytes (e.done, e.heard)) f.cause.worked

pub returns-in-Err-flush-clause-serves : goal.returns-in-Err-flush-clause-serves
returns-in-Err-flush-clause-serves g c =
    let e = c.in-Ok.ensures in let f = c.in-Err-flush.ensures in
    not_handed (joining c.args.turns) (g.L.Link.ahead c.args.link.now) (g.L.Link.ahead c.join.new.link) (g.C.Clock.ahead c.args.clock.now) (g.C.Clock.ahead c.join.new.clock)
    (g.K.Sink.written c.args.sink.now) (g.K.Sink.written c.join.new.sink) (g.K.Sink.written c.flush.new.self) (g.L.Link.sent c.args.link.now) (g.L.Link.sent c.join.new.link)
    (g.L.Link.faults c.args.link.now) (g.L.Link.faults c.join.new.link) (g.C.Clock.faults c.args.clock.now) (g.C.Clock.faults c.join.new.clock)
    (g.K.Sink.faults c.args.sink.now) (g.K.Sink.faults c.join.new.sink) (g.K.Sink.faults c.flush.new.self) e.cause
    (joined_front_now c.args.turns (met (told (g.L.Link.ahead c.args.link.now) (g.L.Link.ahead c.join.new.link) (g.L.Link.faults c.args.link.now) (g.L.Link.faults c.join.new.link)) (told (g.C.Clock.ahead c.args.clock.now) (g.C.Clock.ahead c.join.new.clock) (g.C.Clock.faults c.args.clock.now) (g.C.Clock.faults c.join.new.clock)) (told (g.K.Sink.written c.args.sink.now) (g.K.Sink.written c.join.new.sink) (g.K.Sink.faults c.args.sink.now) (g.K.Sink.faults c.join.new.sink)) (g.L.Link.sent c.args.link.now) (g.L.Link.sent c.join.new.link)) (g.K.Sink.written c.flush.new.self) (g.K.Sink.faults c.flush.new.self) f.bytes (e.done, e.heard)) f.cause.later f.cause.failed
