use Rattle.std.proofs.Common.{None, Some}
use Rattle.tn_outside.specs.Totals.{AddsFront}
use Rattle.demo_replay.specs.declared.replaying.ReplayFault.TheVariants as fault
use Rattle.script_input.proofs.Outcome.{on_err}
use Rattle.demo_top.proofs.Ends.{write-failed, memory-failed, writes, writes-all}
use Rattle.demo_top.proofs.serving.tell.Goals as goal

pub returns-in-None-clause-text : goal.returns-in-None-clause-text
returns-in-None-clause-text g c =
    rw c.in-None.is (writes-all None c.args.bytes.now (g.K.Sink.written c.args.sink.now) (g.K.Sink.written c.replay.new.sink) c.replay.result c.replay.ensures.sound c.replay.ensures.text)

pub returns-in-None-clause-refused : goal.returns-in-None-clause-refused
returns-in-None-clause-refused g c place e =
    let still = c.replay.ensures.untouched place e in ((c.replay.ensures.refused place).0 e, still.0, still.1)

pub returns-in-None-clause-failed : goal.returns-in-None-clause-failed
returns-in-None-clause-failed g c e =
    let there = write-failed c.args.bytes.now c.replay.result c.replay.ensures.refused e in
    rw c.in-None.is (writes None c.args.bytes.now (g.K.Sink.written c.args.sink.now) (g.K.Sink.written c.replay.new.sink) AddsFront there (on_err c.replay.result fault.WriteFault e c.replay.ensures.front))

pub returns-in-None-clause-memory : goal.returns-in-None-clause-memory
returns-in-None-clause-memory g c e =
    let there = memory-failed c.args.bytes.now c.replay.result c.replay.ensures.refused e in
    rw c.in-None.is (writes None c.args.bytes.now (g.K.Sink.written c.args.sink.now) (g.K.Sink.written c.replay.new.sink) AddsFront there (on_err c.replay.result fault.NoMemory e c.replay.ensures.front))

pub returns-in-Some-clause-text : goal.returns-in-Some-clause-text
returns-in-Some-clause-text g c =
    rw c.in-Some.is (writes-all (Some c.in-Some.count) c.args.bytes.now (g.K.Sink.written c.args.sink.now) (g.K.Sink.written c.replay_at.new.sink) c.replay_at.result c.replay_at.ensures.sound c.replay_at.ensures.text)

pub returns-in-Some-clause-refused : goal.returns-in-Some-clause-refused
returns-in-Some-clause-refused g c place e =
    let still = c.replay_at.ensures.untouched place e in ((c.replay_at.ensures.refused place).0 e, still.0, still.1)

pub returns-in-Some-clause-failed : goal.returns-in-Some-clause-failed
returns-in-Some-clause-failed g c e =
    let there = write-failed c.args.bytes.now c.replay_at.result c.replay_at.ensures.refused e in
    rw c.in-Some.is (writes (Some c.in-Some.count) c.args.bytes.now (g.K.Sink.written c.args.sink.now) (g.K.Sink.written c.replay_at.new.sink) AddsFront there (on_err c.replay_at.result fault.WriteFault e c.replay_at.ensures.front))

pub returns-in-Some-clause-memory : goal.returns-in-Some-clause-memory
returns-in-Some-clause-memory g c e =
    let there = memory-failed c.args.bytes.now c.replay_at.result c.replay_at.ensures.refused e in
    rw c.in-Some.is (writes (Some c.in-Some.count) c.args.bytes.now (g.K.Sink.written c.args.sink.now) (g.K.Sink.written c.replay_at.new.sink) AddsFront there (on_err c.replay_at.result fault.NoMemory e c.replay_at.ensures.front))
