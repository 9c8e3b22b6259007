use Rattle.std.proofs.Common.{◌≡◌, refl}
use Rattle.relay_script.specs.Ranges.{HasRelayRanges}
use Rattle.relay_script.specs.Whole.{relay_script_of}
use Rattle.script_input.specs.Reading.{Seen, seen}
use Rattle.script_input.proofs.Outcome.{no_script, script_ended}
use Rattle.relay_node.specs.relay_report.Report.{relay_report}
use Rattle.relay_top.proofs.serving.top_relay.Goals as goal

pub returns-in-Ok-clause-serves : goal.returns-in-Ok-clause-serves
returns-in-Ok-clause-serves g c =
    let e = c.in-Ok.ensures in let r = c.run_relay-ran.ensures in let h = c.end_call.ensures in
    let source : Seen = seen (g.S.Source.held c.args.source.now) (g.S.Source.held c.read_relay_script.new.source) (g.S.Source.faults c.args.source.now) (g.S.Source.faults c.read_relay_script.new.source) in
    script_ended relay_script_of HasRelayRanges (λ script text. text ≡ relay_report script) source e.taken c.in-Ok.script e.ok e.ranges (e.cause.spared (λ h. absurd cc))
    (g.K.Sink.written c.args.sink.now) (g.K.Sink.written c.run_relay-ran.new.sink) (g.K.Sink.written c.end_call.new.sink) h.bytes
    (g.K.Sink.faults c.args.sink.now) (g.K.Sink.faults c.run_relay-ran.new.sink) (g.K.Sink.faults c.end_call.new.sink)
    (relay_report c.in-Ok.script) refl c.run_relay-ran.result c.end_call.result r.report r.front r.cause h.ends

pub returns-in-Err-clause-serves : goal.returns-in-Err-clause-serves
returns-in-Err-clause-serves g c =
    let e = c.in-Err.ensures in
    let source : Seen = seen (g.S.Source.held c.args.source.now) (g.S.Source.held c.read_relay_script.new.source) (g.S.Source.faults c.args.source.now) (g.S.Source.faults c.read_relay_script.new.source) in
    let sink : Seen = seen (g.K.Sink.written c.args.sink.now) (g.K.Sink.written c.args.sink.now) (g.K.Sink.faults c.args.sink.now) (g.K.Sink.faults c.args.sink.now) in
    no_script relay_script_of HasRelayRanges (λ script text. text ≡ relay_report script) source e.taken sink c.in-Err.status e.err (refl, refl) e.cause.later
