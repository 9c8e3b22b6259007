use Rattle.std.proofs.Common.{◌≡◌, refl}
use Rattle.match_script.specs.Ranges.{HasRanges}
use Rattle.match_script.specs.Script.{script_of}
use Rattle.script_input.specs.Reading.{Seen, seen}
use Rattle.script_input.proofs.Outcome.{no_script, script_ended}
use Rattle.match_count.specs.match_laws.Report.{report}
use Rattle.match_top.proofs.serving.top_run.Goals as goal

pub returns-in-Ok-clause-serves : goal.returns-in-Ok-clause-serves
returns-in-Ok-clause-serves g c =
    let e = c.in-Ok.ensures in let r = c.run-ran.ensures in let h = c.end_call.ensures in
    let source : Seen = seen (g.S.Source.held c.args.source.now) (g.S.Source.held c.read_script.new.source) (g.S.Source.faults c.args.source.now) (g.S.Source.faults c.read_script.new.source) in
    script_ended script_of HasRanges (λ script text. text ≡ report script) source e.taken c.in-Ok.script e.ok e.ranges (e.cause.spared (λ h. absurd cc))
    (g.K.Sink.written c.args.sink.now) (g.K.Sink.written c.run-ran.new.sink) (g.K.Sink.written c.end_call.new.sink) h.bytes
    (g.K.Sink.faults c.args.sink.now) (g.K.Sink.faults c.run-ran.new.sink) (g.K.Sink.faults c.end_call.new.sink)
    (report c.in-Ok.script) refl c.run-ran.result c.end_call.result r.report r.front r.cause h.ends

pub returns-in-Err-clause-serves : goal.returns-in-Err-clause-serves
returns-in-Err-clause-serves g c =
    let e = c.in-Err.ensures in
    let source : Seen = seen (g.S.Source.held c.args.source.now) (g.S.Source.held c.read_script.new.source) (g.S.Source.faults c.args.source.now) (g.S.Source.faults c.read_script.new.source) in
    let sink : Seen = seen (g.K.Sink.written c.args.sink.now) (g.K.Sink.written c.args.sink.now) (g.K.Sink.faults c.args.sink.now) (g.K.Sink.faults c.args.sink.now) in
    no_script script_of HasRanges (λ script text. text ≡ report script) source e.taken sink c.in-Err.status e.err (refl, refl) e.cause.later
