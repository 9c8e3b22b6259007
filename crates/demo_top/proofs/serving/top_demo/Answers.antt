use Rattle.std.proofs.Common.{◌≡◌, refl, subst}
use Rattle.match_script.specs.Ranges.{HasRanges}
use Rattle.match_script.specs.Script.{script_of}
use Rattle.script_input.specs.declared.status.Status.{Status}
use Rattle.script_input.specs.declared.status.Status.TheVariants.{Done}
use Rattle.script_input.specs.Reading.{Seen, seen}
use Rattle.script_input.specs.Outcome.{EndsBehind}
use Rattle.script_input.proofs.Outcome.{done_ran, on_ok, no_script, script_ended}
use Rattle.demo_record.specs.Recording.{demo_text}
use Rattle.demo_top.proofs.serving.top_demo.Goals as goal

pub returns-in-Ok-clause-serves : goal.returns-in-Ok-clause-serves
returns-in-Ok-clause-serves g c =
    let e = c.in-Ok.ensures in let r = c.write_demo_of-ran.ensures in let h = c.end_call.ensures in
    let source : Seen = seen (g.S.Source.held c.args.source.now) (g.S.Source.held c.read_script.new.source) (g.S.Source.faults c.args.source.now) (g.S.Source.faults c.read_script.new.source) in
    script_ended script_of HasRanges (λ script text. text ≡ demo_text script c.args.client) source e.taken c.in-Ok.script e.ok e.ranges (e.cause.spared (λ h. absurd cc))
    (g.K.Sink.written c.args.sink.now) (g.K.Sink.written c.write_demo_of-ran.new.sink) (g.K.Sink.written c.end_call.new.sink) h.bytes
    (g.K.Sink.faults c.args.sink.now) (g.K.Sink.faults c.write_demo_of-ran.new.sink) (g.K.Sink.faults c.end_call.new.sink)
    (demo_text c.in-Ok.script c.args.client) refl c.write_demo_of-ran.result c.end_call.result r.demo r.front r.cause h.ends

pub returns-in-Ok-clause-tells_the_client : goal.returns-in-Ok-clause-tells_the_client
returns-in-Ok-clause-tells_the_client g c done =
    let ran = c.write_demo_of-ran.result in
    let f1 = g.K.Sink.faults c.write_demo_of-ran.new.sink in
    let f2 = g.K.Sink.faults c.end_call.new.sink in
    let ends : EndsBehind ran f1 f2 Done = subst (λ (s : Status). EndsBehind ran f1 f2 s) done c.end_call.ensures.ends in
    let recorded = on_ok ran tt (done_ran ran f1 f2 ends) c.write_demo_of-ran.ensures.short in
    (c.in-Ok.script, c.in-Ok.ensures.ok, λ few. c.replay_tells_the_client.ensures c.in-Ok.script c.args.client c.in-Ok.ensures.ranges few (recorded few))

pub returns-in-Err-clause-serves : goal.returns-in-Err-clause-serves
returns-in-Err-clause-serves g c =
    let e = c.in-Err.ensures in
    let source : Seen = seen (g.S.Source.held c.args.source.now) (g.S.Source.held c.read_script.new.source) (g.S.Source.faults c.args.source.now) (g.S.Source.faults c.read_script.new.source) in
    let sink : Seen = seen (g.K.Sink.written c.args.sink.now) (g.K.Sink.written c.args.sink.now) (g.K.Sink.faults c.args.sink.now) (g.K.Sink.faults c.args.sink.now) in
    no_script script_of HasRanges (λ script text. text ≡ demo_text script c.args.client) source e.taken sink c.in-Err.status e.err (refl, refl) e.cause.later
