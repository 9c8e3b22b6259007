use Rattle.std.proofs.Common.{◌∙◌, List, ℕ, Err, sym, ap, subst}
use Rattle.script_input.specs.Reading.{seen, Gave}
use Rattle.demo_replay.specs.declared.replaying.ReplayFault.{ReplayFault}
use Rattle.demo_top.proofs.Ends.{told-done, told-kept-back, told-failed, told-short, told-refused, told-not-read}
use Rattle.demo_top.proofs.serving.top_replay.Goals as goal

pub returns-in-Ok-flush-clause-serves : goal.returns-in-Ok-flush-clause-serves
returns-in-Ok-flush-clause-serves g c =
    let e = c.in-Ok.ensures in
    let held = g.S.Source.held c.args.source.now in
    let held' = g.S.Source.held c.read_all.new.source in
    let gave : Gave 16777216 held held' c.as_slice.result.now = subst (λ (b : List ℕ). Gave 16777216 held held' b) (sym c.as_slice.ensures.value) e.ok in
    let f = c.in-Ok-flush.ensures in
    told-done c.args.count (seen (g.S.Source.held c.args.source.now) (g.S.Source.held c.read_all.new.source) (g.S.Source.faults c.args.source.now) (g.S.Source.faults c.read_all.new.source)) e.taken (e.cause.spared (λ h. absurd cc)) c.as_slice.result.now gave (g.K.Sink.written c.args.sink.now) (g.K.Sink.written c.tell.new.sink) (g.K.Sink.faults c.args.sink.now) (g.K.Sink.faults c.tell.new.sink)
    c.in-Ok-tell.ensures.text (g.K.Sink.written c.flush.new.self) f.bytes (g.K.Sink.faults c.flush.new.self) (c.in-Ok-tell.ensures.cause.spared (λ h. absurd cc)) f.cause.worked

pub returns-in-Ok-tell-clause-serves : goal.returns-in-Ok-tell-clause-serves
returns-in-Ok-tell-clause-serves g c =
    let e = c.in-Ok.ensures in
    let held = g.S.Source.held c.args.source.now in
    let held' = g.S.Source.held c.read_all.new.source in
    let gave : Gave 16777216 held held' c.as_slice.result.now = subst (λ (b : List ℕ). Gave 16777216 held held' b) (sym c.as_slice.ensures.value) e.ok in
    let f = c.in-Err-flush.ensures in
    told-kept-back c.args.count (seen (g.S.Source.held c.args.source.now) (g.S.Source.held c.read_all.new.source) (g.S.Source.faults c.args.source.now) (g.S.Source.faults c.read_all.new.source)) e.taken (e.cause.spared (λ h. absurd cc)) c.as_slice.result.now gave (g.K.Sink.written c.args.sink.now) (g.K.Sink.written c.tell.new.sink) (g.K.Sink.faults c.args.sink.now) (g.K.Sink.faults c.tell.new.sink)
    c.in-Ok-tell.ensures.text (g.K.Sink.written c.flush.new.self) f.bytes (g.K.Sink.faults c.flush.new.self) (c.in-Ok-tell.ensures.cause.spared (λ h. absurd cc)) f.cause.later f.cause.failed

pub returns-in-Err-Head-clause-serves : goal.returns-in-Err-Head-clause-serves
returns-in-Err-Head-clause-serves g c =
    let e = c.in-Ok.ensures in
    let held = g.S.Source.held c.args.source.now in
    let held' = g.S.Source.held c.read_all.new.source in
    let gave : Gave 16777216 held held' c.as_slice.result.now = subst (λ (b : List ℕ). Gave 16777216 held held' b) (sym c.as_slice.ensures.value) e.ok in
    let place = c.in-Err-Head.place in
    let still = c.tell.ensures.refused place (c.in-Err-Head.is ∙ ap (λ (x : ReplayFault). Err x) c.in-Err-Head.field-0-is) in
    told-refused c.args.count (seen (g.S.Source.held c.args.source.now) (g.S.Source.held c.read_all.new.source) (g.S.Source.faults c.args.source.now) (g.S.Source.faults c.read_all.new.source)) e.taken (e.cause.spared (λ h. absurd cc)) c.as_slice.result.now gave (g.K.Sink.written c.args.sink.now) (g.K.Sink.written c.tell.new.sink) (g.K.Sink.faults c.args.sink.now) (g.K.Sink.faults c.tell.new.sink)
    place still.0 still.1 still.2
