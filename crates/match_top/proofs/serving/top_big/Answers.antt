use Rattle.std.proofs.Common.{◌≡◌, ◌∙◌, ℕ, List, [], refl, sym, subst}
use Rattle.script_input.specs.Reading.{Seen, seen}
use Rattle.script_input.proofs.Outcome.{ended_with, not_made}
use Rattle.script_maker.specs.Made.{made}
use Rattle.match_script.specs.Ranges.{HasRanges}
use Rattle.match_script.specs.declared.types.Script.{Script}
use Rattle.match_count.specs.Counting.{counts_of, tellings}
use Rattle.match_count.specs.Summary.{summary_text}
use Rattle.match_top.specs.Rows.{counting}
use Rattle.match_top.proofs.serving.top_big.Goals as goal

pub returns-in-Ok-clause-serves : goal.returns-in-Ok-clause-serves
returns-in-Ok-clause-serves g c source untouched =
    let s = c.args.seed in let n = c.args.clients in let k = c.args.steps in
    let e = c.in-Ok.ensures in let r = c.write_counts-ran.ensures in let h = c.end_call.ensures in
    let text : List ℕ = summary_text s n k (counts_of (tellings c.in-Ok.script)) in
    let fits : HasRanges (made s n k) = subst HasRanges e.made (e.ranges c.requires.steps) in
    let is : text ≡ summary_text s n k (counts_of (tellings (made s n k))) = rw e.made refl in
    ended_with (counting s n k) source untouched [] (untouched, refl) refl untouched.1
    (g.K.Sink.written c.args.sink.now) (g.K.Sink.written c.write_counts-ran.new.sink) (g.K.Sink.written c.end_call.new.sink) h.bytes
    (g.K.Sink.faults c.args.sink.now) (g.K.Sink.faults c.write_counts-ran.new.sink) (g.K.Sink.faults c.end_call.new.sink)
    text (fits, is) c.write_counts-ran.result c.end_call.result r.text r.front r.cause h.ends

pub returns-in-Err-clause-serves : goal.returns-in-Err-clause-serves
returns-in-Err-clause-serves g c source untouched =
    let w = g.K.Sink.written c.args.sink.now in let f = g.K.Sink.faults c.args.sink.now in
    not_made (counting c.args.seed c.args.clients c.args.steps).asked (counting c.args.seed c.args.clients c.args.steps).makes source (seen w w f f) untouched (refl, refl)
