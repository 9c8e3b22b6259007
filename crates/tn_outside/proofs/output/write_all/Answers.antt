use Rattle.std.proofs.Common.{length, drop, Ok, arith, length-drop, ap, ◌∙◌}
use Rattle.tn_outside.specs.Streams.{WriteAdds}
use Rattle.tn_outside.proofs.Totals.{adds_more}
use Rattle.tn_outside.proofs.output.write_all.Goals as goal

pub loop-done-preserved : goal.loop-done-preserved
loop-done-preserved g c =
    let old = g.K.Sink.written c.args.sink.now in let mid = g.K.Sink.written c.loop-done.sink in let new = g.K.Sink.written c.write.new.self in
    let piece = c.args.piece.now in let d = c.loop-done.done in let k = c.in_ok-count.count in
    let back = c.split_at.ensures.back in
    let adds : WriteAdds mid new (Ok k) (drop d piece) = rw (← back) c.in_ok-count.ensures.bytes in
    record {
      written = adds_more old mid new d k piece c.loop-done.invariant.written adds;
      within = omega (arith, c.in_ok-count.ensures.bound, ap length back, length-drop d piece);
      spared = c.in_ok-count.ensures.cause.worked ∙ c.loop-done.invariant.spared;
    }
