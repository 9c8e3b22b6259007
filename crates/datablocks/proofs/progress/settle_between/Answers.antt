use Rattle.std.proofs.Common.{arith, sym, ◌∙◌, ◌≡◌, ◌<◌, length}
use Rattle.datablocks.proofs.Progressing.{step-done, step-rest, step-told_done, step-told_open}
use Rattle.datablocks.specs.ProgressWords.{progress_at}
use Rattle.notify_window.specs.Carriers.{progress_after}
use Rattle.datablocks.proofs.progress.settle_between.Goals as goal
use Rattle.datablocks.proofs.progress.settle_between.Goals.{then-is_done, else-is_done}

pub loop-i-preserved : goal.loop-i-preserved
loop-i-preserved c =
    let within : c.loop-i.i < length c.loop-i.progress = omega arith in
    let now : c.after_verdict-now.result ≡ progress_after c.args.seq c.args.verdict (progress_at c.loop-i.progress c.loop-i.i) = c.after_verdict-now.ensures in
    record {
      done = step-done c.args.seq c.args.verdict c.args.progress.now c.loop-i.progress c.loop-i.i c.after_verdict-now.result within now c.loop-i.invariant.done (c.loop-i.invariant.rest c.loop-i.i (omega arith));
      rest = step-rest c.args.seq c.args.verdict c.args.progress.now c.loop-i.progress c.loop-i.i c.after_verdict-now.result within now c.loop-i.invariant.rest;
      told = elim c.if-is_done.branch [
        | then-is_done w ↦ rw w.received-is (step-told_done c.args.seq c.args.verdict c.args.progress.now c.loop-i.progress c.loop-i.i c.after_verdict-now.result within now c.loop-i.received w.with_bit-received.result
            (sym c.is_done.ensures ∙ w.if-is_done.true) c.loop-i.invariant.told w.with_bit-received.ensures.set w.with_bit-received.ensures.others)
        | else-is_done w ↦ rw w.received-is (step-told_open c.args.seq c.args.verdict c.args.progress.now c.loop-i.progress c.loop-i.i c.after_verdict-now.result within now c.loop-i.received
            (sym c.is_done.ensures ∙ w.if-is_done.false) (omega arith) c.loop-i.invariant.told)
      ];
    }
