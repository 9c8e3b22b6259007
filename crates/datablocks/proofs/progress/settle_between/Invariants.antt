use Rattle.std.proofs.Common.{◌≡◌, ℕ, ◌<◌, ◌≤◌}
use Rattle.datablocks.specs.ProgressWords.{progress_at, TellsDone}
use Rattle.notify_window.specs.Carriers.{progress_after}
use Rattle.datablocks.proofs.progress.settle_between.Given as goal

abbrev pub invariant-loop-i : goal.invariant-loop-i
invariant-loop-i l = record {
  done : (b : ℕ) → b < l.i → progress_at l.progress b ≡ progress_after l.seq l.verdict (progress_at l.fn.progress b);
  rest : (b : ℕ) → l.i ≤ b → progress_at l.progress b ≡ progress_at l.fn.progress b;
  told : TellsDone l.received l.progress;
}
