use Rattle.std.proofs.Common.{◌≡◌, take}
use Rattle.match_engine.specs.Serving.{marked}
use Rattle.match_engine.proofs.lanes.written_of.Given as goal

abbrev pub invariant-loop-p : goal.invariant-loop-p
invariant-loop-p l = l.written.items ≡ marked l.lanes l.client (take l.p-index l.shown)
