use Rattle.std.proofs.Common.{◌≡◌, ℕ, ◌<◌, drop}
use Rattle.tn_types.specs.declared.limits.TheConstants.{MAX_CLIENTS}
use Rattle.dirty_lanes.specs.Words.{mask_at, SizesStay}
use Rattle.match_engine.specs.Serving.{raised_by}
use Rattle.match_engine.proofs.lanes.raise_all.Given as goal

abbrev pub invariant-loop-write : goal.invariant-loop-write
invariant-loop-write l = record {
  masks : (d o : ℕ) → d < MAX_CLIENTS → raised_by (drop l.write-index l.writes) o (mask_at l.lanes d o) ≡ raised_by l.writes o (mask_at l.fn.lanes d o);
  sizes : SizesStay l.fn.lanes l.lanes;
}
