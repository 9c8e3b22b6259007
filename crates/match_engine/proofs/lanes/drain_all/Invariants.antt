use Rattle.std.proofs.Common.{◌≡◌, take, drop, filter}
use Rattle.std.specs.List.{All}
use Rattle.dirty_lanes.specs.Words.{mask_at}
use Rattle.match_laws.specs.own_lists.Kept.{has_bits}
use Rattle.match_engine.specs.Serving.{OthersStay, marked}
use Rattle.match_engine.proofs.lanes.drain_all.Given as goal

abbrev pub invariant-loop-p : goal.invariant-loop-p
invariant-loop-p l = record {
  drains : l.drains.items ≡ filter has_bits (marked l.fn.lanes l.client (take l.p-index l.shown));
  cleared : All (λ p. mask_at l.lanes l.client p.object ≡ 0) (take l.p-index l.shown);
  rest : All (λ p. mask_at l.lanes l.client p.object ≡ mask_at l.fn.lanes l.client p.object) (drop l.p-index l.shown);
  others : OthersStay l.client l.fn.lanes l.lanes;
}
