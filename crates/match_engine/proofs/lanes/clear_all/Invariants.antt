use Rattle.std.proofs.Common.{◌≡◌, ℕ, drop, if◌then◌else◌}
use Rattle.std.specs.List.{list_any}
use Rattle.dirty_lanes.specs.Words.{mask_at}
use Rattle.match_engine.specs.Serving.{OthersStay, is_of}
use Rattle.match_engine.proofs.lanes.clear_all.Given as goal

abbrev pub invariant-loop-s : goal.invariant-loop-s
invariant-loop-s l = record {
  masks : (o : ℕ) → (if list_any (is_of o) (drop l.s-index l.shows) then 0 else mask_at l.lanes l.client o)
      ≡ (if list_any (is_of o) l.shows then 0 else mask_at l.fn.lanes l.client o);
  others : OthersStay l.client l.fn.lanes l.lanes;
}
