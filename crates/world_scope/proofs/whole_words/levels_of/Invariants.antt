use Rattle.std.proofs.Common.{◌≡◌, ℕ, ◌≤◌, ◌<◌, length}
use Rattle.std.specs.Prelude.{slice_index_or}
use Rattle.world_places.specs.Places.{place_at}
use Rattle.world_scope.specs.Sight.{distance}
use Rattle.world_scope.specs.Rings.{center, rings_out}
use Rattle.world_scope.proofs.whole_words.levels_of.Given as goal

abbrev pub invariant-loop-k : goal.invariant-loop-k
invariant-loop-k l = record {
  many : length l.levels ≡ 64;
  levels : (j : ℕ) → j < l.k → slice_index_or l.levels j 0 ≡ rings_out l.rings (distance (center l.rings) (place_at l.places j));
  furthest : (j : ℕ) → j < l.k → distance (center l.rings) (place_at l.places j) ≤ l.furthest;
  least : (most : ℕ) → ((j : ℕ) → j < l.k → distance (center l.rings) (place_at l.places j) ≤ most) → l.furthest ≤ most;
}
