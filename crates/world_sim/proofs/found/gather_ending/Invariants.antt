use Rattle.std.proofs.Common.{◌≡◌, ◌||◌, ◌≤◌, ◌-◌, length, take, filter}
use Rattle.world_rules.specs.Discs.{is_hitting}
use Rattle.world_sim.specs.Found.{is_triggered_by, is_flag}
use Rattle.world_sim.proofs.Gathered.{marked}
use Rattle.world_sim.proofs.found.gather_ending.Given as goal

abbrev pub invariant-loop-i : goal.invariant-loop-i
invariant-loop-i l = record {
  most : l.i ≤ length l.search.objects.now;
  flags : l.picked.flags.items ≡ filter is_flag (take l.i l.search.objects.now);
  hitting : l.picked.hitting.items ≡ filter (is_hitting l.search.objects.now) (take l.i l.search.objects.now);
  triggered : l.picked.triggered.items ≡ filter (is_triggered_by l.search.standing.now) (take l.i l.search.objects.now);
  marks : l.picked.marks.items ≡ marked l.i (λ o. is_hitting l.search.objects.now o || is_triggered_by l.search.standing.now o) l.search.objects.now;
}

abbrev pub decreases-loop-i : goal.decreases-loop-i
decreases-loop-i l = l.many - l.i
