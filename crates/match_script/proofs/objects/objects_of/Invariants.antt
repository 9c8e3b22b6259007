use Rattle.std.proofs.Common.{◌≡◌, ◌≤◌, ◌<◌, ◌-◌, ◌+◌, [], length, map}
use Rattle.std.specs.List.{All}
use Rattle.world_rules.specs.Spawning.{SpawnFits}
use Rattle.world_rules.specs.Identity.{OwnersRise}
use Rattle.match_script.specs.Text.{lines_of}
use Rattle.match_script.specs.Script.{objects_of}
use Rattle.match_script.specs.Following.{Follows}
use Rattle.match_script.proofs.ObjectLines.{behind_objects}
use Rattle.match_script.proofs.objects.objects_of.Given as goal

abbrev pub invariant-lines : goal.invariant-lines
invariant-lines l = record {
  so_far : objects_of l.clients l.blocks (3 + l.blocks) [] (lines_of l.text) ≡ behind_objects l.spawns (objects_of l.clients l.blocks (l.first + l.count) l.spawns (lines_of l.rest));
  few : l.count ≤ 1024;
  count : length l.spawns ≡ l.count;
  follows : Follows l.place l.spawns;
  fits : All (SpawnFits l.clients) l.spawns;
  owners : OwnersRise l.clients 0 (map (λ s. s.owner) l.spawns);
  blocks : All (λ s. s.block < l.fn.blocks) l.spawns;
}

abbrev pub decreases-lines : goal.decreases-lines
decreases-lines l = 1024 - l.count
