-- The look that a viewer keeps, and how it keeps what a look asks of its player.
use Rattle.std.specs.Prelude.{◌≡◌, ◌≤◌, ◌<◌, ◌+◌, ◌-◌, ◌/◌, ◌^◌, Some, None}
use Rattle.world_rules.specs.declared.object.Object.{Object}
use Rattle.world_rules.specs.Ranges.{PlaceFits}
use Rattle.world_scope.specs.declared.viewer.Viewer.{Viewer}
use Rattle.world_scope.specs.Scope.{Look}

abbrev pub look : Viewer → Look
look v = record { client = v.client; player = v.player; radius = v.radius }

-- what lies less than the reach away is near enough: nothing without a player
pub record IsReady (v : Viewer) : Type 0 where
  pub most : v.reach ≤ 2 ^ 32
  pub alone : v.player ≡ None → v.reach ≡ 0
  pub place : (p : Object) → v.player ≡ Some p → v.place ≡ p.place
  pub team : (p : Object) → v.player ≡ Some p → v.team ≡ p.team
  pub reach : (p : Object) → v.player ≡ Some p → v.reach ≡ v.radius + 1
  pub fits : PlaceFits v.place
  pub share : 0 < v.reach → v.share ≡ (2 ^ 50 + (v.reach - 1)) / v.reach
