-- What a walk over the objects of a world stands on, word by word.
use Rattle.std.specs.Prelude.{◌≡◌, ℕ, ◌≤◌, ◌+◌, map}
use Rattle.tn_types.specs.declared.limits.TheConstants.{MAX_OBJECTS}
use Rattle.world_cells.specs.Lines.{AreBits}
use Rattle.world_sim.specs.Glances.{glance_of}
use Rattle.world_scope.specs.declared.gather.Walk.{Walk}
use Rattle.world_scope.specs.declared.gather.WalkWord.{WalkWord}
use Rattle.world_scope.specs.Views.{look, IsReady}
use Rattle.world_scope.specs.Rings.{HasPlaces}
use Rattle.world_scope.specs.Candidates.{HasOnePlayer, may_see}

-- a walk's word has the places of 64 objects of its world, and these bits are set for those of them that its viewer may see
pub record IsWalked (walk : Walk) (part : WalkWord) (bits : ℕ) : Type 0 where
  pub glanced : walk.glances.now ≡ map glance_of walk.world.now.objects
  pub placed : HasPlaces part.places part.from walk.world.now.objects
  pub few : part.from + 64 ≤ MAX_OBJECTS
  pub marked : AreBits bits part.from 64 (may_see (look walk.viewer.now)) walk.world.now.objects
  pub owned : HasOnePlayer (look walk.viewer.now) walk.world.now.objects
  pub ready : IsReady walk.viewer.now
