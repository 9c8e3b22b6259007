-- What a search through cells tells of the objects in them.
use Rattle.std.specs.Prelude.{◌≡◌, ℕ, ◌+◌, ◌*◌, ◌/◌, ◌%◌, Bool, true, false, List, length, slice_get, slice_index_or, Some}
use Rattle.std.specs.List.{AllByRecursion}
use Rattle.world_rules.specs.declared.measures.TheConstants.{DISC_REACH, MINE_REACH}
use Rattle.world_rules.specs.declared.object.Object.{Object}
use Rattle.world_rules.specs.declared.object.Place.{Place}
use Rattle.world_rules.specs.Places.{is_within}
use Rattle.world_rules.specs.Near.{is_target_near}
use Rattle.world_rules.specs.Identity.{LivesOn}
use Rattle.world_rules.specs.Ranges.{PlaceFits, ObjectFits}
use Rattle.world_cells.specs.Cells.{IsGrid}
use Rattle.world_sim.specs.declared.found.Search.{Search}
use Rattle.world_sim.specs.declared.watch.TheConstants.{PLOT_SIDE, PLOTS_ACROSS, PLOTS}

-- the object of this number is none that a disc hits
abbrev pub IsNoTarget : List Object → Object → ℕ → Type 0
IsNoTarget os o n = (t : Object) → slice_get os n ≡ Some t → is_target_near DISC_REACH o t ≡ false

-- the plot of 1,024 by 1,024 that a place lies in, row by row
abbrev pub plot_of : Place → ℕ
plot_of p = p.y / PLOT_SIDE % PLOTS_ACROSS * PLOTS_ACROSS + p.x / PLOT_SIDE % PLOTS_ACROSS

-- each place near one of these lies in a plot that is watched
abbrev pub AreWatched : List Object → List Bool → Type 0
AreWatched standing watched =
    (k : ℕ) (p : Object) (q : Place) → slice_get standing k ≡ Some p → PlaceFits q → is_within MINE_REACH p.place q ≡ true
    → slice_index_or watched (plot_of q) false ≡ true

-- what a tick looks through: all objects with their cells, and those that stand with the plots that they watch
pub record IsSearch (s : Search) : Type 0 where
  pub grid : IsGrid s.cells.now s.objects.now
  pub live_on : AllByRecursion LivesOn s.objects.now
  pub fit : AllByRecursion ObjectFits s.objects.now
  pub room : length s.watched.now ≡ PLOTS
  pub watched_are : AreWatched s.standing.now s.watched.now
