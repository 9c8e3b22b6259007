use Rattle.std.proofs.Common.{◌≡◌, ◌≤◌, ◌+◌, ◌++◌, length, take, map, vec_capacity}
use Rattle.world_sim.specs.RowsNext.{fresh_row}
use Rattle.world_sim.specs.Glances.{glance_of}
use Rattle.world_cells.specs.Cells.{IsGrid}
use Rattle.world_places.specs.Places.{ArePlaced}
use Rattle.world_sim.proofs.advance.add_made.Given as goal

abbrev pub invariant-loop-o : goal.invariant-loop-o
invariant-loop-o l = record {
  objects : l.objects.items ≡ l.initial.objects.items ++ take l.o-index l.made;
  rows : l.rows.items ≡ l.initial.rows.items ++ map fresh_row (take l.o-index l.made);
  glances : l.glances.items ≡ map glance_of l.objects.items;
  grid : IsGrid l.cells l.objects.items;
  placed : ArePlaced l.places l.objects.items;
  room : vec_capacity l.initial.objects ≤ vec_capacity l.objects;
  rows_room : vec_capacity l.initial.rows ≤ vec_capacity l.rows;
  glances_many : length l.glances.items ≡ length l.initial.glances.items + l.o-index;
  glances_room : vec_capacity l.initial.glances ≤ vec_capacity l.glances;
}
