use Rattle.std.proofs.Common.{◌≡◌, ◌≤◌, ◌-◌, ◌*◌, length, map, vec_capacity}
use Rattle.world_rules.specs.Next.{object_next}
use Rattle.world_cells.specs.Cells.{IsGrid}
use Rattle.world_places.specs.Places.{ArePlaced}
use Rattle.world_sim.specs.Turns.{moment, HasGoing}
use Rattle.world_sim.specs.Glances.{glance_of}
use Rattle.world_sim.proofs.Going.{Turned}
use Rattle.world_sim.proofs.step.turn_all.Given as goal

abbrev pub invariant-loop-i : goal.invariant-loop-i
invariant-loop-i l =
    let os = l.initial.table.objects.items in
    let next = object_next os l.old.moves.now (moment l.old) in
    record {
      turned : Turned os next l.initial.table.rows.items l.i l.table.objects.items l.table.rows.items l.table.beside.writes.items;
      most : l.i ≤ length os;
      glances : l.table.glances.items ≡ map glance_of l.table.objects.items;
      grid : IsGrid l.table.beside.cells l.table.objects.items;
      placed : ArePlaced l.table.beside.places l.table.objects.items;
      going : HasGoing l.table.going l.table.objects.items;
      few : length l.table.beside.writes.items ≤ 5 * l.i;
      room : 5 * 1024 ≤ vec_capacity l.table.beside.writes;
      kept : vec_capacity l.initial.table.objects ≤ vec_capacity l.table.objects;
      rows_kept : vec_capacity l.initial.table.rows ≤ vec_capacity l.table.rows;
      glances_kept : vec_capacity l.initial.table.glances ≤ vec_capacity l.table.glances;
    }

abbrev pub decreases-loop-i : goal.decreases-loop-i
decreases-loop-i l = l.many - l.i
