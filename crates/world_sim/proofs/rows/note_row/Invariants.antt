use Rattle.std.proofs.Common.{◌≡◌, ◌≤◌, ◌+◌, ◌++◌, length, vec_capacity}
use Rattle.world_sim.specs.Rows.{row_writes}
use Rattle.world_sim.proofs.RowFields.{writes_from}
use Rattle.world_sim.proofs.rows.note_row.Given as goal

abbrev pub invariant-loop-f : goal.invariant-loop-f
invariant-loop-f l = record {
  so_far : l.initial.writes.items ++ row_writes l.object 0 l.before l.now l.versions ≡ writes_from l.writes.items l.object l.f l.before l.now l.versions;
  few : length l.writes.items ≤ length l.initial.writes.items + l.f;
  kept : vec_capacity l.initial.writes ≤ vec_capacity l.writes;
}
