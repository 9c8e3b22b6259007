use Rattle.std.proofs.Common.{◌≡◌, ◌++◌, ◌∙◌, get_or, arith, refl}
use Rattle.std.specs.Prelude.{pos}
use Rattle.world_sim.specs.Rows.{field_writes}
use Rattle.world_sim.proofs.RowFields.{writes_more}
use Rattle.world_sim.proofs.rows.note_row.Goals as goal

pub loop-f-preserved : goal.loop-f-preserved
loop-f-preserved c =
    let e : c.note_at.new.writes.items ≡ c.loop-f.writes.items ++ field_writes c.args.object c.loop-f.f (get_or c.args.before.now c.loop-f.f (pos 0)) (get_or c.args.now.now c.loop-f.f (pos 0)) (get_or c.args.versions.now c.loop-f.f 0) = c.note_at.ensures.value in
    record {
      so_far = c.loop-f.invariant.so_far ∙ writes_more c.loop-f.writes.items c.args.object c.loop-f.f c.args.before.now c.args.now.now c.args.versions.now (pos 0) (pos 0) 0 (omega arith) (omega arith) (omega arith) ∙ rw e refl;
      few = omega (arith, c.loop-f.invariant.few, c.note_at.ensures.few);
      kept = omega (arith, c.loop-f.invariant.kept, c.note_at.ensures.kept);
    }
