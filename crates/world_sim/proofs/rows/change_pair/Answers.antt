use Rattle.std.proofs.Common.{refl}
use Rattle.std.specs.Prelude.{pos}
use Rattle.world_sim.proofs.RowFields.{two_are, two_counted, two_written}
use Rattle.world_sim.proofs.rows.change_pair.Goals as goal

pub returns-clause-values : goal.returns-clause-values
returns-clause-values c =
    rw (c.change_field-2.ensures.values, c.change_field.ensures.values)
    (two_are c.args.values.now (pos c.args.first) (pos c.args.second) _ c.requires.values refl)

pub returns-clause-versions : goal.returns-clause-versions
returns-clause-versions c =
    rw (c.change_field-2.ensures.versions, c.change_field.ensures.versions, c.change_field.ensures.values)
    (two_counted c.args.values.now c.args.versions.now (pos c.args.first) (pos c.args.second) _ c.requires.values c.requires.versions refl)

pub returns-clause-writes : goal.returns-clause-writes
returns-clause-writes c =
    rw (c.change_field-2.ensures.writes, c.change_field.ensures.writes, c.change_field.ensures.versions, c.change_field.ensures.values)
    (two_written c.args.writes.now.items c.args.object c.args.values.now c.args.versions.now (pos c.args.first) (pos c.args.second) _ c.requires.values c.requires.versions refl)
