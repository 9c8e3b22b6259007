use Rattle.std.specs.Prelude.{pos}
use Rattle.world_sim.proofs.FiveFields.{five_are, five_counted, five_written}
use Rattle.world_sim.proofs.rows.change_player.Goals as goal

pub returns-clause-values : goal.returns-clause-values
returns-clause-values c =
    rw (c.change_field-5.ensures.values, c.change_field-4.ensures.values, c.change_field-3.ensures.values, c.change_field-2.ensures.values, c.change_field.ensures.values)
    (five_are c.args.values.now (pos c.args.place.x) (pos c.args.place.y) (pos c.args.player.now.hp) (pos c.args.player.now.ammo) (pos c.args.player.now.score) c.requires.values)

pub returns-clause-versions : goal.returns-clause-versions
returns-clause-versions c =
    rw (c.change_field-5.ensures.versions, c.change_field-4.ensures.versions, c.change_field-4.ensures.values, c.change_field-3.ensures.versions, c.change_field-3.ensures.values, c.change_field-2.ensures.versions, c.change_field-2.ensures.values, c.change_field.ensures.versions, c.change_field.ensures.values)
    (five_counted c.args.values.now c.args.versions.now (pos c.args.place.x) (pos c.args.place.y) (pos c.args.player.now.hp) (pos c.args.player.now.ammo) (pos c.args.player.now.score) c.requires.values c.requires.versions)

pub returns-clause-writes : goal.returns-clause-writes
returns-clause-writes c =
    rw (c.change_field-5.ensures.writes, c.change_field-4.ensures.writes, c.change_field-4.ensures.versions, c.change_field-4.ensures.values, c.change_field-3.ensures.writes, c.change_field-3.ensures.versions, c.change_field-3.ensures.values, c.change_field-2.ensures.writes, c.change_field-2.ensures.versions, c.change_field-2.ensures.values, c.change_field.ensures.writes, c.change_field.ensures.versions, c.change_field.ensures.values)
    (five_written c.args.writes.now.items c.args.object c.args.values.now c.args.versions.now (pos c.args.place.x) (pos c.args.place.y) (pos c.args.player.now.hp) (pos c.args.player.now.ammo) (pos c.args.player.now.score) c.requires.values c.requires.versions)
