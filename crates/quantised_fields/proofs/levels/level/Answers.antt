use Rattle.std.proofs.Common.{◌≡◌, rules}
use Rattle.quantised_fields.specs.Levels.{level_of}
use Rattle.quantised_fields.proofs.Specs.{level_near}
use Rattle.quantised_fields.proofs.levels.level.Goals as goal

pub returns-clause-near : goal.returns-clause-near
returns-clause-near c =
    let e : c.nearest_level.result ≡ level_of c.args.spec.now c.args.value = search rules in
    rw e (level_near c.args.spec.now c.args.value c.requires.sound c.requires.least)
