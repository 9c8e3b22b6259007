use Rattle.std.proofs.Common.{rules}
use Rattle.ghost_client.proofs.OfKind.{slice_get_found}
use Rattle.tribes_ends.proofs.Hearing.{value-is}
use Rattle.tribes_ends.proofs.drawing.value_shown.Goals as goal

pub level_shown-requires-clause-sound : goal.level_shown-requires-clause-sound
level_shown-requires-clause-sound c =
    (c.requires c.args.field c.in-Some.spec.now c.in-Some-get.level.now
    (slice_get_found c.args.fields.now c.args.field c.in-Some.spec.now c.in-Some.ensures.lookup.3.0 c.in-Some.ensures.lookup.1)
    (slice_get_found c.args.levels.now c.args.field c.in-Some-get.level.now c.in-Some-get.ensures.lookup.3.0 c.in-Some-get.ensures.lookup.1)).0

pub level_shown-requires-clause-fits : goal.level_shown-requires-clause-fits
level_shown-requires-clause-fits c =
    (c.requires c.args.field c.in-Some.spec.now c.in-Some-get.level.now
    (slice_get_found c.args.fields.now c.args.field c.in-Some.spec.now c.in-Some.ensures.lookup.3.0 c.in-Some.ensures.lookup.1)
    (slice_get_found c.args.levels.now c.args.field c.in-Some-get.level.now c.in-Some-get.ensures.lookup.3.0 c.in-Some-get.ensures.lookup.1)).1

pub returns-in-Some-get : goal.returns-in-Some-get
returns-in-Some-get c =
    rw (value-is c.args.fields.now c.args.levels.now c.args.field c.in-Some.spec.now c.in-Some-get.level.now
    (slice_get_found c.args.fields.now c.args.field c.in-Some.spec.now c.in-Some.ensures.lookup.3.0 c.in-Some.ensures.lookup.1)
    (slice_get_found c.args.levels.now c.args.field c.in-Some-get.level.now c.in-Some-get.ensures.lookup.3.0 c.in-Some-get.ensures.lookup.1))
    (search rules)
