use Rattle.std.proofs.Common.{◌+◌, ◌∙◌, refl}
use Rattle.std.specs.Prelude.{slice_get}
use Rattle.world_scope.specs.Views.{look}
use Rattle.world_scope.proofs.WholeWords.{sight_is, glance_at, alive_by}
use Rattle.world_scope.proofs.gather.look_at.Goals as goal

pub returns-clause-seen : goal.returns-clause-seen
returns-clause-seen g c =
    let os = c.args.world.now.objects in
    let n = c.args.from + c.args.k in
    sight_is (look c.args.viewer.now) os n c.sight.result (slice_get os n) refl c.requires.there (λ o at.
    c.sight.ensures o
    (glance_at os c.args.glances.now n _ o c.requires.glances at)
    (c.place.ensures.value ∙ c.requires.places.places c.args.k o c.requires.few at)
    (λ s. c.is_special-special.ensures (c.requires.places.marks c.args.k o c.requires.few at s))
    (alive_by c.args.world.now n o c.requires.alive at)
    (λ own. c.requires.owned n o at own))
