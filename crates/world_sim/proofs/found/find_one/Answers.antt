use Rattle.std.proofs.Common.{rules, sym, ◌∙◌}
use Rattle.world_sim.proofs.Glancing.{matters_not}
use Rattle.world_sim.proofs.found.find_one.Goals as goal

pub returns-else-may_matter : goal.returns-else-may_matter
returns-else-may_matter c =
    let none = matters_not c.args.search.now.objects.now c.args.search.now.standing.now c.args.search.now.watched.now c.args.o.now c.args.glance.now c.requires.search.watched_are c.requires.place c.requires.glance (sym c.may_matter.ensures ∙ c.if-may_matter.false) in
    rw (none.flag, none.hit, none.trigger) (record { flags = search rules; hitting = search rules; triggered = search rules; marks = search rules })
