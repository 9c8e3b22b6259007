use Rattle.std.proofs.Common.{refl, sym, subst}
use Rattle.dirty_lanes.specs.Words.{IsLaidOut}
use Rattle.dirty_lanes.proofs.Changes.{laid_out-new}
use Rattle.dirty_lanes.proofs.Calls.{new_is, news}
use Rattle.dirty_lanes.proofs.plain.PlainLanes.new.Goals as goal

pub invariant_of-result : goal.invariant_of-result
invariant_of-result c =
    let items = c.in-Ok.ensures.items_if_clones_equal (λ y h. h) in
    subst IsLaidOut (sym (new_is _ _ _ items)) (laid_out-new c.args.objects c.args.clients c.requires.some_objects c.requires.few_objects c.requires.some_clients c.requires.few_clients)

pub returns-in-Ok : goal.returns-in-Ok
returns-in-Ok c =
    let items = c.in-Ok.ensures.items_if_clones_equal (λ y h. h) in
    let all = news _ _ _ items in
    record { words = all.words; objects = refl; clients = refl; versions = all.versions; values = all.values; masks = all.masks; log = all.log }
