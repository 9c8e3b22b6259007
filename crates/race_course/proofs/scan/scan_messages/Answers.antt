use Rattle.std.proofs.Common.{◌<◌, List, length, sym, ap, subst, arith}
use Rattle.std.specs.List.{All}
use Rattle.world_scope.specs.declared.viewer.Seen.{Seen}
use Rattle.race_course.proofs.Rising.{seen_few, shown_there}
use Rattle.race_course.proofs.scan.scan_messages.Goals as goal

pub scan-requires-clause-few : goal.scan-requires-clause-few
scan-requires-clause-few c =
    let few = seen_few (length c.args.world.now.objects) c.visible.new.out.items c.visible.ensures.rising c.visible.ensures.there in
    let same = ap (λ (seen : List Seen). length seen) c.deref.ensures.value in
    omega (arith, few, same)

pub add_changes-requires : goal.add_changes-requires
add_changes-requires c =
    let past = c.requires.stands in
    shown_there (λ (s : Seen). s.object < length c.args.world.now.objects) c.scan.new.self c.deref.result.now past.0 (c.in_ok-scan.ensures.stands past.0 past.1)
    (subst (λ (seen : List Seen). All (λ (s : Seen). s.object < length c.args.world.now.objects) seen) (sym c.deref.ensures.value) c.visible.ensures.there)

pub returns-in_default-add_changes-clause-count : goal.returns-in_default-add_changes-clause-count
returns-in_default-add_changes-clause-count c =
    let few = seen_few (length c.args.world.now.objects) c.visible.new.out.items c.visible.ensures.rising c.visible.ensures.there in
    let same = ap (λ (seen : List Seen). length seen) c.deref.ensures.value in
    let most = c.in_ok-scan.ensures.count in
    omega (arith, few, same, most)

pub returns-clause-count : goal.returns-clause-count
returns-clause-count c =
    let few = seen_few (length c.args.world.now.objects) c.visible.new.out.items c.visible.ensures.rising c.visible.ensures.there in
    let same = ap (λ (seen : List Seen). length seen) c.deref.ensures.value in
    let most = c.in_ok-scan.ensures.count in
    omega (arith, few, same, most)
