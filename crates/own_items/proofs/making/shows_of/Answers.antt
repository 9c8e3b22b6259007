use Rattle.std.proofs.Common.{◌∙◌, ℤ, List, Some, ap, ◌<◌, length}
use Rattle.std.proofs.lemmas.List.{map_more}
use Rattle.std.proofs.lemmas.List.Elements.{All-get_or}
use Rattle.world_scope.specs.declared.viewer.Seen.{Seen}
use Rattle.own_lists.specs.Past.{own_show}
use Rattle.own_items.proofs.MadeItems.{begins, pushed_show}
use Rattle.own_items.proofs.making.shows_of.Goals as goal

pub loop-s-preserved : goal.loop-s-preserved
loop-s-preserved c =
    let seen = c.args.seen.now in
    let w = c.args.world.now in
    let there = All-get_or (λ (s : Seen). s.object < length w.objects) seen c.loop-s.s-index _ c.loop-s-test.true c.requires in
    pushed_show _ _ _ _ _ _ c.in_ok-push.ensures.items c.loop-s.invariant
    (begins w c.args.client _ _ there _ _ _ _ c.all_objects.ensures.value c.kind.ensures c.is_player.ensures (ap (λ (v : List ℤ). Some v) c.from_slice.ensures ∙ c.values.ensures.value))
    (map_more (own_show w c.args.client) seen c.loop-s.s-index _ c.loop-s-test.true)
