use Rattle.std.proofs.Common.{◌≡◌, ◌∙◌, ◌<◌, ℕ, Bool, List, length, get_or, ap, refl}
use Rattle.std.proofs.lemmas.List.Elements.{All-get_or}
use Rattle.std.proofs.lemmas.Option.{slice_get-get_or}
use Rattle.world_rules.specs.declared.object.Object.{Object}
use Rattle.world_rules.specs.Kinds.{kind_of}
use Rattle.world_rules.specs.Flags.{is_player}
use Rattle.world_sim.specs.Worlds.{Worlds}
use Rattle.world_scope.specs.declared.viewer.Seen.{Seen}
use Rattle.race_messages.specs.declared.message.Message.{Message}
use Rattle.race_messages.specs.declared.message.Message.TheVariants as message
use Rattle.race_course.specs.Messages.{show_message}
use Rattle.race_course.proofs.Adding.{one_added}
use Rattle.race_course.proofs.scan.add_shows.Goals as goal

-- what is read of an object says how its period begins
begins : (w : Worlds) (c : ℕ) (s : Seen) (e : Object) → s.object < length w.objects → (os : List Object) (kind : ℕ) (control : Bool) → os ≡ w.objects
    → kind ≡ kind_of (get_or os s.object e).state → control ≡ is_player c (get_or os s.object e)
    → ◌≡◌ {A = Message} (message.Show s.object kind (get_or os s.object e).block s.level control) (show_message w c s)
begins w c s e there os kind control same is_kind is_control =
    ap (λ (z : ℕ × Bool). message.Show s.object z.0 (get_or os s.object e).block s.level z.1) (λ j. (is_kind j, is_control j))
    ∙ rw (same, slice_get-get_or w.objects s.object e there) refl

pub loop-s-preserved : goal.loop-s-preserved
loop-s-preserved c =
    let there = All-get_or (λ (s : Seen). s.object < length c.args.world.now.objects) c.args.shows.now c.loop-s.s-index _ c.loop-s-test.true c.requires in
    c.in_ok-push.ensures.items
    ∙ one_added (show_message c.args.world.now c.args.client) c.args.into.now.items _ c.args.shows.now c.loop-s.s-index _ _ c.loop-s.invariant c.loop-s-test.true
    (begins c.args.world.now c.args.client _ _ there _ _ _ c.all_objects.ensures.value c.kind.ensures c.is_player.ensures)
