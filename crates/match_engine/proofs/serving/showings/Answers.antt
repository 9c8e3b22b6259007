use Rattle.std.proofs.Common.{◌≡◌, ◌∙◌, ◌<◌, ℕ, Bool, List, [], ◌∷◌, ◌++◌, length, get_or, sym, ap, refl}
use Rattle.std.proofs.lemmas.List.{map_more}
use Rattle.std.proofs.lemmas.List.Elements.{All-get_or}
use Rattle.std.proofs.lemmas.Option.{slice_get-get_or}
use Rattle.world_rules.specs.declared.object.Object.{Object}
use Rattle.world_rules.specs.Kinds.{kind_of}
use Rattle.world_rules.specs.Flags.{is_player}
use Rattle.world_sim.specs.Worlds.{Worlds}
use Rattle.world_scope.specs.declared.viewer.Seen.{Seen}
use Rattle.match_laws.specs.own_lists.declared.showing.Showing.{Showing}
use Rattle.match_laws.specs.own_lists.Past.{showing_of}
use Rattle.match_engine.proofs.serving.showings.Goals as goal

-- what is read of an object says how its period begins
begins : (w : Worlds) (c : ℕ) (s : Seen) (e : Object) → s.object < length w.objects → (os : List Object) (kind : ℕ) (control : Bool) → os ≡ w.objects
    → kind ≡ kind_of (get_or os s.object e).state → control ≡ is_player c (get_or os s.object e)
    → ◌≡◌ {A = Showing} (record { kind = kind; block = (get_or os s.object e).block; level = s.level; control = control }) (showing_of w c s)
begins w c s e there os kind control same is_kind is_control =
    ap (λ (z : ℕ × Bool). record { kind = z.0; block = (get_or os s.object e).block; level = s.level; control = z.1 }) (λ j. (is_kind j, is_control j))
    ∙ rw (same, slice_get-get_or w.objects s.object e there) refl

pushed : (new whole ss ts : List Showing) (s t : Showing) → new ≡ ss ++ s ∷ [] → ss ≡ ts → s ≡ t → whole ≡ ts ++ t ∷ [] → new ≡ whole
pushed new whole ss ts s t grown so_far is all = grown ∙ (λ j. so_far j ++ is j ∷ []) ∙ sym all

pub loop-s-preserved : goal.loop-s-preserved
loop-s-preserved c =
    let shows = c.args.shows.now in
    let i = c.loop-s.s-index in
    let there = All-get_or (λ (s : Seen). s.object < length c.args.world.now.objects) shows i _ c.loop-s-test.true c.requires in
    pushed _ _ _ _ _ _ c.in_ok-push.ensures.items c.loop-s.invariant
    (begins c.args.world.now c.args.client _ _ there _ _ _ c.all_objects.ensures.value c.kind.ensures c.is_player.ensures)
    (map_more (showing_of c.args.world.now c.args.client) shows i _ c.loop-s-test.true)
