use Rattle.std.proofs.Common.{◌≡◌, ◌∙◌, ◌++◌, ◌∷◌, [], ◌+◌, ℤ, List, get_or, refl, Option, Some, option_map, drop, sym, ap, append-nil}
use Rattle.std.specs.Prelude.{slice_get}
use Rattle.std.proofs.lemmas.List.{drop_all}
use Rattle.std.proofs.lemmas.Option.{slice_get-get_or}
use Rattle.std.specs.List.{filter_map, enumerate_from}
use Rattle.world_rules.specs.declared.object.Object.{Object}
use Rattle.world_sim.specs.Rows.{values_of}
use Rattle.match_report.specs.declared.living.LivingObject.{LivingObject}
use Rattle.match_laws.specs.World.{living, living_one}
use Rattle.match_engine.proofs.Living.{lives, is_dead}
use Rattle.match_engine.proofs.ticking.living_of.Goals as goal
use Rattle.match_engine.proofs.ticking.living_of.Goals.{then-object+in_ok-push, else-object}

pub loop-n-init : goal.loop-n-init
loop-n-init c = ap (λ (os : List Object). filter_map living_one (enumerate_from 0 os)) (sym c.all_objects-object-items.ensures.value) ∙ ap (λ l. l ++ filter_map living_one (enumerate_from 0 c.all_objects-object-items.result.now)) (sym c.new-living.ensures)

pub loop-n-preserved : goal.loop-n-preserved
loop-n-preserved c =
    let n = c.loop-n.n in
    let os = c.all_objects-object-items.result.now in
    elim c.if-object.branch [
      | then-object+in_ok-push w ↦
          let o = get_or os n _ in
          let there : ◌≡◌ {A = Option (List ℤ)} (Some w.values.result.now) (Some (values_of o)) =
          w.values.ensures.value ∙ ap (λ (l : List Object). option_map values_of (slice_get l n)) (sym c.all_objects-object-items.ensures.value)
          ∙ ap (option_map values_of) (slice_get-get_or os n _ c.loop-n-test.true) in
          let values : w.from_slice.result ≡ values_of o = w.from_slice.ensures ∙ cc in
          lives (living c.args.world.now) c.loop-n.living os n _ c.loop-n-test.true c.loop-n.invariant w.if-object.true
          ∙ ap (λ l. l ++ filter_map living_one (enumerate_from (n + 1) (drop (n + 1) os)))
          (ap (λ (v : LivingObject). c.loop-n.living ++ v ∷ []) (sym (rw (w.kind.ensures, values) refl)) ∙ sym w.in_ok-push.ensures.ok ∙ sym w.living-is)
      | else-object w ↦ is_dead (living c.args.world.now) c.loop-n.living os n _ c.loop-n-test.true c.loop-n.invariant w.if-object.false
          ∙ ap (λ l. l ++ filter_map living_one (enumerate_from (n + 1) (drop (n + 1) os))) (sym w.living-is)
    ]

pub returns : goal.returns
returns c = sym (append-nil c.loop-n.living) ∙ ap (λ (os : List Object). c.loop-n.living ++ filter_map living_one (enumerate_from c.loop-n.n os)) (sym (drop_all c.loop-n.n c.all_objects-object-items.result.now c.loop-n-test.false)) ∙ sym c.loop-n.invariant
