use Rattle.std.proofs.Common.{rules, ◌≡◌, ◌∙◌, sym, subst}
use Rattle.world_rules.specs.Identity.{IsPeopled}
use Rattle.world_scope.specs.Views.{look}
use Rattle.world_scope.specs.Scope.{Look, look_of, visible_list}
use Rattle.world_scope.specs.Candidates.{HasOnePlayer}
use Rattle.world_scope.proofs.Sights.{one_found, has_one, look_is, list_is, looks_few}
use Rattle.world_scope.proofs.SeenList.{exactly_seen, levels_few, objects_rise, all_there, all_alive}
use Rattle.world_scope.proofs.scope.visible_counted.Goals as goal

pub of-viewer-requires : goal.of-viewer-requires
of-viewer-requires g c =
    let w = c.args.world.now in
    record { fits = c.all_objects-objects.ensures.fits; one = one_found w.clients c.all_objects-objects.result.now c.args.client c.all_objects-objects.ensures.peopled }

pub gather-requires-clause-owned : goal.gather-requires-clause-owned
gather-requires-clause-owned g c =
    let w = c.args.world.now in
    let v : look c.of-viewer.result ≡ look_of w c.args.client = look_is w c.args.client c.radius.result (look c.of-viewer.result) c.all_objects-objects.result.now c.of-viewer.ensures.look c.all_objects-objects.ensures.value c.radius.ensures in
    let people : IsPeopled w.clients w.objects = rw c.all_objects-objects.ensures.value at c.all_objects-objects.ensures.peopled in
    subst (λ (u : Look). HasOnePlayer u w.objects) (sym v) (has_one w.clients w c.args.client people)

pub returns-in-Ok : goal.returns-in-Ok
returns-in-Ok g c =
    let w = c.args.world.now in
    let v : look c.of-viewer.result ≡ look_of w c.args.client = look_is w c.args.client c.radius.result (look c.of-viewer.result) c.all_objects-objects.result.now c.of-viewer.ensures.look c.all_objects-objects.ensures.value c.radius.ensures in
    let e : c.gather.new.out.items ≡ visible_list w c.args.client = c.in-Ok.ensures.ok ∙ list_is w c.args.client (look c.of-viewer.result) v in
    record {
      ok = e;
      err = search rules;
      room = search rules;
      kept = search rules;
      steps = looks_few w c.args.client (look c.of-viewer.result) c.args.steps.now c.gather.new.steps v c.gather.ensures.steps;
      exactly = rw e (exactly_seen w c.args.client);
      levels = rw e (levels_few w c.args.client);
      rising = rw e (objects_rise w c.args.client);
      there = rw e (all_there w c.args.client);
      alive = rw e (all_alive w c.args.client);
    }

pub returns-in-Err-clause-room : goal.returns-in-Err-clause-room
returns-in-Err-clause-room g c =
    let w = c.args.world.now in
    let v : look c.of-viewer.result ≡ look_of w c.args.client = look_is w c.args.client c.radius.result (look c.of-viewer.result) c.all_objects-objects.result.now c.of-viewer.ensures.look c.all_objects-objects.ensures.value c.radius.ensures in
    rw (list_is w c.args.client (look c.of-viewer.result) v) at c.in-Err.ensures.room

pub returns-in-Err-clause-steps : goal.returns-in-Err-clause-steps
returns-in-Err-clause-steps g c =
    let w = c.args.world.now in
    let v : look c.of-viewer.result ≡ look_of w c.args.client = look_is w c.args.client c.radius.result (look c.of-viewer.result) c.all_objects-objects.result.now c.of-viewer.ensures.look c.all_objects-objects.ensures.value c.radius.ensures in
    looks_few w c.args.client (look c.of-viewer.result) c.args.steps.now c.gather.new.steps v c.gather.ensures.steps
