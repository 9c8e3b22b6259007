use Rattle.std.proofs.Common.{List, ℕ, subst, arith}
use Rattle.std.specs.Prelude.{Result, Ok, Err, OnOk}
use Rattle.std.proofs.Common.{◌∷◌}
use Rattle.relay_model.specs.Watching.{Took, watched}
use Rattle.relay_model.specs.Items.{posting}
use Rattle.relay_spectator.specs.Spectators.{Holds}
use Rattle.relay_spectator.specs.Feeding.{changed_items}
use Rattle.relay_spectator.proofs.Feeding.{few_changed}
use Rattle.relay_spectator.proofs.spectator.Spectator.take.Goals as goal

pub change-requires : goal.change-requires
change-requires c =
    let r = c.requires in
    record {
      terms = r.terms;
      packet = r.packet;
      events = r.events;
      follows = r.follows;
      is = record { kills = r.told.kills; changes = r.told.changes; met = r.met };
    }

pub post_all-requires : goal.post_all-requires
post_all-requires c =
    let r = c.requires in
    let few = few_changed r.terms r.packet r.events in
    let lt = r.met.few in
    record {
      terms = r.terms;
      items = changed_items r.terms r.packet r.events;
      slots = watched (Took r.packet ∷ r.events);
      holds = c.in_ok-change.ensures r.terms r.packet r.events r.follows (record { kills = r.told.kills; changes = r.told.changes; met = r.met });
      few = omega (arith, few, lt);
    }

map-ok : {T E P Q : Type 0} (r : Result T E) → (P → Q) → OnOk r P → OnOk r Q
map-ok (Ok x) f p = f p
map-ok (Err e) f p = tt

pub returns : goal.returns
returns c = map-ok c.post_all.result (λ posts t p events follows told met.
    let w = watched (Took p ∷ events) in
    let holds = posts t (changed_items t p events) w (c.in_ok-change.ensures t p events follows (record { kills = told.kills; changes = told.changes; met = met })) in
    subst (λ (l : List (List ℕ)). Holds c.post_all.new.self t (posting t l (changed_items t p events)) w) told.delivers holds) c.post_all.ensures
