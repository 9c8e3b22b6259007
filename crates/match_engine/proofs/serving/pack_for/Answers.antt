use Rattle.std.proofs.Common.{◌≡◌, ◌∙◌, List, sym, subst}
use Rattle.std.specs.Prelude.{OnOk, IfOk, Result, Ok, Err, All}
use Rattle.std.specs.List.{AllByRecursion}
use Rattle.std.proofs.lemmas.List.Elements.{recursion_from_All}
use Rattle.tn_types.specs.declared.choices.Read.{Read}
use Rattle.match_report.specs.declared.told.Told.{Told}
use Rattle.world_sim.specs.Worlds.{Worlds}
use Rattle.client_scope.specs.declared.period.ShownPeriod.{ShownPeriod}
use Rattle.match_laws.specs.own_lists.Kept.{drains_of}
use Rattle.match_laws.specs.own_lists.Past.{client_terms, kept_by, after}
use Rattle.match_laws.specs.pair_core.Calls.{MayPack}
use Rattle.match_engine.specs.Values.{Rise, ranges, IsNewest}
use Rattle.match_engine.proofs.Fed.{map_if_ok}
use Rattle.match_engine.proofs.Packing.{shown_rises, may_pack, few_sent, reads_are, packed_tells, packed_serves}
use Rattle.match_engine.proofs.serving.pack_for.Goals as goal

pub invariant_of-values : goal.invariant_of-values
invariant_of-values c =
    let h = c.requires.serves in
    record { rising = subst Rise (sym c.shown-shown.ensures) (shown_rises c.args.seat.now c.args.scope.now c.args.world.now c.args.lanes.now c.args.client h.0 h.1 h.2) }

pub pack-requires-clause-few : goal.pack-requires-clause-few
pack-requires-clause-few c =
    let h = c.requires.serves in few_sent c.args.seat.now c.args.scope.now c.args.world.now c.args.lanes.now c.args.client h.0 h.1 h.2 h.3

pub pack-requires-clause-may : goal.pack-requires-clause-may
pack-requires-clause-may c =
    let h = c.requires.serves in
    let is : c.deref.result.now ≡ drains_of (client_terms h.0 c.args.client) (kept_by h.0 (after h.0 h.1) c.args.client) = c.deref.ensures.value ∙ c.in-Ok.ensures.drains c.args.world.now h.0 h.1 h.2 in
    subst (λ (ps : List ShownPeriod). MayPack c.args.seat.now.pair c.deref.result.now (ranges c.args.world.now ps)) (sym c.shown-shown.ensures)
    (may_pack c.args.seat.now c.args.scope.now c.args.world.now c.args.lanes.now c.args.client h.0 h.1 h.2 c.deref.result.now is)

-- what was asked is newest of these periods
newest_here : (w : Worlds) (qs ps : List ShownPeriod) → qs ≡ ps → (rs : List Read) → All (IsNewest w qs) rs → AllByRecursion (IsNewest w ps) rs
newest_here w qs ps same rs h = subst (λ (x : List ShownPeriod). AllByRecursion (IsNewest w x) rs) same (recursion_from_All (IsNewest w qs) rs h)

pub returns-clause-told : goal.returns-clause-told
returns-clause-told c =
    map_if_ok c.pack.result _ _
    (λ told x h past s.
    let is : c.deref.result.now ≡ drains_of (client_terms h c.args.client) (kept_by h (after h past) c.args.client) = c.deref.ensures.value ∙ c.in-Ok.ensures.drains c.args.world.now h past s in
    let newest = newest_here c.args.world.now c.shown-shown.result.now c.args.scope.now.shown c.shown-shown.ensures x.0 x.2.2 in
    let reads = reads_are c.args.seat.now c.args.scope.now c.args.world.now c.args.lanes.now c.args.client h past s c.deref.result.now x.0 is
    (x.1.read (client_terms h c.args.client) (kept_by h (after h past) c.args.client).course s.holds.course) newest in
    packed_tells c.args.seat.now c.args.scope.now c.args.world.now c.args.lanes.now c.args.client h past s c.deref.result.now x.0 told c.pack.new.self is reads x.1)
    c.pack.ensures.packs

serves_if : {E : Type 0} (r : Result Told E) (P : Told → Type 0) (C : Type 0) → ((told : Told) → P told → C) → IfOk r P → OnOk r C
serves_if (Ok told) P C f p = f told p
serves_if (Err e) P C f p = tt

pub returns-clause-serves : goal.returns-clause-serves
returns-clause-serves c =
    serves_if c.pack.result _ _
    (λ told x h past s few.
    let is : c.deref.result.now ≡ drains_of (client_terms h c.args.client) (kept_by h (after h past) c.args.client) = c.deref.ensures.value ∙ c.in-Ok.ensures.drains c.args.world.now h past s in
    let newest = newest_here c.args.world.now c.shown-shown.result.now c.args.scope.now.shown c.shown-shown.ensures x.0 x.2.2 in
    let reads = reads_are c.args.seat.now c.args.scope.now c.args.world.now c.args.lanes.now c.args.client h past s c.deref.result.now x.0 is
    (x.1.read (client_terms h c.args.client) (kept_by h (after h past) c.args.client).course s.holds.course) newest in
    packed_serves c.args.seat.now c.args.scope.now c.args.world.now c.args.lanes.now c.args.client h past s c.deref.result.now x.0 told c.pack.new.self c.drains_for.new.lanes is reads x.1
    c.in-Ok.ensures.others (c.in-Ok.ensures.marks c.args.world.now h past s) few)
    c.pack.ensures.packs
