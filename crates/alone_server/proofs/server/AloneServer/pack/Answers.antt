use Rattle.std.proofs.Common.{◌≡◌, ◌∙◌, ◌++◌, List, ◌∷◌, length, take, drop, map, Some, sym, ap, subst}
use Rattle.std.specs.Prelude.{Result, Ok, Err, IfOk, OnOk}
use Rattle.std.specs.List.{AllByRecursion}
use Rattle.std.proofs.lemmas.List.Elements.{recursion_from_All}
use Rattle.match_script.specs.declared.types.BodyLine.TheVariants as script
use Rattle.match_report.specs.declared.told.Told.{Told}
use Rattle.own_lists.specs.Own.{Line}
use Rattle.own_lists.specs.Kept.{kept, drained}
use Rattle.pair_core.specs.Calls.{MayPack}
use Rattle.notify_window.specs.declared.SendState.{SendState}
use Rattle.alone_server.specs.declared.server.AloneServer.{AloneServer}
use Rattle.alone_server.specs.declared.periods.OwnPeriod.{OwnPeriod}
use Rattle.alone_server.specs.Periods.{Rise, drain_of, left_by}
use Rattle.alone_server.specs.Values.{ranges, IsOwnRead}
use Rattle.alone_server.specs.Stands.{Serves, table_of}
use Rattle.alone_server.proofs.Packing.{few_sent, drains_is, left_rises, may_pack, reads_are, packed_tells, packed_serves}
use Rattle.alone_server.proofs.Mapped.{refilled}
use Rattle.alone_server.proofs.server.AloneServer.pack.Goals as goal

if_ok : {E : Type 0} (r : Result Told E) (P Q : Told → Type 0) → ((told : Told) → P told → Q told) → IfOk r P → IfOk r Q
if_ok (Ok told) P Q f p = f told p
if_ok (Err e) P Q f p = tt

on_ok : {E : Type 0} (r : Result Told E) (P : Told → Type 0) (C : Type 0) → ((told : Told) → P told → C) → IfOk r P → OnOk r C
on_ok (Ok told) P C f p = f told p
on_ok (Err e) P C f p = tt

filled : (me : AloneServer) (new old : List OwnPeriod) (st : SendState) → length new ≡ length old → old ≡ me.periods.items → new ≡ left_by st old
    → take me.periods.len (new ++ drop (length new) me.periods.items) ≡ left_by st me.periods.items
filled me new old st long is left =
    refilled me.periods.len new me.periods.items (long ∙ ap (λ (ps : List OwnPeriod). length ps) is ∙ sym me.periods.ok.0) (sym me.periods.ok.0)
    ∙ left ∙ ap (left_by st) is

pub invariant_of-values : goal.invariant_of-values
invariant_of-values c =
    let me = c.args.self.now in
    let r = c.requires in
    let st = c.pack_state.result in
    let left : c.deref.result.now ≡ left_by st me.periods.items = c.deref.ensures.value ∙ filled me c.drain_all.new.periods c.deref_mut.result.now st c.drain_all.auto.periods c.deref_mut.ensures.value c.in-Ok.ensures.left in
    record { rising = subst Rise (sym left) (left_rises me.client me.seat (table_of me) r.terms r.items r.serves st) }

pub pack-requires-clause-few : goal.pack-requires-clause-few
pack-requires-clause-few c = let me = c.args.self.now in let r = c.requires in few_sent me.client me.seat (table_of me) r.terms r.items r.serves r.few

pub pack-requires-clause-may : goal.pack-requires-clause-may
pack-requires-clause-may c =
    let me = c.args.self.now in
    let r = c.requires in
    let st = c.pack_state.result in
    let at = c.pack_state.ensures r.terms (kept r.terms r.items).course r.serves.course in
    let left : c.deref.result.now ≡ left_by st me.periods.items = c.deref.ensures.value ∙ filled me c.drain_all.new.periods c.deref_mut.result.now st c.drain_all.auto.periods c.deref_mut.ensures.value c.in-Ok.ensures.left in
    let drains : c.deref-2.result.now ≡ drained st (map drain_of me.periods.items) =
    c.deref-2.ensures.value ∙ c.in-Ok.ensures.drains ∙ ap (λ ps. drained st (map drain_of ps)) c.deref_mut.ensures.value in
    subst (λ (ps : List OwnPeriod). MayPack me.seat.pair c.deref-2.result.now (ranges ps)) (sym left)
    (may_pack me.client me.seat (table_of me) r.terms r.items r.serves st at c.deref-2.result.now drains)

pub returns-clause-told : goal.returns-clause-told
returns-clause-told c =
    if_ok c.pack.result _ _ (λ told x t items s for.
    let me = c.args.self.now in
    let st = c.pack_state.result in
    let at = c.pack_state.ensures t (kept t items).course s.course in
    let left : c.deref.result.now ≡ left_by st me.periods.items = c.deref.ensures.value ∙ filled me c.drain_all.new.periods c.deref_mut.result.now st c.drain_all.auto.periods c.deref_mut.ensures.value c.in-Ok.ensures.left in
    let drains : c.deref-2.result.now ≡ drained st (map drain_of me.periods.items) =
    c.deref-2.ensures.value ∙ c.in-Ok.ensures.drains ∙ ap (λ ps. drained st (map drain_of ps)) c.deref_mut.ensures.value in
    let ds = drains ∙ drains_is me.client me.seat (table_of me) t items s st at in
    let newest = subst (λ (ps : List OwnPeriod). AllByRecursion (IsOwnRead ps) x.0) left (recursion_from_All (IsOwnRead c.deref.result.now) x.0 x.2.1) in
    let reads = reads_are me.client me.seat (table_of me) t items s st c.deref-2.result.now x.0 ds (x.1.read t (kept t items).course s.course) newest in
    ap (λ (y : Told). Some y) (packed_tells me.client me.seat (table_of me) t items s c.deref-2.result.now x.0 told c.pack.new.self ds reads x.1))
    c.pack.ensures.packs

pub returns-clause-goes : goal.returns-clause-goes
returns-clause-goes c =
    on_ok c.pack.result _ _ (λ told x t items s may.
    let me = c.args.self.now in
    let st = c.pack_state.result in
    let at = c.pack_state.ensures t (kept t items).course s.course in
    let kept_periods = filled me c.drain_all.new.periods c.deref_mut.result.now st c.drain_all.auto.periods c.deref_mut.ensures.value c.in-Ok.ensures.left in
    let left : c.deref.result.now ≡ left_by st me.periods.items = c.deref.ensures.value ∙ kept_periods in
    let drains : c.deref-2.result.now ≡ drained st (map drain_of me.periods.items) =
    c.deref-2.ensures.value ∙ c.in-Ok.ensures.drains ∙ ap (λ ps. drained st (map drain_of ps)) c.deref_mut.ensures.value in
    let ds = drains ∙ drains_is me.client me.seat (table_of me) t items s st at in
    let newest = subst (λ (ps : List OwnPeriod). AllByRecursion (IsOwnRead ps) x.0) left (recursion_from_All (IsOwnRead c.deref.result.now) x.0 x.2.1) in
    let reads = reads_are me.client me.seat (table_of me) t items s st c.deref-2.result.now x.0 ds (x.1.read t (kept t items).course s.course) newest in
    subst (λ (ps : List OwnPeriod). Serves me.client c.pack.new.self (record { shows = me.shows; periods = ps }) t (Line (script.Pack c.args.client) ∷ items)) (sym kept_periods)
    (packed_serves me.client me.seat (table_of me) t items s c.deref-2.result.now x.0 told c.pack.new.self ds reads x.1 st at c.args.client c.pack.ensures.keeping))
    c.pack.ensures.packs
