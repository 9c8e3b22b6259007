use Rattle.std.proofs.Common.{◌≡◌, ◌∙◌, ℕ, ◌<◌, ◌++◌, List, [], ◌∷◌, length, true, sym, ap, subst, arith}
use Rattle.std.specs.Prelude.{ℤ, All, IsSome}
use Rattle.std.proofs.lemmas.List.{length-map}
use Rattle.std.proofs.lemmas.List.Elements.{All-from_recursion}
use Rattle.tn_types.specs.BitWords.{has_bit}
use Rattle.tn_types.specs.declared.choices.Choice.{Choice}
use Rattle.tn_types.specs.declared.choices.Read.{Read}
use Rattle.ghost_model.specs.Ghosts.{Grant}
use Rattle.stream_manager.specs.ghost_masks.Carried.{all_carried, AreValues}
use Rattle.stream_manager.proofs.Below.ghost_masks.Items.{plan_short}
use Rattle.stream_manager.specs.Server.{ghost_log, choices_at, received_at, ghost_room}
use Rattle.stream_manager.specs.Stands.{terms_of}
use Rattle.conn_packing.specs.Packs.{values_of}
use Rattle.conn_packing.specs.Reads.{asked_by_all}
use Rattle.conn_packing.proofs.ReadValues.{supplies, all-may-be-asked, reads-values, same-carried}
use Rattle.conn_packing.proofs.Planned.{planned-items}
use Rattle.conn_packing.proofs.asking.plan_and_ask.Goals as goal
use Rattle.conn_packing.proofs.asking.plan_and_ask.Goals.{After-plan-choices}

pub ask_all-requires-clause-ranged : goal.ask_all-requires-clause-ranged
ask_all-requires-clause-ranged g c =
    let log = c.requires.ranged.0 in
    let s = c.requires.ranged.1 in
    let items = planned-items c.args.conn.now log s in
    let has = supplies (terms_of c.args.conn.now) (ghost_log log) (g.V.Values.ranges c.args.values.now) c.requires.ranged.2 (choices_at (terms_of c.args.conn.now) log) items in
    subst (All (λ (x : Choice). (f : ℕ) → f < 16 → has_bit x.mask f ≡ true → IsSome (g.V.Values.ranges c.args.values.now x.n f))) (sym (c.plan-choices.ensures.choices log s))
    (All-from_recursion (λ (x : Choice). (f : ℕ) → f < 16 → has_bit x.mask f ≡ true → IsSome (g.V.Values.ranges c.args.values.now x.n f)) (choices_at (terms_of c.args.conn.now) log)
    (all-may-be-asked c.args.conn.now.masks.kinds s.masks.table (Grant ∷ ghost_log log) (g.V.Values.ranges c.args.values.now) (choices_at (terms_of c.args.conn.now) log) items has))

pub ask_all-requires-clause-room : goal.ask_all-requires-clause-room
ask_all-requires-clause-room g c =
    let log = c.requires.ranged.0 in
    let s = c.requires.ranged.1 in
    let short = plan_short c.args.conn.now.masks.kinds (received_at log) (Grant ∷ ghost_log log) (tt, s.masks.legal) s.masks.table c.args.conn.now.common.config.version (ghost_room (terms_of c.args.conn.now) log) in
    let count = ap (λ (l : List Choice). length l) (c.plan-choices.ensures.choices log s) in
    let none = ap (λ (l : List ℤ). length l) c.requires.empty in
    let ok = c.args.listed.now.ok in
    let room = c.requires.room in
    rw c.replace-list.ensures.value (omega arith)

pub returns-clause-told : goal.returns-clause-told
returns-clause-told g c =
    let log = c.requires.ranged.0 in
    let s = c.requires.ranged.1 in
    let told = c.ask_all.ensures.told in
    let items = planned-items c.args.conn.now log s in
    let has = supplies (terms_of c.args.conn.now) (ghost_log log) (g.V.Values.ranges c.args.values.now) c.requires.ranged.2 (choices_at (terms_of c.args.conn.now) log) items in
    let values : AreValues (all_carried c.args.conn.now.masks.kinds (Grant ∷ ghost_log log) (choices_at (terms_of c.args.conn.now) log)) (values_of told.reads) =
    reads-values c.args.conn.now.masks.kinds s.masks.table (Grant ∷ ghost_log log) (g.V.Values.ranges c.args.values.now) (choices_at (terms_of c.args.conn.now) log) told.reads items has
    (told.of_fields ∙ ap asked_by_all (c.plan-choices.ensures.choices log s)) told.fit in
    let plan = c.plan-choices.follows.holds-at-none in
    let before : c.replace-list.result.items ≡ [] = ap (λ l. l.items) c.replace-list.ensures.value ∙ c.requires.empty in
    let listed = told.beside ∙ ap (λ (l : List ℤ). l ++ values_of told.reads) before in
    let short = plan_short c.args.conn.now.masks.kinds (received_at log) (Grant ∷ ghost_log log) (tt, s.masks.legal) s.masks.table c.args.conn.now.common.config.version (ghost_room (terms_of c.args.conn.now) log) in
    let count = ap (λ (l : List Choice). length l) (c.plan-choices.ensures.choices log s) in
    let counted = ap (λ (l : List ℤ). length l) listed in
    let all = length-map told.reads (λ (r : Read). r.value) in
    let none = ap (λ (l : List ℤ). length l) before in
    let few = c.ask_all.ensures.few in
    let ok = c.ask_all.result.ok in (
      told.reads,
      λ other so. record {
        asked = told.of_fields ∙ ap asked_by_all (c.plan-choices.ensures.choices other so);
        fit = subst (λ (cs : List Choice). AreValues (all_carried c.args.conn.now.masks.kinds (Grant ∷ ghost_log other) cs) (values_of told.reads)) (sym (c.plan-choices.ensures.choices log s) ∙ c.plan-choices.ensures.choices other so)
            (subst (λ fs. AreValues fs (values_of told.reads))
            (same-carried c.plan-choices.follows.lender-at-none.masks.periods (plan.stands log s).masks.ordered c.args.conn.now.masks.kinds (Grant ∷ ghost_log log) (Grant ∷ ghost_log other) (plan.stands log s).masks.periods (plan.stands other so).masks.periods (choices_at (terms_of c.args.conn.now) log) items) values);
      },
      told.asked,
      listed,
      omega (arith, count, counted, ok, few, none, all, short),
    )
