use Rattle.std.proofs.Common.{◌∙◌, List, [], refl, sym, ap, subst, arith}
use Rattle.notify_window.specs.declared.SendState.{SendState}
use Rattle.notify_window.specs.declared.SendState.TheVariants.{Held, Worn, Room}
use Rattle.stream_manager.specs.Limits.{Terms}
use Rattle.stream_manager.specs.ConnCalls.{Answers, Becomes, Keeps}
use Rattle.stream_manager.specs.Server.{server_state, ghost_log, with_plan}
use Rattle.stream_manager.specs.Stands.{ConnState, ConnStandsFor, terms_of}
use Rattle.tn_types.specs.declared.choices.Drain.{Drain}
use Rattle.conn_packing.specs.Packs.{absorbing}
use Rattle.conn_packing.specs.Reads.{HasRanges, AreReads}
use Rattle.conn_packing.proofs.Absorbed.{absorbed-state, all-drained}
use Rattle.conn_packing.proofs.Scoped.{absorbed-ranges}
use Rattle.conn_packing.proofs.Planned.{plan-fits}
use Rattle.conn_packing.proofs.Sent.{keeps-both}
use Rattle.conn_packing.proofs.packing.begin.Goals as goal

-- what the state behind the drains says of the list before them
state-told : (old conn1 : ConnState) (drains : List Drain) (state : SendState) → Becomes old (absorbing drains) conn1 → Keeps old conn1
    → Answers conn1 (server_state conn1.common.config) state → Answers old (server_state old.common.config) state
state-told old conn1 drains state stands keeps told log s =
    told (absorbing drains log) (stands log s) ∙ ap (λ (t : Terms). server_state t.config (absorbing drains log)) keeps.terms
    ∙ absorbed-state old.common.config drains log

pub absorb_all-requires : goal.absorb_all-requires
absorb_all-requires g c =
    let may = c.requires.may in
    (may.log, may.stands, all-drained (terms_of c.args.conn.now) may.log (server_state c.args.conn.now.common.config may.log) c.args.drains.now may.drained)

pub plan_and_ask-requires-clause-ranged : goal.plan_and_ask-requires-clause-ranged
plan_and_ask-requires-clause-ranged g c =
    let may = c.requires.may in (
      absorbing c.args.drains.now may.log,
      c.absorb_all.ensures.stands may.log may.stands,
      subst (λ (t : Terms). HasRanges t (ghost_log (absorbing c.args.drains.now may.log)) (g.V.Values.ranges c.args.values.now)) (sym c.absorb_all.ensures.keeps.terms)
          (absorbed-ranges (terms_of c.args.conn.now) c.args.drains.now may.log (g.V.Values.ranges c.args.values.now) may.ranged),
    )

pub returns-in-Held-clause-told : goal.returns-in-Held-clause-told
returns-in-Held-clause-told g c = (
  [],
  record {
    stands = c.absorb_all.ensures.stands;
    told = state-told c.args.conn.now c.absorb_all.new.conn c.args.drains.now Held c.absorb_all.ensures.stands c.absorb_all.ensures.keeps c.in-Held.ensures.log;
    read = λ log s. refl;
    ready = sym c.in-Held.ensures.state;
    keeps = c.absorb_all.ensures.keeps;
  },
  g.met.V.Values.asks_none c.args.values.now,
  c.clear.ensures.items,
  omega arith,
)

pub returns-in-Worn-clause-told : goal.returns-in-Worn-clause-told
returns-in-Worn-clause-told g c = (
  [],
  record {
    stands = c.absorb_all.ensures.stands;
    told = state-told c.args.conn.now c.absorb_all.new.conn c.args.drains.now Worn c.absorb_all.ensures.stands c.absorb_all.ensures.keeps c.in-Worn.ensures.log;
    read = λ log s. refl;
    ready = tt;
    keeps = c.absorb_all.ensures.keeps;
  },
  g.met.V.Values.asks_none c.args.values.now,
  c.clear.ensures.items,
  omega arith,
)

pub returns-in-Room-clause-told : goal.returns-in-Room-clause-told
returns-in-Room-clause-told g c =
    let told = c.plan_and_ask.ensures.told in
    let plans = c.plan_and_ask.ensures.planning in
    let absorbs = c.absorb_all.ensures in
    let may = c.requires.may in (
      told.0,
      record {
        stands = λ log s. subst (λ (t : Terms). ConnStandsFor c.plan_and_ask.new.conn (with_plan t (absorbing c.args.drains.now log))) absorbs.keeps.terms
            (plans.stands (absorbing c.args.drains.now log) (absorbs.stands log s));
        told = state-told c.args.conn.now c.absorb_all.new.conn c.args.drains.now Room absorbs.stands absorbs.keeps c.in-Room.ensures.log;
        read = λ log s. subst (λ (t : Terms). AreReads t (absorbing c.args.drains.now log) told.0) absorbs.keeps.terms
            (told.1 (absorbing c.args.drains.now log) (absorbs.stands log s));
        ready = (
          plans.planned,
          λ other so. plan-fits c.absorb_all.new.conn c.plan_and_ask.new.conn (absorbing c.args.drains.now may.log) told.0 (absorbs.stands may.log may.stands) plans
              (told.1 (absorbing c.args.drains.now may.log) (absorbs.stands may.log may.stands)) other so,
        );
        keeps = keeps-both c.args.conn.now c.absorb_all.new.conn c.plan_and_ask.new.conn absorbs.keeps plans.keeps;
      },
      told.2,
      told.3,
      told.4,
    )
