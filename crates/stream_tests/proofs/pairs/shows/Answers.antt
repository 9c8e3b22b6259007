use Rattle.std.proofs.Common.{◌≡◌, ◌∙◌, ◌<◌, false, refl, length, sym, subst, arith}
use Rattle.ghost_scope.specs.Shown.{up_count, has_control}
use Rattle.stream_manager.specs.Limits.{Terms}
use Rattle.stream_manager.specs.Server.{ghost_log}
use Rattle.stream_manager.specs.Stands.{ConnState, ConnStandsFor}
use Rattle.pair_core.specs.History.{history}
use Rattle.conn_packing.proofs.Scoped.{ups-told, control-told}
use Rattle.stream_tests.proofs.pairs.shows.Goals as goal

pub step-requires-clause-meets : goal.step-requires-clause-meets
step-requires-clause-meets c =
    let r = c.requires in
    let here = c.conn-conn.ensures in
    let known : c.args.kind < length c.conn-conn.result.now.masks.kinds = grind arith in
    let free : up_count c.conn-conn.result.now.masks.periods < 1024 = grind arith in
    let ups = ups-told c.args.pair.now.conn.masks (ghost_log (history c.requires.terms c.requires.steps).server) r.stands.conn.masks in
    let controlled = control-told c.args.pair.now.conn.masks (ghost_log (history c.requires.terms c.requires.steps).server) r.stands.conn.masks in
    let told = c.shows.ensures.told (history c.requires.terms c.requires.steps).server
    (subst (λ (x : ConnState). ConnStandsFor x (history c.requires.terms c.requires.steps).server) (sym here) r.stands.conn) in
    record {
      terms = r.terms;
      steps = r.steps;
      stands = r.stands;
      met = record {
        ranges = record {
          kind = subst (λ (t : Terms). c.args.kind < length t.kinds) r.stands.terms (subst (λ (x : ConnState). c.args.kind < length x.masks.kinds) here known);
          block = grind arith;
          level = grind arith;
        };
        few = omega (arith, ups, subst (λ (x : ConnState). up_count x.masks.periods < 1024) here free);
        numbers = omega (arith, told, c.if-shows.false, c.shows.type_inv);
        alone = λ controls. sym controlled ∙ subst (λ (x : ConnState). has_control x.masks.periods ≡ false) here (c.if-not-may_control.ensures refl controls);
      };
    }
