use Rattle.std.proofs.Common.{◌≡◌, ◌∙◌, ◌<◌, false, sym, subst, arith}
use Rattle.conn_packing.specs.stream_manager.ghost_scope.Shown.{up_count, has_control}
use Rattle.conn_packing.specs.stream_manager.Server.{ghost_log}
use Rattle.pair_core.specs.History.{history}
use Rattle.pair_core.specs.Stands.{PairState}
use Rattle.conn_packing.proofs.Scoped.{ups-told, control-told}
use Rattle.pair_core.proofs.pair.Pair.show.Goals as goal

pub show-requires-clause-few : goal.show-requires-clause-few
show-requires-clause-few c =
    let r = c.requires in
    subst (λ (x : PairState). up_count x.conn.masks.periods < 1024) (sym c.self.view_is)
    (omega (arith, r.met.few, ups-told c.args.self.now.conn.masks (ghost_log (history r.terms r.steps).server) r.stands.conn.masks))

pub show-requires-clause-alone : goal.show-requires-clause-alone
show-requires-clause-alone c controls =
    let r = c.requires in
    subst (λ (x : PairState). has_control x.conn.masks.periods ≡ false) (sym c.self.view_is)
    (control-told c.args.self.now.conn.masks (ghost_log (history r.terms r.steps).server) r.stands.conn.masks ∙ r.met.alone controls)
