use Rattle.std.proofs.Common.{◌≡◌, ◌∙◌, ◌*◌, ◌%◌, ◌^◌, true, false, ap, sym, subst}
use Rattle.std.specs.Prelude.{IsTrue, ◌↔◌}
use Rattle.std.specs.Option.{option_map_or}
use Rattle.ghost_scope.specs.Shown.{IsUp, IsAlive}
use Rattle.ghost_masks.specs.StandsFor.{AreOwnFields}
use Rattle.ghost_model.specs.Ghosts.{is_settled}
use Rattle.stream_manager.specs.Stands.{ConnState, ConnStandsFor}
use Rattle.stream_manager.specs.Server.{ghost_log}
use Rattle.own_lists.specs.pair_core.History.{history}
use Rattle.client_seat.specs.Told.{is_newest}
use Rattle.conn_packing.proofs.Scoped.{up-alive}
use Rattle.client_seat.proofs.Copies.{not-of-kind, not-settled, newest-bit}
use Rattle.client_seat.proofs.showing.is_settled.Goals as goal
use Rattle.client_seat.proofs.showing.is_settled.Goals.{then-has_fields, else-has_fields}

pub has_fields-requires : goal.has_fields-requires
has_fields-requires c =
    let up : IsUp c.args.pair.now.conn.masks.periods c.in-Some.d.n = c.requires.up c.in-Some.d c.in-Some.is in
    subst (λ (o : ConnState). IsAlive o.masks.periods c.in-Some.d.n) (sym c.conn-conn.ensures) (record { shown = up.shown; alive = up-alive _ up.up })

pub returns-then-settled : goal.returns-then-settled
returns-then-settled c t steps s =
    let p = c.args.pair.now in
    let d = c.in-Some.d in
    let up : IsUp p.conn.masks.periods d.n = c.requires.up d c.in-Some.is in
    let of_kind : IsTrue c.has_fields.result ↔ AreOwnFields p.conn.masks d.n (1 * 2 ^ c.args.field % 4294967296) =
    subst (λ (o : ConnState). IsTrue c.has_fields.result ↔ AreOwnFields o.masks d.n (1 * 2 ^ c.args.field % 4294967296)) c.conn-conn.ensures c.has_fields.ensures in
    elim c.if-has_fields.branch [
      | then-has_fields w ↦
          (let settled : is_settled (ghost_log (history t steps).server) d.n c.args.field ≡ true =
          sym (w.settled.ensures.told (history t steps).server (subst (λ (o : ConnState). ConnStandsFor o (history t steps).server) (sym c.conn-conn.ensures) s.conn)) ∙ sym w.value-is ∙ c.if-settled.true in
          sym (newest-bit p t steps s d up c.args.field c.requires.field c.has_fields.result of_kind w.if-has_fields.true settled) ∙ ap (λ o. option_map_or (is_newest t steps c.args.field) o false) (sym c.in-Some.is))
      | else-has_fields w ↦ (let no : true ≡ false = sym c.if-settled.true ∙ w.value-is ∙ w.if-has_fields.false in cc)
    ]

pub returns-else-settled : goal.returns-else-settled
returns-else-settled c t steps s =
    let p = c.args.pair.now in
    let d = c.in-Some.d in
    let up : IsUp p.conn.masks.periods d.n = c.requires.up d c.in-Some.is in
    let of_kind : IsTrue c.has_fields.result ↔ AreOwnFields p.conn.masks d.n (1 * 2 ^ c.args.field % 4294967296) =
    subst (λ (o : ConnState). IsTrue c.has_fields.result ↔ AreOwnFields o.masks d.n (1 * 2 ^ c.args.field % 4294967296)) c.conn-conn.ensures c.has_fields.ensures in
    let told : is_newest t steps c.args.field d ≡ false =
    elim c.if-has_fields.branch [
      | then-has_fields w ↦
          (let settled : is_settled (ghost_log (history t steps).server) d.n c.args.field ≡ false =
          sym (w.settled.ensures.told (history t steps).server (subst (λ (o : ConnState). ConnStandsFor o (history t steps).server) (sym c.conn-conn.ensures) s.conn)) ∙ sym w.value-is ∙ c.if-settled.false in
          not-settled p t steps s d up c.args.field c.requires.field c.has_fields.result of_kind w.if-has_fields.true settled)
      | else-has_fields w ↦ not-of-kind p t steps s d up c.args.field c.requires.field c.has_fields.result of_kind w.if-has_fields.false
    ] in
    c.if-settled.false ∙ sym told ∙ ap (λ o. option_map_or (is_newest t steps c.args.field) o false) (sym c.in-Some.is)
