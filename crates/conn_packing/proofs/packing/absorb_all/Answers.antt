use Rattle.std.proofs.Common.{◌≡◌, ◌∙◌, ℕ, ◌<◌, ◌^◌, List, length, get_or, take, sym, ap, subst}
use Rattle.std.proofs.lemmas.List.{take_more}
use Rattle.tn_types.specs.declared.choices.Drain.{Drain}
use Rattle.quantised_fields.specs.declared.kind.Kind.{Kind}
use Rattle.ghost_scope.specs.Shown.{IsUp}
use Rattle.stream_manager.specs.ghost_masks.Plan.{fields_of}
use Rattle.stream_manager.specs.Limits.{Terms}
use Rattle.stream_manager.specs.Server.{ServerEvent, ghost_log}
use Rattle.stream_manager.specs.Stands.{ConnStandsFor, terms_of}
use Rattle.conn_packing.specs.Packs.{absorbing}
use Rattle.conn_packing.specs.Reads.{MayBeDrained}
use Rattle.conn_packing.proofs.Lists.{all-get}
use Rattle.conn_packing.proofs.Absorbed.{absorbing-push}
use Rattle.conn_packing.proofs.Scoped.{up-from, kind-here, absorbed-up, absorbed-kind}
use Rattle.conn_packing.proofs.packing.absorb_all.Goals as goal
use Rattle.conn_packing.proofs.packing.absorb_all.Goals.{In-drains}

module _ (c : In-drains) where
  abbrev D : Drain
  D = get_or c.args.drains.now c.drains.drain-index (record { n = 0; bits = 0 })

  abbrev Log : List ServerEvent
  Log = absorbing (take c.drains.drain-index c.args.drains.now) c.requires.0

  now : ConnStandsFor c.drains.conn Log
  now = c.drains.invariant.stands c.requires.0 c.requires.1

  may : MayBeDrained (terms_of c.args.conn.now) (ghost_log c.requires.0) D
  may = all-get (MayBeDrained (terms_of c.args.conn.now) (ghost_log c.requires.0)) c.args.drains.now c.drains.drain-index (record { n = 0; bits = 0 }) c.drains-test.true c.requires.2

  up : IsUp c.drains.conn.masks.periods D.n
  up = up-from c.drains.conn.masks (ghost_log Log) now.masks D.n (absorbed-up (take c.drains.drain-index c.args.drains.now) c.requires.0 D.n may.up)

pub absorb-requires-clause-up : goal.absorb-requires-clause-up
absorb-requires-clause-up c = up ((goal.at.absorb-requires-clause-up c).In-drains)

pub absorb-requires-clause-fields : goal.absorb-requires-clause-fields
absorb-requires-clause-fields g =
    let c = (goal.at.absorb-requires-clause-fields g).In-drains in
    let kind = kind-here c.drains.conn.masks (ghost_log (Log c)) (now c).masks (D c).n (up c) ∙ absorbed-kind (take c.drains.drain-index c.args.drains.now) c.requires.0 (D c).n in
    let kinds : c.drains.conn.masks.kinds ≡ c.args.conn.now.masks.kinds = ap (λ (t : Terms). t.kinds) c.drains.invariant.keeps.terms in
    subst (λ (x : ℕ × List Kind). (D c).bits < 2 ^ length (fields_of x.1 x.0)) (λ j. (sym kind j, sym kinds j)) (may c).fields

pub drains-preserved : goal.drains-preserved
drains-preserved c = record {
  stands = λ log s.
      subst (ConnStandsFor c.absorb.new.self)
      (sym (absorbing-push (take c.drains.drain-index c.args.drains.now) (get_or c.args.drains.now c.drains.drain-index (record { n = 0; bits = 0 })) log) ∙ ap (λ (l : List Drain). absorbing l log) (sym (take_more c.args.drains.now c.drains.drain-index (record { n = 0; bits = 0 }) c.drains-test.true)))
      (c.absorb.ensures.stands (absorbing (take c.drains.drain-index c.args.drains.now) log) (c.drains.invariant.stands log s));
  keeps = record { terms = c.absorb.ensures.keeps.terms ∙ c.drains.invariant.keeps.terms; ready = c.absorb.ensures.keeps.ready ∙ c.drains.invariant.keeps.ready; taken = c.absorb.ensures.keeps.taken ∙ c.drains.invariant.keeps.taken };
}
