use Rattle.std.proofs.Common.{◌≡◌, ◌∙◌, map, sym, ap}
use Rattle.std.specs.Prelude.{Result, Ok, Err, IfOk}
use Rattle.match_report.specs.declared.told.Told.{Told}
use Rattle.own_lists.specs.Kept.{kept, undrained}
use Rattle.own_items.specs.client_seat.Told.{show_told}
use Rattle.alone_server.specs.Periods.{drain_of}
use Rattle.alone_server.specs.Stands.{table_of}
use Rattle.alone_server.proofs.Holding.{undrained_is}
use Rattle.alone_server.proofs.Telling.{held_are_up}
use Rattle.alone_server.proofs.server.AloneServer.show.Goals as goal

if_ok : {E : Type 0} (r : Result Told E) (P Q : Told → Type 0) → ((told : Told) → P told → Q told) → IfOk r P → IfOk r Q
if_ok (Ok told) P Q f p = f told p
if_ok (Err e) P Q f p = tt

pub show-requires-clause-up : goal.show-requires-clause-up
show-requires-clause-up c =
    let me = c.args.self.now in
    let r = c.requires in
    held_are_up me.client me.seat (table_of me) r.terms r.items r.serves c.deref-2.result.now
    (c.deref-2.ensures.value ∙ c.in-Ok.ensures ∙ ap (map drain_of) c.deref.ensures.value)

pub returns : goal.returns
returns c =
    let me = c.args.self.now in
    let is : c.deref-2.result.now ≡ map drain_of me.periods.items = c.deref-2.ensures.value ∙ c.in-Ok.ensures ∙ ap (map drain_of) c.deref.ensures.value in
    if_ok c.show.result _ _ (λ told f t items s.
    let k = kept t items in
    f t k.course s.course
    ∙ ap (show_told t k.course me.client) (is ∙ undrained_is (table_of me) k s.periods)
    ∙ ap (λ n. show_told t k.course n (undrained k)) (sym s.client))
    c.show.ensures
