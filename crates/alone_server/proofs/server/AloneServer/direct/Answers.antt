use Rattle.std.proofs.Common.{ap, arith, length}
use Rattle.std.specs.Prelude.{Result, Ok, Err, OnOk, IfOk}
use Rattle.match_report.specs.declared.told.Told.{Told}
use Rattle.own_lists.specs.Kept.{kept}
use Rattle.alone_server.specs.Stands.{table_of}
use Rattle.alone_server.proofs.Sending.{few_up}
use Rattle.alone_server.proofs.Feeding.{line_serves}
use Rattle.alone_server.proofs.Telling.{head, past, stands_there, direct_told}
use Rattle.alone_server.proofs.server.AloneServer.direct.Goals as goal

on_ok : {A E : Type 0} (r : Result A E) (P C : Type 0) → (P → C) → OnOk r P → OnOk r C
on_ok (Ok x) P C f p = f p
on_ok (Err e) P C f p = tt

if_ok : {E : Type 0} (r : Result Told E) (P Q : Told → Type 0) → ((told : Told) → P told → Q told) → IfOk r P → IfOk r Q
if_ok (Ok told) P Q f p = f told p
if_ok (Err e) P Q f p = tt

pub line_on-requires-clause-stands : goal.line_on-requires-clause-stands
line_on-requires-clause-stands c =
    let r = c.requires.may in record { terms = r.terms; course = (kept r.terms r.items).course; stands = r.serves.course }

pub line_on-requires-clause-few : goal.line_on-requires-clause-few
line_on-requires-clause-few c =
    let r = c.requires.may in
    let up = ap length r.serves.course.holds.pair.up in
    omega (arith, up, few_up r.terms r.items, r.few)

pub line_on-requires-clause-kept : goal.line_on-requires-clause-kept
line_on-requires-clause-kept c down = c.requires.may.serves.keeps

pub returns-clause-goes : goal.returns-clause-goes
returns-clause-goes c =
    on_ok c.line_on.result _ _ (λ f t items s may.
    let me = c.args.self.now in
    line_serves me.client me.seat (table_of me) t items s c.args.line.now c.requires.direct may c.line_on.new.seat c.line_on.ensures.keeping (f t (kept t items) s.course))
    c.line_on.ensures.stands

pub returns-clause-told : goal.returns-clause-told
returns-clause-told c =
    if_ok c.line_on.result _ _ (λ told f t items s for.
    let me = c.args.self.now in
    let line = c.args.line.now in
    let named = for c.requires.direct in
    direct_told t s.move_bits s.kinds items line c.requires.direct named told
    (f (head t s.move_bits s.kinds items) (past t s.move_bits s.kinds items) (past t s.move_bits s.kinds items) t.config.client named (stands_there t s.move_bits s.kinds items me.seat s.course)))
    c.line_on.ensures.told
