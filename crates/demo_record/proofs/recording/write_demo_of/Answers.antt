use Rattle.std.proofs.Common.{◌≡◌, true, false, nat_lt, arith}
use Rattle.std.proofs.lemmas.Bool.Decides.{nat_tests}
use Rattle.std.proofs.lemmas.Result.{err_from_is_err_and}
use Rattle.tn_outside.specs.Totals.{Adds, AddsFront}
use Rattle.demo_format.specs.Records.{ending}
use Rattle.demo_record.proofs.More.{none-written, head-front, behind-head, ending-front, all-written, map-ok, map-err}
use Rattle.demo_record.proofs.recording.write_demo_of.Goals as goal

pub returns-then-client-script-clause-demo : goal.returns-then-client-script-clause-demo
returns-then-client-script-clause-demo g c =
    let lacks : nat_lt c.args.client c.args.script.now.head.clients ≡ false = grind (arith, nat_tests, c.if-client-script.true) in
    none-written c.args.script.now c.args.client lacks (g.K.Sink.written c.args.sink.now)

pub returns-in_err-write_head-clause-front : goal.returns-in_err-write_head-clause-front
returns-in_err-write_head-clause-front g c =
    let p = err_from_is_err_and c.from_residual.result c.from_residual.ensures.1 in
    let has : nat_lt c.args.client c.args.script.now.head.clients ≡ true = grind (arith, nat_tests, c.if-client-script.false) in
    rw (p.1) (head-front c.args.script.now c.args.client has (g.K.Sink.written c.args.sink.now) (g.K.Sink.written c.write_head.new.sink) c.in_err-write_head.ensures.front)

pub returns-in_err-write_records-clause-front : goal.returns-in_err-write_records-clause-front
returns-in_err-write_records-clause-front g c =
    let p = err_from_is_err_and c.from_residual-in_err-write_records.result c.from_residual-in_err-write_records.ensures.1 in
    let has : nat_lt c.args.client c.args.script.now.head.clients ≡ true = grind (arith, nat_tests, c.if-client-script.false) in
    rw (p.1) (behind-head c.args.script.now c.args.client has (g.K.Sink.written c.args.sink.now) (g.K.Sink.written c.write_head.new.sink) (g.K.Sink.written c.write_records.new.sink)
    c.in_ok-write_head.ensures.written c.in_err-write_records.ensures.front)

pub returns-clause-demo : goal.returns-clause-demo
returns-clause-demo g c =
    let has : nat_lt c.args.client c.args.script.now.head.clients ≡ true = grind (arith, nat_tests, c.if-client-script.false) in
    let w2 = g.K.Sink.written c.write_records.new.sink in
    let w3 = g.K.Sink.written c.write_ending.new.sink in
    map-ok c.write_ending.result (λ (adds : Adds w2 w3 ending). all-written c.args.script.now c.args.client has (g.K.Sink.written c.args.sink.now) (g.K.Sink.written c.write_head.new.sink) w2 w3
    c.in_ok-write_head.ensures.written c.in_ok-write_records.ensures.written adds) c.write_ending.ensures.written

pub returns-clause-front : goal.returns-clause-front
returns-clause-front g c =
    let has : nat_lt c.args.client c.args.script.now.head.clients ≡ true = grind (arith, nat_tests, c.if-client-script.false) in
    let w2 = g.K.Sink.written c.write_records.new.sink in
    let w3 = g.K.Sink.written c.write_ending.new.sink in
    map-err c.write_ending.result (λ (front : AddsFront w2 w3 ending). ending-front c.args.script.now c.args.client has (g.K.Sink.written c.args.sink.now) (g.K.Sink.written c.write_head.new.sink) w2 w3
    c.in_ok-write_head.ensures.written c.in_ok-write_records.ensures.written front) c.write_ending.ensures.front
