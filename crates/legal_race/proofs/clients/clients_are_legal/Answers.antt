use Rattle.std.proofs.Common.{arith}
use Rattle.race_reads.proofs.Deciding.{holds, fails}
use Rattle.legal_race.specs.Legal.{IsClientLegal}
use Rattle.legal_race.proofs.Places.{lent_at, legal_more, all_below}
use Rattle.legal_race.proofs.clients.clients_are_legal.Goals as goal

pub returns-then-not-branch : goal.returns-then-not-branch
returns-then-not-branch c = λ all.
    let at = lent_at c.as_slice-clients.result.now c.args.race.now.clients c.args.script.now.head.clients c.loop-c.c c.index-clients-c.result c.as_slice-clients.ensures c.requires.clients (omega (arith, c.loop-c-test.true)) c.index-clients-c.is in
    fails c.in_ok-client_is_legal.field-0 (IsClientLegal c.args.script.now c.args.race.now c.loop-c.c c.index-clients-c.result) c.in_ok-client_is_legal.ensures (search) (all c.loop-c.c c.index-clients-c.result at)

pub loop-c-preserved : goal.loop-c-preserved
loop-c-preserved c =
    let at = lent_at c.as_slice-clients.result.now c.args.race.now.clients c.args.script.now.head.clients c.loop-c.c c.index-clients-c.result c.as_slice-clients.ensures c.requires.clients (omega (arith, c.loop-c-test.true)) c.index-clients-c.is in
    record {
      so_far = legal_more c.args.script.now c.args.race.now c.loop-c.c c.index-clients-c.result c.loop-c.invariant.so_far at
          (holds c.in_ok-client_is_legal.field-0 (IsClientLegal c.args.script.now c.args.race.now c.loop-c.c c.index-clients-c.result) c.in_ok-client_is_legal.ensures (search));
    }

pub returns : goal.returns
returns c = λ k client got. c.loop-c.invariant.so_far k client (all_below c.args.race.now k client c.loop-c.c (omega (arith, c.requires.clients, c.loop-c-test.false)) got) got
