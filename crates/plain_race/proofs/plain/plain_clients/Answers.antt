use Rattle.std.proofs.Common.{◌∙◌, List, length, ap, arith, length-append, ◌∷◌, []}
use Rattle.legal_race.specs.race_history.declared.race.RaceClient.{RaceClient}
use Rattle.plain_race.proofs.Calls.{plain_more}
use Rattle.plain_race.proofs.plain.plain_clients.Goals as goal

pub loop-c-preserved : goal.loop-c-preserved
loop-c-preserved c =
    let many = c.loop-c.invariant.many in
    let long = ap (λ (l : List RaceClient). length l) c.in_ok-push.ensures.added ∙ length-append c.loop-c.clients (c.in_ok-client.client ∷ []) in
    record {
      many = omega (arith, long, many);
      each = plain_more c.args.script.now c.loop-c.clients c.push.new.self c.loop-c.c c.in_ok-client.client many c.in_ok-push.ensures.added c.loop-c.invariant.each c.in_ok-client.ensures;
    }
