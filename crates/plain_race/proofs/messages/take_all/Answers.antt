use Rattle.std.proofs.Common.{◌∙◌, arith}
use Rattle.plain_race.proofs.Calls.{may_next, takes_more, message_stops}
use Rattle.plain_race.proofs.messages.take_all.Goals as goal

pub take_one-requires : goal.take_one-requires
take_one-requires c = record {
  may = may_next c.args.pair.now c.loop-message.pair c.loop-message.objects c.args.given.now c.loop-message.message-index c.message-item.result c.requires.may c.loop-message.invariant.taken c.loop-message.invariant.terms (omega (arith, c.loop-message-test.true)) c.message-item.is;
}

pub returns-then-not-branch-clause-stopped : goal.returns-then-not-branch-clause-stopped
returns-then-not-branch-clause-stopped c = λ is.
    message_stops c.args.pair.now c.loop-message.pair c.take_one.new.pair c.loop-message.objects c.take_one.new.objects c.args.given.now c.loop-message.message-index c.message-item.result c.loop-message.invariant.taken (omega (arith, c.loop-message-test.true)) c.message-item.is
    (c.in_ok-take_one.ensures.refused (search)) (c.in_ok-take_one.ensures.unnoted (search))

pub loop-message-preserved : goal.loop-message-preserved
loop-message-preserved c = record {
  taken = takes_more c.args.pair.now c.loop-message.pair c.take_one.new.pair c.loop-message.objects c.take_one.new.objects c.args.given.now c.loop-message.message-index c.message-item.result c.loop-message.invariant.taken (omega (arith, c.loop-message-test.true)) c.message-item.is
      (c.in_ok-take_one.ensures.made (search)) (c.in_ok-take_one.ensures.noted (search));
  terms = c.in_ok-take_one.ensures.terms ∙ c.loop-message.invariant.terms;
}
