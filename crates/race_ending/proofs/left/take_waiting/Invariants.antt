use Rattle.std.proofs.Common.{◌≡◌, ◌++◌, List, length}
use Rattle.race_messages.specs.declared.message.Message.{Message}
use Rattle.connection_lock.specs.Rule.{terms_of, progress_in}
use Rattle.connection_lock.specs.Taking.{TakesAll}
use Rattle.race_ending.proofs.left.take_waiting.Given as goal

abbrev pub invariant-each : goal.invariant-each
invariant-each g l = record {
  taken : (behind : List Message) × (l.initial.waiting ≡ behind ++ l.waiting)
      × TakesAll (terms_of l.initial.locked) g.N.LaneName.objects (progress_in l.initial.locked) behind (progress_in l.locked);
  received : l.locked.received ≡ l.initial.locked.received;
  terms : terms_of l.locked ≡ terms_of l.initial.locked;
  client : l.locked.seat.client ≡ l.initial.locked.seat.client;
}

abbrev pub decreases-each : goal.decreases-each
decreases-each g l = length l.waiting
