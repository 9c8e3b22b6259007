use Rattle.std.proofs.Common.{◌≡◌, ◌++◌, List, length}
use Rattle.rtrb.specs.Ring.{received}
use Rattle.kept_pair.specs.Kept.{terms_in}
use Rattle.race_messages.specs.declared.message.Message.{Message}
use Rattle.connection_lock.specs.Taking.{TakesAll}
use Rattle.connection_lock.specs.Rule.{progress_of, AreLocked}
use Rattle.connection_lock.proofs.taking.take_messages.Given as goal

abbrev pub invariant-loop : goal.invariant-loop
invariant-loop g l = record {
  locked : AreLocked g.N.LaneName.objects l.pair l.seat l.periods;
  terms : terms_in l.pair ≡ terms_in l.initial.pair;
  client : l.seat.client ≡ l.initial.seat.client;
  taken : (ms : List Message) × (received l.inbox ≡ received l.initial.inbox ++ ms)
      × TakesAll (terms_in l.initial.pair) g.N.LaneName.objects (progress_of l.initial.pair l.initial.seat l.initial.periods.objects) ms
      (progress_of l.pair l.seat l.periods.objects) × (length ms ≡ l.counter);
}
