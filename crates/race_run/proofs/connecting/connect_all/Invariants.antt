use Rattle.std.proofs.Common.{◌≡◌, length}
use Rattle.std.specs.List.{All}
use Rattle.race_sim.specs.Ports.{IsNewPort}
use Rattle.race_run.specs.Asking.{AreNumbered}
use Rattle.race_run.proofs.connecting.connect_all.Given as goal

abbrev pub invariant-loop : goal.invariant-loop
invariant-loop g l = record {
  next : l.seats.next ≡ l.counter;
  clients : l.seats.clients ≡ l.fn.head.clients;
  pairs : length l.made.pairs.items ≡ l.counter;
  numbered : AreNumbered l.made.pairs.items;
  ports : length l.made.ports.items ≡ l.counter;
  fresh : All IsNewPort l.made.ports.items;
}
