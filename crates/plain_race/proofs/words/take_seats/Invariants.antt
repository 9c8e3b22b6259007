use Rattle.std.proofs.Common.{◌≡◌, length}
use Rattle.dirty_lanes.specs.Named.{IsNumbered}
use Rattle.plain_race.proofs.words.take_seats.Given as goal

abbrev pub invariant-loop-client : goal.invariant-loop-client
invariant-loop-client g l = record {
  next : l.seats.next ≡ l._client;
  clients : l.seats.clients ≡ l.clients;
  many : length l.packs.items ≡ l._client;
  numbered : IsNumbered 0 l.packs.items;
}
