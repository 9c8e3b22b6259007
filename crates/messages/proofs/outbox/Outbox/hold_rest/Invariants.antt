use Rattle.std.proofs.Common.{◌≡◌, ◌+◌, ◌≤◌, ◌++◌, length}
use Rattle.messages.specs.Pieces.{rest_of}
use Rattle.messages.proofs.outbox.Outbox.hold_rest.Given as goal

abbrev pub invariant-rest : goal.invariant-rest
invariant-rest l = record {
  held : l.self.held ++ rest_of l.rest ≡ l.fn.self.held ++ rest_of l.fn.bytes;
  room : length l.self.held + length (rest_of l.rest) ≤ l.self.places;
  places : l.self.places ≡ l.fn.self.places;
}

abbrev pub decreases-rest : goal.decreases-rest
decreases-rest l = length l.rest
