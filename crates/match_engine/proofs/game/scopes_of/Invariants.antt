use Rattle.std.proofs.Common.{◌≡◌, ◌<◌, ℕ, [], length, slice_index_or}
use Rattle.client_scope.specs.StandsFor.{Table, StandsFor}
use Rattle.match_engine.proofs.game.scopes_of.Given as goal

abbrev pub invariant-scopes : goal.invariant-scopes
invariant-scopes l = record {
  count : length l.scopes.items ≡ l._client;
  stands : (c : ℕ) (e : Table) → c < l._client → StandsFor (slice_index_or l.scopes.items c e) [];
}
