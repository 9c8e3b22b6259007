use Rattle.std.proofs.Common.{◌≡◌, ℕ, Some, length}
use Rattle.std.specs.Prelude.{slice_get}
use Rattle.legal_race.specs.race_history.declared.race.RaceClient.{RaceClient}
use Rattle.plain_race.specs.Done.{IsPlain}
use Rattle.plain_race.proofs.plain.plain_clients.Given as goal

abbrev pub invariant-loop-c : goal.invariant-loop-c
invariant-loop-c l = record {
  many : length l.clients ≡ l.c;
  each : (c : ℕ) (client : RaceClient) → slice_get l.clients c ≡ Some client → IsPlain l.script c client;
}
