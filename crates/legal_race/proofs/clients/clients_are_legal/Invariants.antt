use Rattle.std.proofs.Common.{◌≡◌, ◌<◌, ℕ, Some}
use Rattle.std.specs.Prelude.{slice_get}
use Rattle.race_history.specs.declared.race.RaceClient.{RaceClient}
use Rattle.legal_race.specs.Legal.{IsClientLegal}
use Rattle.legal_race.proofs.clients.clients_are_legal.Given as goal

abbrev pub invariant-loop-c : goal.invariant-loop-c
invariant-loop-c l = record {
  so_far : (c : ℕ) (client : RaceClient) → c < l.c → slice_get l.race.clients c ≡ Some client → IsClientLegal l.script l.race c client;
}
