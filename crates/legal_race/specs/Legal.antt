-- When a race is legal for a script: what its threads kept is what some order of their steps makes of the script.
use Rattle.std.specs.Prelude.{◌≡◌, ℕ, ◌≤◌, length, slice_get, Some}
use Rattle.match_script.specs.declared.types.Script.{Script}
use Rattle.race_history.specs.kept_pair.Kept.{Replays, terms_in}
use Rattle.race_course.specs.own_lists.Past.{client_terms}
use Rattle.race_history.specs.History.{IsHistoryOf}
use Rattle.race_history.specs.Moves.{MovesFit}
use Rattle.race_course.specs.Messages.{ticks_in}
use Rattle.race_course.specs.Course.{world_of, all_messages}
use Rattle.race_reads.specs.Legal.{AreLegalReads}
use Rattle.race_steps.specs.Asked.{AreAsked}
use Rattle.race_history.specs.declared.race.Race.{Race}
use Rattle.race_history.specs.declared.race.RaceClient.{RaceClient}

-- what was kept of client c is legal
pub record IsClientLegal (script : Script) (race : Race) (c : ℕ) (client : RaceClient) : Type 0 where
  -- its connection was made with what the header says
  pub terms : terms_in client.pair ≡ client_terms script.head c
  -- it is what its kept steps make of a new one, and each of them might be made after those before it
  pub replays : Replays client.pair.pair client.pair.steps
  -- its packs read values that its objects had, at versions that never go down, and the newest one of each field but those that are
  -- still to be sent
  pub reads : AreLegalReads race.values race.words c (terms_in client.pair) client.pair.steps client.objects
  -- its steps are those that the script asks for, and ticks took the first of its accepted moves
  pub asked : AreAsked script.body c client.pair client.objects client.full (all_messages script race.moves c) race.moves

pub record IsLegal (script : Script) (race : Race) : Type 0 where
  -- for each tick of the script a move or none of each client
  pub moves : MovesFit (ticks_in script.body) script.head.clients race.moves
  -- the values are those of the worlds that the moves make
  pub values : IsHistoryOf (world_of script) race.moves race.values
  -- there is a mask word for each client and object
  pub word_clients : script.head.clients ≤ race.words.clients
  pub word_objects : length race.values ≤ race.words.objects
  pub clients : length race.clients ≡ script.head.clients
  pub each : (c : ℕ) (client : RaceClient) → slice_get race.clients c ≡ Some client → IsClientLegal script race c client
