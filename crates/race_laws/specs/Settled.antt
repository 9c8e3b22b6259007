-- What a reader of the text of a legal race may conclude of a field that is marked settled: the client shows for it the newest value that
-- the text tells of the object. The text has all that this speaks of: the values by version, the steps of each client, the object of each
-- of its periods, the mask words at the end, and the client's copies.
use Rattle.std.specs.Prelude.{◌≡◌, ℕ, ℤ, true, List, slice_get, Option, Some}
use Rattle.ghost_model.specs.Ghosts.{slot}
use Rattle.ghost_client.specs.declared.copy.GhostCopy.{GhostCopy}
use Rattle.ghost_client.specs.Copies.{copy_of}
use Rattle.stream_manager.specs.Server.{ghost_log}
use Rattle.stream_manager.specs.Client.{ghosts_came}
use Rattle.pair_core.specs.History.{PairStep, History, history}
use Rattle.pair_core.specs.Conditions.{IsHonest}
use Rattle.match_script.specs.declared.types.Script.{Script}
use Rattle.match_script.specs.Ranges.{HasRanges}
use Rattle.match_report.specs.declared.copies.FieldTold.{FieldTold}
use Rattle.match_laws.specs.client_seat.Told.{holder_at, field_told}
use Rattle.match_laws.specs.Values.{IsShownFor}
use Rattle.legal_race.specs.race_history.History.{Values, version_told, newest}
use Rattle.legal_race.specs.race_text.Showing.{left_over}
use Rattle.legal_race.specs.race_history.kept_pair.Kept.{terms_in, newest_first}
use Rattle.legal_race.specs.race_history.declared.race.Race.{Race}
use Rattle.legal_race.specs.race_history.declared.race.RaceClient.{RaceClient}
use Rattle.legal_race.specs.Legal.{IsLegal}

-- the client's steps, the newest first, and what they made happen at both ends
abbrev pub steps_of : RaceClient → List PairStep
steps_of client = newest_first client.pair.steps

abbrev pub ends_of : RaceClient → History
ends_of client = history (terms_in client.pair) (steps_of client)

-- the client's copy in a slot
abbrev pub copy_at : RaceClient → ℕ → Option GhostCopy
copy_at client at = copy_of (ghosts_came (ends_of client).client) at

-- what the text tells of a field of the copy in a slot of client c
abbrev pub shown_at : Race → ℕ → RaceClient → ℕ → GhostCopy → ℕ → Option FieldTold
shown_at race c client at copy f =
    let left = left_over race.words c client.objects (steps_of client) in
    field_told (terms_in client.pair) (steps_of client) (holder_at (terms_in client.pair) (steps_of client) left at) copy f

-- a field that client c is shown
pub record IsShownField (race : Race) (c : ℕ) (client : RaceClient) (at f : ℕ) (copy : GhostCopy) (told : FieldTold) : Type 0 where
  pub here : copy_at client at ≡ Some copy
  pub shown : shown_at race c client at copy f ≡ Some told

-- it is the newest value that the race tells of the field of the period's object
pub record HasNewest (values : Values) (client : RaceClient) (n f : ℕ) (value : ℤ) : Type 0 where
  pub object : ℕ
  pub begun : slice_get client.objects n ≡ Some object
  pub value_is : version_told values object f (newest values object f) ≡ Some value

-- what is told is shown for that value, of the period that holds the copy's slot at the server
pub record ShowsNewest (values : Values) (client : RaceClient) (at kind f : ℕ) (told : ℤ) : Type 0 where
  pub n : ℕ
  pub holds : slot (ghost_log (ends_of client).server) n ≡ Some at
  pub value : ℤ
  pub has : HasNewest values client n f value
  pub shown_for : IsShownFor kind f value told

-- so it is in every legal race with each field that is told as settled, of a client to whose server no raw bytes came
abbrev pub SettledShowsNewest : Type 0
SettledShowsNewest = (s : Script) (race : Race) (c : ℕ) (client : RaceClient) → HasRanges s → IsLegal s race
    → slice_get race.clients c ≡ Some client → IsHonest (steps_of client)
    → (at f : ℕ) (copy : GhostCopy) (told : FieldTold) → IsShownField race c client at f copy told
    → told.settled ≡ true → ShowsNewest race.values client at copy.kind f told.value
