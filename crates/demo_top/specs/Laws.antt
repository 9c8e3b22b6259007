-- What the demo of a client of a match tells where it is replayed: for each line `down` by which a datagram came to the client, in order,
-- a line `take` with the same events; and at its end the client's copies.
use Rattle.std.specs.Prelude.{◌≡◌, ℕ, suc, ◌<◌, ◌++◌, List, [], ◌∷◌, reverse, codes, Option, Ok}
use Rattle.std.specs.List.{flat_map}
use Rattle.match_script.specs.declared.types.Script.{Script}
use Rattle.match_script.specs.Ranges.{HasRanges}
use Rattle.match_script.specs.Script.{script_of}
use Rattle.script_input.specs.Reading.{ReadAs}
use Rattle.match_report.specs.declared.told.EventTold.{EventTold}
use Rattle.match_report.specs.Replays.{shown_line}
use Rattle.copies_told.specs.Told.{copies_told}
use Rattle.world_rules.specs.Kinds.{match_kinds}
use Rattle.demo_format.specs.Head.{read_head}
use Rattle.demo_replay.specs.demo_view.stream_manager.Client.{ClientEvent, client_end, ghosts_came}
use Rattle.demo_replay.specs.demo_view.stream_manager.End.{came_of}
use Rattle.event_manager.specs.Receiving.{run_of}
use Rattle.demo_record.specs.Recording.{AreRecorded, demo_head, demo_text, events_down}
use Rattle.demo_record.specs.Laws.{client_log}
use Rattle.demo_replay.specs.Cuts.{CutsKeepAFront}
use Rattle.demo_replay.specs.Replaying.{Replayed, Took, replayed_line, takes_told, replay_text}

-- a line `take` with each of these lists of events, from number k on
abbrev pub takes_of : ℕ → List (List EventTold) → List Replayed
takes_of k [] = []
takes_of k (events ∷ more) = Took k events ∷ takes_of (suc k) more

-- how many guaranteed events were delivered to a client, and its copies, as the last line of a whole demo tells them
abbrev pub client_shown : List ClientEvent → List ℕ
client_shown log = shown_line (codes "end") (run_of (came_of (client_end log))) (copies_told match_kinds (ghosts_came log))

pub record IsToldOf (script : Script) (c : ℕ) : Type 0 where
  pub head : read_head (demo_text script c) ≡ Ok (demo_head script.head c)
  pub takes : takes_told (demo_text script c) ≡ takes_of 0 (events_down script.head c (reverse script.body))
  pub text : replay_text (demo_text script c)
      ≡ flat_map replayed_line (takes_of 0 (events_down script.head c (reverse script.body)))
      ++ client_shown (client_log script.head c (reverse script.body))

-- of each demo whose records can be read back, as those of one that was written can
abbrev pub TellsTheClient : Type 0
TellsTheClient = (script : Script) (c : ℕ) → HasRanges script → c < script.head.clients → AreRecorded script c → IsToldOf script c

-- a demo that is cut at any byte after its head tells the first lines of the whole one, and then its last line
pub record DemoLaws : Type 0 where
  pub cut_tells_a_front : (bytes : List ℕ) → CutsKeepAFront bytes

-- a script was read, and where the client is one of its match, the client's demo tells what the client was told
abbrev pub ToldOfClient : ℕ → Option (List ℕ) → Option (List ℕ) → Type 0
ToldOfClient client old new =
    (script : Script) × ReadAs script_of old new (Ok script) × (client < script.head.clients → IsToldOf script client)
