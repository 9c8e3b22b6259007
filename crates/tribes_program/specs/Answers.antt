-- The program: what each command is to do, and that words which are no command touch nothing.
use Rattle.std.specs.Prelude.{ℕ, ◌≡◌, ◌⊎◌, List, [], Option, Some, None, Result, Ok, Err, Bool, true, false}
use Rattle.tn_outside.specs.declared.udp.TheConstants.{SERVER_PORT}
use Rattle.script_input.specs.declared.status.Status.{Status}
use Rattle.script_input.specs.declared.status.Status.TheVariants.{Done, Usage, WriteFault}
use Rattle.script_input.specs.Reading.{Seen, seen, IsUntouched}
use Rattle.script_input.specs.Outcome.{Row, Serves}
use Rattle.commands.specs.declared.command.Command.{Command}
use Rattle.commands.specs.declared.command.Command.TheVariants.{Run, Alone, Big, Threads, Predict, Demo, Replay, ReplayAt, Relay, Serve, Join}
use Rattle.match_top.specs.Rows.{reporting, serving_alone, counting, CommandLaws}
use Rattle.threads_top.specs.Telling.{racing, RaceLaws}
use Rattle.predict_top.specs.Text.{prediction_of, PredictionLaws}
use Rattle.demo_top.specs.Laws.{ToldOfClient, DemoLaws}
use Rattle.demo_top.specs.Rows.{recording, replaying}
use Rattle.relay_top.specs.Text.{relaying, RelayLaws}
use Rattle.net_top.specs.Outcome.{Told, Met, Stays, IsUnmet, NetRow, NetServes, serving, joining, NetLaws}

-- what was told of the sink
abbrev pub sink_of : Met → Seen
sink_of m = seen m.sink.old m.sink.new m.sink.faults m.sink.faults_after

-- a command that makes a text of its input, and leaves the link and the clock as they were
abbrev pub OfInput : Row → Seen → Met → Status → Type 0
OfInput row source m s = Serves row source (sink_of m) s × IsUnmet m

-- a command over the link and the clock, which leaves the source as it was
abbrev pub OverLink : NetRow → Seen → Met → Status → Type 0
OverLink row source m s = NetServes row m s × IsUntouched source

-- the demo of a client was written, and where all of it was, it tells what the client was told
abbrev pub Recorded : (client : ℕ) → Seen → Met → Status → Type 0
Recorded client source m s = OfInput (recording client) source m s × (s ≡ Done → ToldOfClient client source.old source.new)

-- ---- the table: a command, and what it is to do

abbrev pub DoneBy : (plain : Bool) → Command → Seen → Met → Status → Type 0
DoneBy plain Run = OfInput reporting
DoneBy plain (Alone client) = OfInput (serving_alone client)
DoneBy plain (Big seed clients steps) = OfInput (counting seed clients steps)
DoneBy plain Threads = OfInput (racing plain)
DoneBy plain (Predict client) = OfInput (prediction_of client)
DoneBy plain (Demo client) = Recorded client
DoneBy plain Replay = OfInput (replaying None)
DoneBy plain (ReplayAt count) = OfInput (replaying (Some count))
DoneBy plain Relay = OfInput relaying
DoneBy plain (Serve seed clients turns) = OverLink (serving seed clients turns)
DoneBy plain (Join turns) = OverLink (joining turns)

-- ---- the whole call

-- where the words are no command, the answer is `Usage`, and nothing was touched
abbrev pub Answers : (plain : Bool) → Result Command ℕ → Seen → Met → Status → Type 0
Answers plain (Ok c) source m s = DoneBy plain c source m s
Answers plain (Err place) source m s = (s ≡ Usage place) × IsUntouched source × IsUnmet m × Stays m.sink

-- a race was refused: the command runs one, and the text of a plain one was written, or a front of it
abbrev pub IsRefused : Result Command ℕ → Status → Type 0
IsRefused command s = (command ≡ Ok Threads) × ((s ≡ Done) ⊎ (s ≡ WriteFault))

-- what every report keeps, every prediction, every race, every demo, every relay, and every match over a link
pub record ProgramLaws : Type 0 where
  pub commands : CommandLaws
  pub predictions : PredictionLaws
  pub races : RaceLaws
  pub demos : DemoLaws
  pub relays : RelayLaws
  pub links : NetLaws

-- ---- the port

-- a server's port for `serve`, a free one for `join`, and none for a command that needs no link
abbrev pub port : Result Command ℕ → Option ℕ
port (Ok (Serve seed clients turns)) = Some SERVER_PORT
port (Ok (Join turns)) = Some 0
port command = None
