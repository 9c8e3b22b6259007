-- The command line: its words, without the name of the program. A command is a name and, after it, its numbers, each in its range and
-- written in decimal digits, as in a script. The number of `replay` may be left out.
use Rattle.std.specs.Prelude.{ℕ, suc, ◌≡◌, ◌^◌, ◌<◌, ◌≤◌, take, List, [], ◌∷◌, ◌++◌, length, codes, Result, Ok, Err}
use Rattle.std.specs.Fmt.{decimal}
use Rattle.tn_types.specs.declared.limits.TheConstants.{MAX_CLIENTS}
use Rattle.match_script.specs.declared.limits.TheConstants.{MAX_BODY_LINES}
use Rattle.net_rules.specs.declared.limits.TheConstants.{MAX_TURNS}
use Rattle.commands.specs.declared.command.TheConstants.{MAX_REPLAYED}
use Rattle.commands.specs.declared.command.Command.{Command}
use Rattle.commands.specs.declared.command.Command.TheVariants.{Run, Alone, Big, Threads, Predict, Demo, Replay, ReplayAt, Relay, Serve, Join}

-- the numbers of a match that is made: its seed, its clients, and how many steps or turns it has
abbrev pub MadeFits : (most seed clients count : ℕ) → Type 0
MadeFits most seed clients count = (seed < 2 ^ 32) × (1 ≤ clients) × (clients ≤ MAX_CLIENTS) × (1 ≤ count) × (count ≤ most)

-- the numbers of a command are in their ranges
abbrev pub CommandFits : Command → Type 0
CommandFits Run = Unit {0}
CommandFits (Alone client) = client < MAX_CLIENTS
CommandFits (Big seed clients steps) = MadeFits MAX_BODY_LINES seed clients steps
CommandFits Threads = Unit {0}
CommandFits (Predict client) = client < MAX_CLIENTS
CommandFits (Demo client) = client < MAX_CLIENTS
CommandFits Replay = Unit {0}
CommandFits (ReplayAt count) = count ≤ MAX_REPLAYED
CommandFits Relay = Unit {0}
CommandFits (Serve seed clients turns) = MadeFits MAX_TURNS seed clients turns
CommandFits (Join turns) = (1 ≤ turns) × (turns ≤ MAX_TURNS)

-- the words of a command
abbrev pub spelling : Command → List (List ℕ)
spelling Run = codes "run" ∷ []
spelling (Alone client) = codes "alone" ∷ decimal client ∷ []
spelling (Big seed clients steps) = codes "big" ∷ decimal seed ∷ decimal clients ∷ decimal steps ∷ []
spelling Threads = codes "threads" ∷ []
spelling (Predict client) = codes "predict" ∷ decimal client ∷ []
spelling (Demo client) = codes "demo" ∷ decimal client ∷ []
spelling Replay = codes "replay" ∷ []
spelling (ReplayAt count) = codes "replay" ∷ decimal count ∷ []
spelling Relay = codes "relay" ∷ []
spelling (Serve seed clients turns) = codes "serve" ∷ decimal seed ∷ decimal clients ∷ decimal turns ∷ []
spelling (Join turns) = codes "join" ∷ decimal turns ∷ []

-- the words begin a command: they are its first words, or all of them
abbrev pub BeginsCommand : List (List ℕ) → Type 0
BeginsCommand words = (c : Command) × CommandFits c × (more : List (List ℕ)) × (spelling c ≡ words ++ more)

-- the words are no command, and this is the least place at which the words up to it begin none; where all of them begin a command, it is
-- their number
pub record IsUsage (words : List (List ℕ)) (place : ℕ) : Type 0 where
  pub none : (c : Command) → CommandFits c → words ≡ spelling c → ⊥
  pub within : place ≤ length words
  pub begun : BeginsCommand (take place words)
  pub stops : place < length words → BeginsCommand (take (suc place) words) → ⊥

abbrev pub Says : List (List ℕ) → Result Command ℕ → Type 0
Says words (Ok c) = CommandFits c × (words ≡ spelling c)
Says words (Err place) = IsUsage words place
