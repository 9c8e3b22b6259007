-- What a match in threads writes: the text of a race that is legal for its script. Threads made a race. Where it is legal, its own text is
-- written. Where it is not, a plain race is told in its place, in which no tick takes a move, and that is said.
use Rattle.std.specs.Prelude.{◌≡◌, ℕ, Bool, true, false, List, Option}
use Rattle.tn_outside.specs.Totals.{Adds, AddsFront}
use Rattle.match_script.specs.declared.types.Script.{Script}
use Rattle.match_script.specs.Ranges.{HasRanges}
use Rattle.match_script.specs.Script.{threads_script_of}
use Rattle.script_input.specs.Outcome.{Row, of_script}
use Rattle.plain_race.specs.legal_race.race_history.declared.race.Race.{Race}
use Rattle.plain_race.specs.legal_race.Legal.{IsLegal}
use Rattle.plain_race.specs.legal_race.Text.{race_text}
use Rattle.plain_race.specs.Idle.{idle_in}
use Rattle.race_laws.specs.Settled.{SettledShowsNewest}

-- the text of a race that is legal
pub record IsRaceText (script : Script) (race : Race) (text : List ℕ) : Type 0 where
  pub legal : IsLegal script race
  pub told : text ≡ race_text script race

-- the text of a plain race
pub record IsPlainText (script : Script) (text : List ℕ) : Type 0 where
  pub race : Race
  pub race_text_is : IsRaceText script race text
  pub idle : race.moves ≡ idle_in script

-- the text that is told of the race that threads made: its own exactly where it is legal, and else that of a plain race
abbrev pub IsTold : (plain : Bool) → Script → (made : Race) → List ℕ → Type 0
IsTold false script made text = IsRaceText script made text
IsTold true script made text = (IsLegal script made → ⊥) × IsPlainText script text

-- the texts that `threads` may make of a script, its threads' own or plain ones
abbrev pub IsLegalText : (plain : Bool) → Script → List ℕ → Type 0
IsLegalText plain script text = (made : Race) × IsTold plain script made text

-- the command `threads`: it reads a script for threads, and writes such a text
abbrev pub racing : (plain : Bool) → Row
racing plain = of_script threads_script_of HasRanges (IsLegalText plain)

-- in every such text a field that is marked settled, of a client without raw bytes, shows the newest value that the text tells
pub record RaceLaws : Type 0 where
  pub settled : SettledShowsNewest

-- the sink has such a text more
abbrev pub Tells : Bool → Script → Option (List ℕ) → Option (List ℕ) → Type 0
Tells plain script old new = (text : List ℕ) × IsLegalText plain script text × Adds old new text

-- or a front of one
abbrev pub TellsFront : Bool → Script → Option (List ℕ) → Option (List ℕ) → Type 0
TellsFront plain script old new = (text : List ℕ) × IsLegalText plain script text × AddsFront old new text
