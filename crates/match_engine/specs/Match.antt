-- The tie between the match of a script and the lines that were done, the newest first: what it holds stands for them, and
-- the last of them was told.
use Rattle.std.specs.Prelude.{◌≡◌, ℕ, ◌≤◌, List, [], ◌∷◌, Option, Some, None, length, reverse, take}
use Rattle.tn_types.specs.Histories as histories
use Rattle.match_script.specs.declared.types.BodyLine.{BodyLine}
use Rattle.match_script.specs.declared.types.Head.{Head}
use Rattle.match_script.specs.declared.types.Script.{Script}
use Rattle.match_report.specs.declared.told.Told.{Told}
use Rattle.match_laws.specs.Report.{told_after}
use Rattle.match_engine.specs.Stands as held
use Rattle.match_engine.specs.Stands.{GameState, KeepAll}

pub record MatchState : Type 0 where
  pub script : Script
  pub game : GameState
  -- so many lines of the script were done by `next`
  pub place : ℕ
  pub told : Option Told

-- what the last of these lines tells, if there is one
abbrev pub last_told : Head → List BodyLine → Option Told
last_told head [] = None
last_told head (line ∷ past) = Some (told_after head past line)

pub record StandsFor (m : MatchState) (past : List BodyLine) : Type 0 where
  pub head : m.game.head ≡ m.script.head
  pub game : held.StandsFor m.game past
  pub told : m.told ≡ last_told m.script.head past
  pub within : m.place ≤ length m.script.body
  pub keeps : KeepAll m.game.seats  -- what its lines `down` bring

-- only lines of the script were done
abbrev pub IsPlayed : MatchState → Type 0
IsPlayed m = StandsFor m (reverse (take m.place m.script.body))

-- for every list of lines that the old match stood for, the new one stands for it with the line
abbrev pub Does : MatchState → BodyLine → MatchState → Type 0
Does old line new = histories.Does StandsFor old line new
