-- The tie between a match that is served and the lines that were done, the newest first. It is that of a script's match, but for
-- what is kept: a served match hands each datagram on, and no line of it brings one to a client.
use Rattle.std.specs.Prelude.{◌≡◌, List, Option}
use Rattle.tn_types.specs.Histories as histories
use Rattle.match_script.specs.declared.types.BodyLine.{BodyLine}
use Rattle.match_script.specs.declared.types.Script.{Script}
use Rattle.match_report.specs.declared.told.Told.{Told}
use Rattle.match_engine.specs.Stands as held
use Rattle.match_engine.specs.Stands.{GameState}
use Rattle.match_engine.specs.Match.{last_told}

pub record ServedState : Type 0 where
  pub script : Script
  pub game : GameState
  pub told : Option Told

pub record StandsFor (m : ServedState) (past : List BodyLine) : Type 0 where
  pub head : m.game.head ≡ m.script.head
  pub game : held.StandsFor m.game past
  pub told : m.told ≡ last_told m.script.head past

-- for every list of lines that the old match stood for, the new one stands for it with the line
abbrev pub Does : ServedState → BodyLine → ServedState → Type 0
Does old line new = histories.Does StandsFor old line new
