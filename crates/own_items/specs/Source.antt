-- The own list that a match by a script makes, item by item: after so many lines of the script it is the client's own list of
-- these lines.
use Rattle.std.specs.Prelude.{◌≡◌, ℕ, ◌<◌, ◌≤◌, ◌∷◌, List, Option, Some, None, length, reverse, take}
use Rattle.match_script.specs.declared.types.BodyLine.{BodyLine}
use Rattle.match_script.specs.declared.types.Head.{Head}
use Rattle.match_script.specs.declared.types.Script.{Script}
use Rattle.match_script.specs.Ranges.{HasRanges}
use Rattle.own_lists.specs.Own as own
use Rattle.own_lists.specs.Past.{after}
use Rattle.match_engine.specs.Match.{MatchState, StandsFor as MatchStandsFor}
use Rattle.own_items.specs.declared.items.OwnItem.{OwnItem}
use Rattle.own_items.specs.Items.{item_of}

pub record SourceState : Type 0 where
  pub script : Script
  pub client : ℕ
  pub game : MatchState
  -- so many lines of the script were done
  pub place : ℕ

-- the first n lines of a script, the newest first
abbrev pub first_lines : Script → ℕ → List BodyLine
first_lines s n = reverse (take n s.body)

-- the client's own list after the first n lines of a script
abbrev pub own_by : Script → ℕ → ℕ → List own.OwnItem
own_by s c n = (after s.head (first_lines s n)).own c

-- the client's whole own list
abbrev pub whole_own : Script → ℕ → List own.OwnItem
whole_own s c = (after s.head (reverse s.body)).own c

-- it made the items of these lines
pub record StandsFor (s : SourceState) (past : List BodyLine) : Type 0 where
  pub ranges : HasRanges s.script
  pub client : s.client < s.script.head.clients
  pub head : s.game.script.head ≡ s.script.head
  pub game : MatchStandsFor s.game past
  pub lines : past ≡ first_lines s.script s.place
  pub within : s.place ≤ length s.script.body

abbrev pub Stands : SourceState → Type 0
Stands s = StandsFor s (first_lines s.script s.place)

-- the items that it made, the newest first
abbrev pub made : SourceState → List own.OwnItem
made s = own_by s.script s.client s.place

-- what a line adds to the client's own list
abbrev pub Added : Head → List BodyLine → BodyLine → ℕ → Option OwnItem → Type 0
Added head past line c None = (after head (line ∷ past)).own c ≡ (after head past).own c
Added head past line c (Some item) = (after head (line ∷ past)).own c ≡ item_of item ∷ (after head past).own c
