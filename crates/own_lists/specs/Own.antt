-- The own list of a client: what its server is told of a match, and nothing else. A line that names the client stands as it is,
-- but for a scan: this tells which of the client's periods end, which come nearer or go away, and what begins. A tick tells
-- the writes to objects that are in a shown period of the client, and how many of its moves were taken. No number of an object
-- stands in it.
use Rattle.std.specs.Prelude.{ℕ, ℤ, Bool, false, ◌==◌, Option, Some, None, List}
use Rattle.match_script.specs.declared.types.BodyLine.{BodyLine}
use Rattle.match_script.specs.declared.types.BodyLine.TheVariants as script
use Rattle.client_scope.specs.declared.period.Near.{Near}
use Rattle.own_lists.specs.declared.showing.Showing.{Showing}

-- a period begins, with these values of its object
pub record OwnShow : Type 0 where
  pub how : Showing
  pub values : List ℤ

-- a field of an object that is in a shown period has another value
pub record OwnWrite : Type 0 where
  pub n : ℕ
  pub field : ℕ
  pub value : ℤ

pub data OwnItem : Type 0 where
  Line : BodyLine → OwnItem
  Scan : (hides : List ℕ) (nears : List Near) (shows : List OwnShow) → OwnItem
  Tick : (writes : List OwnWrite) (taken : ℕ) → OwnItem

-- a client is named, and it is this one
abbrev pub is_named : ℕ → Option ℕ → Bool
is_named c None = false
is_named c (Some d) = d == c

-- a line that stands in an own list as it is
abbrev pub StandsAlone : BodyLine → Type 0
StandsAlone script.Tick = ⊥
StandsAlone (script.Scan c) = ⊥
StandsAlone script.World = ⊥
StandsAlone line = Unit {0}
