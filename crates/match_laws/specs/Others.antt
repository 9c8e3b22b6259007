-- What the lines of other clients are to a client: nothing. Whatever a line that names another client is, and whatever came before it,
-- it leaves a client's own list, what the client's scans saw and the world as they were; and each line that stands in a client's own list
-- names this client. So all that comes from others to a client comes through ticks and the client's own scans.
use Rattle.std.specs.Prelude.{◌≡◌, ◌≢◌, ℕ, List, ◌∷◌, Some}
use Rattle.std.specs.List.{AllByRecursion}
use Rattle.match_script.specs.declared.types.BodyLine.{BodyLine}
use Rattle.match_script.specs.declared.types.Head.{Head}
use Rattle.match_script.specs.Named.{client_named}
use Rattle.client_seat.specs.own_lists.Own.{OwnItem, Line, Scan, Tick}
use Rattle.client_seat.specs.own_lists.Past.{Past, after}

-- what a match knows of a client is as it was
pub record IsLeft (before after : Past) (c : ℕ) : Type 0 where
  pub own : after.own c ≡ before.own c
  pub scans : after.scans c ≡ before.scans c
  pub world : after.world ≡ before.world

-- a line as it stands in a client's own list names this client
abbrev pub NamesClient : ℕ → OwnItem → Type 0
NamesClient c (Line line) = client_named line ≡ Some c
NamesClient c (Scan hides nears shows) = Unit {0}
NamesClient c (Tick writes taken) = Unit {0}

pub record NonInterference : Type 0 where
  pub others : (head : Head) (past : List BodyLine) (line : BodyLine) (c d : ℕ) → client_named line ≡ Some d → c ≢ d
      → IsLeft (after head past) (after head (line ∷ past)) c
  pub named : (head : Head) (past : List BodyLine) (c : ℕ) → AllByRecursion (NamesClient c) ((after head past).own c)
