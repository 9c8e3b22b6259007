-- What a scope keeps of a client's scans.
use Rattle.std.specs.Prelude.{◌≡◌, ℕ, List, length}
use Rattle.world_scope.specs.declared.viewer.Seen.{Seen}
use Rattle.client_scope.specs.declared.period.ShownPeriod.{ShownPeriod}
use Rattle.client_scope.specs.declared.period.Near.{Near}
use Rattle.client_scope.specs.Scans.{last, periods, shown}
use Rattle.client_scope.specs.Changes.{hides, nears, shows}
use Rattle.client_scope.specs.Marks.{AreOf}

-- a scope as callers see it
pub record Table : Type 0 where
  pub count : ℕ
  pub shown : List ShownPeriod
  pub hides : List ℕ
  pub nears : List Near
  pub shows : List Seen
  pub marks : List ℕ

-- the scope after these scans, the last one first
pub record StandsFor (t : Table) (scans : List (List Seen)) : Type 0 where
  pub count : t.count ≡ length (periods scans)
  pub shown : t.shown ≡ shown scans
  pub hides : t.hides ≡ hides scans
  pub nears : t.nears ≡ nears scans
  pub shows : t.shows ≡ shows scans
  pub marks : AreOf (last scans) t.marks
