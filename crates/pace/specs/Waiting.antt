-- How long a datagram has to wait, if nothing is told until then.
use Rattle.std.specs.Prelude.{ℕ, ◌+◌, ◌≤◌, ◌<◌, List}
use Rattle.pace.specs.declared.rate.PaceTerms.{PaceTerms}
use Rattle.pace.specs.Pacing.{PaceEvent, Pacing, StandsFor, allowed_at}

-- after this time it may go, and no sooner
pub record IsWait (terms : PaceTerms) (start : ℕ) (bytes now wait : ℕ) (log : List PaceEvent) : Type 0 where
  pub enough : bytes ≤ allowed_at terms start log (now + wait)
  pub no_sooner : (sooner : ℕ) → sooner < wait → allowed_at terms start log (now + sooner) < bytes

-- for every list that was told
abbrev pub IsWaitOf : Pacing → ℕ → ℕ → ℕ → Type 0
IsWaitOf p bytes now wait = (log : List PaceEvent) → StandsFor p log → IsWait p.terms p.start bytes now wait log
