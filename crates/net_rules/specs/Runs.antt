-- How a run over a link began.
use Rattle.std.specs.Prelude.{◌≡◌, ℕ, List, Option, Some}
use Rattle.tn_outside.specs.Links.{Datagram, Ahead}

-- what the link had ahead, what the clock was to answer, what was written and what was sent
pub record Begun : Type 0 where
  pub ahead : Ahead
  pub clock : List ℕ
  pub written : Option (List ℕ)
  pub sent : Option (List Datagram)

-- it began with these
pub record Begins (o : Begun) (ahead : Option Ahead) (clock written : Option (List ℕ)) (sent : Option (List Datagram)) : Type 0 where
  pub ahead_is : ahead ≡ Some o.ahead
  pub clock_is : clock ≡ Some o.clock
  pub written_is : written ≡ o.written
  pub sent_is : sent ≡ o.sent
