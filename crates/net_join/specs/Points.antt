-- A point of a run: what one who joins holds, what the link and the clock have ahead, and what was sent. And how a turn goes on from
-- there.
use Rattle.std.specs.Prelude.{◌≡◌, ℕ, ◌∷◌, List, length, Option}
use Rattle.tn_outside.specs.Links.{Ahead, Datagram, answer_at}
use Rattle.net_rules.specs.Turns.{total, AreTurns, events}
use Rattle.net_rules.specs.Places.{IsPlace}
use Rattle.net_rules.specs.Runs.{Begun}
use Rattle.net_join.specs.Playing.{JoinerState}
use Rattle.net_join.specs.Stages.{IsAt}

pub record Point : Type 0 where
  pub joiner : JoinerState
  pub ahead : Option Ahead
  pub clock : Option (List ℕ)
  pub sent : Option (List Datagram)

abbrev pub point : JoinerState → Option Ahead → Option (List ℕ) → Option (List Datagram) → Point
point joiner ahead clock sent = record { joiner = joiner; ahead = ahead; clock = clock; sent = sent }

-- a turn, behind so many
abbrev pub Turns : ℕ → ℕ → Point → Point → Type 0
Turns start t old new =
    (o : Begun) (counts : List ℕ) → start ≡ answer_at o.clock 0 → length counts ≡ t → AreTurns o.ahead o.clock counts
    → IsPlace o.ahead o.clock old.ahead old.clock (total counts) → IsAt o.sent old.joiner old.sent (events o.ahead counts)
    → (n : ℕ) × AreTurns o.ahead o.clock (n ∷ counts) × IsPlace o.ahead o.clock new.ahead new.clock (total (n ∷ counts))
    × IsAt o.sent new.joiner new.sent (events o.ahead (n ∷ counts))
