-- A point of a run: what the server holds, what the link and the clock have ahead, what was written and what was sent. And how the
-- calls that receive and the turns go on from there.
use Rattle.std.specs.Prelude.{◌≡◌, ℕ, suc, ◌+◌, ◌<◌, ◌∷◌, List, length, Option}
use Rattle.tn_outside.specs.Links.{Ahead, Datagram, answer_at, found}
use Rattle.net_rules.specs.declared.limits.TheConstants.{MAX_RECEIVES}
use Rattle.net_rules.specs.Turns.{Event, IsTurn, total, AreTurns, with_found, heard, events}
use Rattle.net_rules.specs.Places.{IsPlace, IsDueAt, Listens}
use Rattle.net_rules.specs.Runs.{Begun}
use Rattle.net_serve.specs.Stages.{ServerState, IsAt, IsFront}

pub record Point : Type 0 where
  pub server : ServerState
  pub ahead : Option Ahead
  pub clock : Option (List ℕ)
  pub written : Option (List ℕ)
  pub sent : Option (List Datagram)

abbrev pub point : ServerState → Option Ahead → Option (List ℕ) → Option (List ℕ) → Option (List Datagram) → Point
point server ahead clock written sent = record { server = server; ahead = ahead; clock = clock; written = written; sent = sent }

-- a front of the script was written since, and a front of what is to be sent was sent
abbrev pub IsFrontAt : Begun → List Event → Point → Point → Type 0
IsFrontAt o past old new = IsFront o old.server.script.head new.written new.sent past

-- ---- one call more, whatever was met before

abbrev pub Receives : Point → Point → Type 0
Receives old new =
    (o : Begun) (k : ℕ) (past : List Event) → IsPlace o.ahead o.clock old.ahead old.clock k → IsAt o old.server old.written old.sent past
    → IsPlace o.ahead o.clock new.ahead new.clock (suc k) × IsAt o new.server new.written new.sent (with_found (found o.ahead k) past)

abbrev pub ReceivesFront : Point → Point → Type 0
ReceivesFront old new =
    (o : Begun) (k : ℕ) (past : List Event) → IsPlace o.ahead o.clock old.ahead old.clock k → IsAt o old.server old.written old.sent past
    → IsFrontAt o (with_found (found o.ahead k) past) old new

-- ---- the calls of a turn, which is due behind so many milliseconds

abbrev pub Hears : ℕ → ℕ → Point → Point → Type 0
Hears start due old new =
    (o : Begun) (behind t : ℕ) (past : List Event) → IsPlace o.ahead o.clock old.ahead old.clock behind → IsDueAt o.clock start due t
    → IsAt o old.server old.written old.sent past
    → (n : ℕ) × IsTurn o.ahead o.clock t behind n × IsPlace o.ahead o.clock new.ahead new.clock (behind + n)
    × IsAt o new.server new.written new.sent (heard o.ahead behind n past)

abbrev pub HearsFront : ℕ → ℕ → Point → Point → Type 0
HearsFront start due old new =
    (o : Begun) (behind t : ℕ) (past : List Event) → IsPlace o.ahead o.clock old.ahead old.clock behind → IsDueAt o.clock start due t
    → IsAt o old.server old.written old.sent past
    → (n : ℕ) × (n < MAX_RECEIVES) × Listens o.ahead o.clock t behind n × IsFrontAt o (heard o.ahead behind (suc n) past) old new

-- ---- a turn, behind so many

abbrev pub Turns : ℕ → ℕ → Point → Point → Type 0
Turns start t old new =
    (o : Begun) (counts : List ℕ) → start ≡ answer_at o.clock 0 → length counts ≡ t → AreTurns o.ahead o.clock counts
    → IsPlace o.ahead o.clock old.ahead old.clock (total counts) → IsAt o old.server old.written old.sent (events o.ahead counts)
    → (n : ℕ) × AreTurns o.ahead o.clock (n ∷ counts) × IsPlace o.ahead o.clock new.ahead new.clock (total (n ∷ counts))
    × IsAt o new.server new.written new.sent (events o.ahead (n ∷ counts))

abbrev pub TurnsFront : ℕ → ℕ → Point → Point → Type 0
TurnsFront start t old new =
    (o : Begun) (counts : List ℕ) → start ≡ answer_at o.clock 0 → length counts ≡ t → AreTurns o.ahead o.clock counts
    → IsPlace o.ahead o.clock old.ahead old.clock (total counts) → IsAt o old.server old.written old.sent (events o.ahead counts)
    → (n : ℕ) × AreTurns o.ahead o.clock (n ∷ counts) × IsFrontAt o (events o.ahead (n ∷ counts)) old new
