-- What a window holds: how many packets this end sent and which of them is the first without a verdict,
-- and the horizon and mask that tell the other end what of its packets was processed. `life` ends the
-- count of packets that this end may send.
use Rattle.std.specs.Prelude.{ℕ, ◌+◌, ◌≤◌, ◌==◌, if◌then◌else◌}
use Rattle.tn_types.specs.declared.limits.TheConstants.{MAX_UNJUDGED_PACKETS, MAX_LIFE}
use Rattle.notify_window.specs.declared.SendState.{SendState}
use Rattle.notify_window.specs.declared.SendState.TheVariants.{Held, Worn, Room}

pub record WindowState : Type 0 where
  pub sent : ℕ
  pub first_unjudged : ℕ
  pub horizon : ℕ
  pub mask : ℕ
  pub life : ℕ

-- the unjudged packets are at most a window of those that were sent
pub record IsBounded (w : WindowState) : Type 0 where
  pub positive : 1 ≤ w.first_unjudged
  pub judged : w.first_unjudged ≤ w.sent + 1
  pub few : w.sent + 1 ≤ w.first_unjudged + MAX_UNJUDGED_PACKETS
  pub living : w.sent ≤ w.life
  pub short : w.life ≤ MAX_LIFE

-- what a pack makes: a full window comes before a worn one
abbrev pub send_state : WindowState → SendState
send_state w =
    if w.sent + 1 == w.first_unjudged + MAX_UNJUDGED_PACKETS then Held
    else (if w.sent == w.life then Worn else Room)
