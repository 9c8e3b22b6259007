-- What a window saw, the newest first, and what follows from it. A packet of the other end is processed
-- where it was taken as a data packet, and the horizon is the greatest number that came. A packet of this
-- end has no verdict until the first acknowledgement whose horizon reaches it, and keeps that one's for good.
use Rattle.std.specs.Prelude.{◌≡◌, ℕ, ◌+◌, ◌-◌, ◌<◌, max, Bool, true, false, not, ◌&&◌, ◌||◌, ◌==◌, nat_le, nat_lt, List, [], ◌∷◌, ◌++◌, if◌then◌else◌, refl}
use Rattle.std.specs.Int.{bit_at}
use Rattle.tn_types.specs.declared.limits.TheConstants.{MAX_UNJUDGED_PACKETS}
use Rattle.notify_window.specs.declared.SendState.{SendState}
use Rattle.notify_window.specs.declared.SendState.TheVariants.{Held, Worn, Room}
use Rattle.notify_window.specs.declared.Arrival.{Arrival}
use Rattle.notify_window.specs.declared.Arrival.TheVariants.{Old, Fresh}
use Rattle.notify_window.specs.declared.Notices.{Notices}
use Rattle.tn_types.specs.BitWords.{from_bits}

pub data WindowEvent : Type 0 where
  Sent : WindowEvent  -- a data packet was sent
  Came : (ping : Bool) (seq : ℕ) → WindowEvent  -- a datagram of the other end was taken
  Told : (horizon : ℕ) (mask : ℕ) → WindowEvent  -- an acknowledgement was read

-- how many data packets were sent
abbrev pub sent_of : List WindowEvent → ℕ
sent_of [] = 0
sent_of (Sent ∷ log) = sent_of log + 1
sent_of (Came ping seq ∷ log) = sent_of log
sent_of (Told horizon mask ∷ log) = sent_of log

-- the greatest number of the other end that was processed or skipped
abbrev pub horizon_of : List WindowEvent → ℕ
horizon_of [] = 0
horizon_of (Sent ∷ log) = horizon_of log
horizon_of (Came ping seq ∷ log) = max (horizon_of log) seq
horizon_of (Told horizon mask ∷ log) = horizon_of log

-- whether the other end's packet s was processed
abbrev pub is_processed : ℕ → List WindowEvent → Bool
is_processed s [] = false
is_processed s (Sent ∷ log) = is_processed s log
is_processed s (Came ping seq ∷ log) = (not ping && seq == s) || is_processed s log
is_processed s (Told horizon mask ∷ log) = is_processed s log

-- bit i of the mask tells of packet horizon - i
abbrev pub mask_bit : List WindowEvent → ℕ → Bool
mask_bit log i = nat_lt i (horizon_of log) && is_processed (horizon_of log - i) log

abbrev pub mask_of : List WindowEvent → ℕ
mask_of log = from_bits (mask_bit log) MAX_UNJUDGED_PACKETS

-- the greatest number of this end that has a verdict
abbrev pub judged_of : List WindowEvent → ℕ
judged_of [] = 0
judged_of (Sent ∷ log) = judged_of log
judged_of (Came ping seq ∷ log) = judged_of log
judged_of (Told horizon mask ∷ log) = max (judged_of log) horizon

-- what is known of a packet of this end
pub data Fate : Type 0 where
  Unjudged : Fate
  Received : Fate
  Lost : Fate

abbrev pub is_received : Fate → Bool
is_received Unjudged = false
is_received Received = true
is_received Lost = false

abbrev pub fate_of_bit : ℕ → Fate
fate_of_bit bit = if bit == 1 then Received else Lost

-- an acknowledgement judges what has no verdict up to its horizon, each by its own bit
abbrev pub fate_of : ℕ → List WindowEvent → Fate
fate_of s [] = Unjudged
fate_of s (Sent ∷ log) = fate_of s log
fate_of s (Came ping seq ∷ log) = fate_of s log
fate_of s (Told horizon mask ∷ log) =
    if nat_lt (judged_of log) s && nat_le s horizon then fate_of_bit (bit_at mask (horizon - s)) else fate_of s log

abbrev pub send_state_of : ℕ → List WindowEvent → SendState
send_state_of life log =
    if sent_of log == judged_of log + MAX_UNJUDGED_PACKETS then Held
    else (if sent_of log == life then Worn else Room)

abbrev pub arrival_of : Bool → ℕ → ℕ → Arrival
arrival_of true seq horizon = Fresh
arrival_of false seq horizon = if nat_le seq horizon then Old seq horizon else Fresh

-- the verdicts of an acknowledgement: all numbers from the first unjudged one to its horizon, and of each
-- its fate once the acknowledgement is read
abbrev pub notices_of : ℕ → ℕ → List WindowEvent → Notices
notices_of horizon mask log = record {
  first = judged_of log + 1;
  count = horizon - judged_of log;
  bits = from_bits (λ i. is_received (fate_of (judged_of log + 1 + i) (Told horizon mask ∷ log))) MAX_UNJUDGED_PACKETS;
}

-- each of the notices says the fate of its packet
abbrev pub AreVerdicts : Notices → List WindowEvent → Type 0
AreVerdicts n log = (i : ℕ) → i < n.count → fate_of (n.first + i) log ≡ fate_of_bit (bit_at n.bits i)

-- each arrival of `later`, which came after those of `log`, was fresh when it came
abbrev pub AreFresh : List WindowEvent → List WindowEvent → Type 0
AreFresh [] log = Unit {0}
AreFresh (Sent ∷ later) log = AreFresh later log
AreFresh (Came ping seq ∷ later) log = (arrival_of ping seq (horizon_of (later ++ log)) ≡ Fresh) × AreFresh later log
AreFresh (Told horizon mask ∷ later) log = AreFresh later log

-- what was processed of packet s is the same after `later`
abbrev pub KeepsProcessed : ℕ → List WindowEvent → List WindowEvent → Type 0
KeepsProcessed s later log = is_processed s (later ++ log) ≡ is_processed s log

-- Packets 1 and 3 of the other end came, 2 was skipped by a ping, and this end's 1 and 2 were judged.
abbrev told : List WindowEvent
told = Told 2 1 ∷ Sent ∷ Came false 3 ∷ Came true 2 ∷ Sent ∷ Came false 1 ∷ []

told_horizon : horizon_of told ≡ 3
told_horizon = refl

told_mask : mask_of told ≡ 5
unfolding from_bits
told_mask = refl

told_lost : fate_of 1 told ≡ Lost
told_lost = refl

told_received : fate_of 2 told ≡ Received
told_received = refl

told_later : fate_of 3 told ≡ Unjudged
told_later = refl

-- a later acknowledgement judges what is left, and changes no verdict
told_for_good : fate_of 1 (Told 3 7 ∷ Sent ∷ told) ≡ Lost
told_for_good = refl
