-- Moves at the client. All that was sampled is one list, of which the server told that it has some first part; what
-- waits is the rest, and a packet carries all of it. No move that was sampled has further bits than the terms of the connection say.
-- A log has what happened, the newest first.
use Rattle.std.specs.Prelude.{ℕ, ◌≡◌, ◌+◌, ◌-◌, ◌^◌, ◌≤◌, ◌==◌, nat_lt, max, List, [], ◌∷◌, ◌++◌, length, drop, if◌then◌else◌, Result, Ok, Err}
use Rattle.tn_types.specs.declared.moves.MoveBits.{MoveBits}
use Rattle.wire_format.specs.declared.wire.Wire.{Wire}
use Rattle.wire_format.specs.Moves.{move_width}
use Rattle.tn_types.specs.declared.limits.TheConstants.{MAX_UNACKNOWLEDGED_MOVES}
use Rattle.tn_types.specs.Checks.{Checked}
use Rattle.move_manager.specs.declared.faults.MoveFault.{MoveFault}
use Rattle.move_manager.specs.declared.faults.MoveFault.TheVariants.{TooWide, Worn, Full}
use Rattle.move_manager.specs.declared.faults.MoveAhead.{MoveAhead}

pub data SenderEvent : Type 0 where
  Sampled : MoveBits → SenderEvent
  Acked : (count : ℕ) → SenderEvent

-- the moves sampled so far, the oldest first: move n stands at place n
abbrev pub sampled_of : List SenderEvent → List MoveBits
sampled_of [] = []
sampled_of (Sampled m ∷ log) = sampled_of log ++ m ∷ []
sampled_of (Acked count ∷ log) = sampled_of log

-- how many of them the server told that it has, at the most
abbrev pub acked_of : List SenderEvent → ℕ
acked_of [] = 0
acked_of (Sampled m ∷ log) = acked_of log
acked_of (Acked count ∷ log) = max (acked_of log) count

-- the moves in a packet, with the number of the first
pub record Packet : Type 0 where
  pub first : ℕ
  pub moves : List MoveBits

-- what a packet carries: all from the first that the server may lack
abbrev pub packet_of : List SenderEvent → Packet
packet_of log = record { first = acked_of log; moves = drop (acked_of log) (sampled_of log) }

-- its parts: the number of the first move, and the moves
abbrev pub pending_of : List SenderEvent → ℕ × List MoveBits
pending_of log = (acked_of log, drop (acked_of log) (sampled_of log))

-- what a sender shows: how its moves are written, the number of its first waiting move, and all that wait
pub record Sender : Type 0 where
  pub wire : Wire
  pub life : ℕ
  pub first : ℕ
  pub waiting : List MoveBits

pub record StandsFor (s : Sender) (log : List SenderEvent) : Type 0 where
  pub first : s.first ≡ acked_of log
  pub within : s.first ≤ length (sampled_of log)
  pub waiting : s.waiting ≡ drop (acked_of log) (sampled_of log)

-- the number of a further move, where its bits are among those that are written
abbrev pub counted_answer : Sender → Result ℕ MoveFault
counted_answer s =
    if s.first + length s.waiting == s.life then Err (Worn s.life)
    else if length s.waiting == MAX_UNACKNOWLEDGED_MOVES then Err (Full s.first (s.first + length s.waiting - 1))
    else Ok (s.first + length s.waiting)

abbrev pub sample_answer : MoveBits → Sender → Result ℕ MoveFault
sample_answer m s =
    if nat_lt m.bits (2 ^ move_width s.wire) then counted_answer s
    else Err (TooWide (move_width s.wire))

-- a sender after the server told that it has so many moves
abbrev pub after_acked : ℕ → Sender → Sender
after_acked count s = record s { first = max s.first count; waiting = drop (count - s.first) s.waiting }

abbrev pub acked_answer : ℕ → Sender → Checked MoveAhead
acked_answer count s =
    if nat_lt (s.first + length s.waiting) count then Err (record { count = count; sampled = s.first + length s.waiting })
    else Ok tt
