-- Moves at the server. A packet adds those of its moves that come next, as far as there is room and the
-- connection's life lasts; so each move is accepted once and in order. A log has what was taken, the newest first.
use Rattle.std.specs.Prelude.{ℕ, ◌≡◌, ◌+◌, ◌-◌, min, nat_le, nat_lt, List, [], ◌∷◌, ◌++◌, length, take, drop, if◌then◌else◌, Result, Ok, Err}
use Rattle.tn_types.specs.declared.moves.MoveBits.{MoveBits}
use Rattle.move_manager.specs.declared.faults.MoveGap.{MoveGap}
use Rattle.move_manager.specs.Sending.{Packet}

pub data ReceiverEvent : Type 0 where
  Took : Packet → (room : ℕ) → ReceiverEvent

-- how many of a packet's moves are new, have room and fit the life, where so many were accepted before
abbrev pub new_count : ℕ → ℕ → ℕ → Packet → ℕ
new_count life room accepted p = min (min (p.first + length p.moves - accepted) room) (life - accepted)

-- the accepted moves with those that a packet adds; a packet behind the next move adds none
abbrev pub accept : ℕ → ℕ → Packet → List MoveBits → List MoveBits
accept life room p accepted =
    if nat_le p.first (length accepted)
    then accepted ++ take (new_count life room (length accepted) p) (drop (length accepted - p.first) p.moves)
    else accepted

-- the moves accepted so far, the oldest first: move n stands at place n
abbrev pub accepted_of : ℕ → List ReceiverEvent → List MoveBits
accepted_of life [] = []
accepted_of life (Took p room ∷ log) = accept life room p (accepted_of life log)

-- what a receiver shows
pub record Receiver : Type 0 where
  pub life : ℕ
  pub accepted : ℕ

pub record StandsFor (r : Receiver) (log : List ReceiverEvent) : Type 0 where
  pub accepted : r.accepted ≡ length (accepted_of r.life log)

abbrev pub take_answer : Receiver → Packet → ℕ → Result ℕ MoveGap
take_answer r p room =
    if nat_lt r.accepted p.first then Err (record { first = p.first; accepted = r.accepted })
    else Ok (new_count r.life room r.accepted p)
