-- What an outbox did, the newest first, and the tie to what it holds: the pieces that were handed on and then those that are held
-- are the pieces of all that was posted.
use Rattle.std.specs.Prelude.{◌≡◌, ℕ, ◌-◌, ◌≤◌, List, [], ◌∷◌, ◌++◌, if◌then◌else◌, nat_lt, length, Result, Ok, Err}
use Rattle.messages.specs.declared.faults.HoldFault.{HoldFault}
use Rattle.messages.specs.declared.faults.HoldFault.TheVariants.{TooLong, NoPlaces}
use Rattle.messages.specs.declared.form.ParcelKind.{ParcelKind}
use Rattle.messages.specs.declared.form.ParcelKind.TheVariants.{Event, Message}
use Rattle.messages.specs.declared.limits.TheConstants.{MAX_MESSAGE_BYTES, MAX_SINGLE_BYTES}
use Rattle.messages.specs.Pieces.{Parcel, pieces_of, all_pieces}

-- the pieces that are held, and for how many there are places
pub record OutboxState : Type 0 where
  pub held : List (List ℕ)
  pub places : ℕ

pub data OutboxEvent : Type 0 where
  Posted : (parcel : Parcel) → OutboxEvent  -- a parcel was taken up
  HandedOn : (piece : List ℕ) → OutboxEvent  -- a piece left, to be posted as a guaranteed event

-- the parcels that were taken up, the oldest first
abbrev pub posted_of : List OutboxEvent → List Parcel
posted_of [] = []
posted_of (Posted parcel ∷ log) = posted_of log ++ parcel ∷ []
posted_of (HandedOn piece ∷ log) = posted_of log

-- the pieces that left, the oldest first
abbrev pub handed_on : List OutboxEvent → List (List ℕ)
handed_on [] = []
handed_on (Posted parcel ∷ log) = handed_on log
handed_on (HandedOn piece ∷ log) = handed_on log ++ piece ∷ []

pub record OutboxStandsFor (o : OutboxState) (log : List OutboxEvent) : Type 0 where
  pub pieces : handed_on log ++ o.held ≡ all_pieces (posted_of log)
  pub few : length o.held ≤ o.places

-- ---- what a post answers

abbrev pub most_of : ParcelKind → ℕ
most_of Event = MAX_SINGLE_BYTES
most_of Message = MAX_MESSAGE_BYTES

abbrev pub free_places : OutboxState → ℕ
free_places o = o.places - length o.held

abbrev pub post_answer : OutboxState → Parcel → Result (Unit {0}) HoldFault
post_answer o p =
    if nat_lt (most_of p.kind) (length p.bytes) then Err (TooLong (most_of p.kind))
    else (if nat_lt (free_places o) (length (pieces_of p)) then Err (NoPlaces (length (pieces_of p)) (free_places o))
    else Ok tt)
