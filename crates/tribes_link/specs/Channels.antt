-- What an export did that takes an end and a channel, each behind a handle, and what it answers.
use Rattle.std.specs.Prelude.{◌≡◌, ◌⊎◌, refl, ℕ, ℤ, ◌<◌, ◌≤◌, ◌==◌, pos, true, if◌then◌else◌, Option, Some, None}
use Rattle.std.specs.Option.{option_map}
use Rattle.messages.specs.declared.faults.PieceFault.{PieceFault}
use Rattle.messages.specs.declared.form.ParcelKind.{ParcelKind}
use Rattle.messages.specs.declared.form.ParcelKind.TheVariants.{Event, Message}
use Rattle.messages.specs.InboxState.{InboxState}
use Rattle.messages.specs.Pieces.{Parcel}
use Rattle.tribes_channel.specs.Channel.{ChannelState, LooseRefused, Ends}
use Rattle.tribes_ends.specs.Codes.{why_of}
use Rattle.tribes_ends.specs.declared.refusal.Refusal.{Refusal}
use Rattle.tribes_channel.specs.Codes.{next_why}
use Rattle.tribes_ends.specs.declared.link.Side.{Side}
use Rattle.tribes_ends.specs.declared.why.Why.{Why}
use Rattle.tribes_channel.specs.declared.faults.NextFault.{NextFault}
use Rattle.tribes_channel.specs.declared.faults.NextFault.TheVariants.{NoRoom, BadPiece}
use Rattle.tribes_link.specs.declared.answering.TheConstants.{NO_END, NO_CHANNEL, NO_MEMORY}
use Rattle.tribes_link.specs.declared.channel_handle.TheConstants.{OPEN_CHANNEL}
use Rattle.tribes_link.specs.declared.end.TheConstants.{OPEN}
use Rattle.tribes_link.specs.Answers.{is_answer}

-- what a caller's number says of a parcel
abbrev pub kind_of : ℕ → ParcelKind
kind_of n = if n == 0 then Event else Message

-- there were an end and a channel and there are now, and `Did` holds between them
abbrev pub BehindBoth : (Side → ChannelState → Side → ChannelState → Type 0) → Option Side → Option ChannelState → Option Side → Option ChannelState → Type 0
BehindBoth Did None c new c' = ⊥
BehindBoth Did (Some old) None new c' = ⊥
BehindBoth Did (Some old) (Some c) None c' = ⊥
BehindBoth Did (Some old) (Some c) (Some new) None = ⊥
BehindBoth Did (Some old) (Some c) (Some new) (Some c') = Did old c new c'

-- by the states of the two handles: no end is behind the first, or else no channel behind the second, or this holds of both
pub record AnswersByBoth (state channel_state : ℕ) (end : Option Side) (channel : Option ChannelState) (code : ℤ) (Holds : Side → ChannelState → Type 0) : Type 0 where
  pub none : (state ≡ OPEN → ⊥) → code ≡ NO_END
  pub no_channel : state ≡ OPEN → (channel_state ≡ OPEN_CHANNEL → ⊥) → code ≡ NO_CHANNEL
  pub some : state ≡ OPEN → channel_state ≡ OPEN_CHANNEL → BehindBoth (λ side c side' c'. Holds side c) end channel end channel

-- the code of why nothing was done, or else an answer
abbrev pub CodedBy : ℕ → ℤ → Option Why → Type 0
CodedBy most code None = is_answer most code ≡ true
CodedBy most code (Some why) = code ≡ why.code

-- of an unguaranteed parcel: 0, or why it is refused
abbrev pub AnswersLoose : Parcel → ℤ → Side → Type 0
AnswersLoose p code side = (answer : Option Refusal) × LooseRefused p side answer × CodedBy 0 code (option_map why_of answer)

-- what a call that makes a channel answers, and the reason that it gives: what is wrong, or else 0, if memory is to be had
abbrev pub IsOpened : Option Why → ℤ → Why → Type 0
IsOpened (Some why) code reason = (code ≡ why.code) × (reason ≡ why)
IsOpened None code reason = (code ≡ pos 0) ⊎ (code ≡ NO_MEMORY)

-- the code of a piece that no honest end sends
abbrev pub IsBadPiece : ℤ → Type 0
IsBadPiece code = (fault : PieceFault) × (code ≡ (next_why (BadPiece fault)).code)

-- a place that is too small is refused; else a parcel is handed out or none is whole, or the channel is ended
pub record NextAnswered (room : ℕ) (code : ℤ) (c : ChannelState) : Type 0 where
  pub small : room < c.inbox.room → code ≡ (next_why (NoRoom c.inbox.room)).code
  pub roomy : c.inbox.room ≤ room → (is_answer 2 code ≡ true) ⊎ IsBadPiece code

-- the channel is ended by a fault of this code
abbrev pub EndsWith : ℤ → InboxState → Side → InboxState → Side → Type 0
EndsWith code before old after new = (fault : NextFault) × (code ≡ (next_why fault).code) × Ends fault before old after new

-- ---- examples

zero_is_an_event : kind_of 0 ≡ Event
zero_is_an_event = refl

two_is_a_message : kind_of 2 ≡ Message
two_is_a_message = refl
