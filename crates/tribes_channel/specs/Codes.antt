-- Why a call of a channel did nothing, as numbers: those of tribes_ends for the same cause, and else further ones.
use Rattle.std.specs.Prelude.{◌≡◌, refl, negsuc}
use Rattle.messages.specs.declared.faults.HoldFault.{HoldFault}
use Rattle.messages.specs.declared.faults.HoldFault.TheVariants as hold
use Rattle.messages.specs.declared.faults.PieceFault.{PieceFault}
use Rattle.messages.specs.declared.faults.PieceFault.TheVariants as piece
use Rattle.tribes_ends.specs.Codes.{why, why_of}
use Rattle.tribes_ends.specs.declared.refusal.Refusal.TheVariants as refused
use Rattle.tribes_ends.specs.declared.why.Why.{Why}
use Rattle.tribes_channel.specs.declared.faults.NextFault.{NextFault}
use Rattle.tribes_channel.specs.declared.faults.NextFault.TheVariants.{NoRoom, BadPiece}
use Rattle.tribes_channel.specs.declared.faults.OpenFault.{OpenFault}
use Rattle.tribes_channel.specs.declared.faults.OpenFault.TheVariants.{BadLongest, NoMemory}

abbrev pub open_why : OpenFault → Why
open_why NoMemory = why 3 0 0
open_why (BadLongest longest) = why 76 longest 0

abbrev pub hold_why : HoldFault → Why
hold_why (hold.TooLong most) = why 8 most 0
hold_why (hold.NoPlaces needed free) = why 75 needed free

abbrev pub piece_why : PieceFault → Why
piece_why piece.Empty = why 80 0 0
piece_why (piece.UnknownForm form) = why 81 form 0
piece_why piece.NotBegun = why 82 0 0
piece_why piece.NotEnded = why 83 0 0
piece_why (piece.OnePiece length) = why 84 length 0
piece_why piece.MoreBytes = why 85 0 0
piece_why piece.FewerBytes = why 86 0 0
piece_why (piece.TooLong length most) = why 87 length most

abbrev pub next_why : NextFault → Why
next_why (NoRoom needed) = why 9 needed 0
next_why (BadPiece fault) = piece_why fault

-- ---- examples

as_an_end_tells_it : next_why (NoRoom 24) ≡ why_of (refused.NoRoom 24)
as_an_end_tells_it = refl

too_long_at_an_end : hold_why (hold.TooLong 23) ≡ why_of (refused.TooLong 23)
too_long_at_an_end = refl
