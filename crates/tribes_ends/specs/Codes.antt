-- A refusal as numbers: a code, which each refusal has for itself, and up to two numbers that it names. A code is below 0, so that an
-- answer from 0 on is no refusal. Numbers that were given stay.
use Rattle.std.specs.Prelude.{◌≡◌, ℕ, ℤ, pos, negsuc, ◌-◌, Bool, true, false, refl}
use Rattle.event_manager.specs.declared.sender.PostFault.{PostFault}
use Rattle.event_manager.specs.declared.sender.PostFault.TheVariants as post
use Rattle.ghost_client.specs.declared.fault.GhostFault.{GhostFault}
use Rattle.ghost_client.specs.declared.fault.GhostFault.TheVariants as ghost
use Rattle.move_manager.specs.declared.faults.MoveFault.{MoveFault}
use Rattle.move_manager.specs.declared.faults.MoveFault.TheVariants as move
use Rattle.quantised_fields.specs.declared.table.KindFault.{KindFault}
use Rattle.quantised_fields.specs.declared.table.KindFault.TheVariants as kinds
use Rattle.wire_format.specs.declared.fault.BitsCause.{BitsCause}
use Rattle.wire_format.specs.declared.fault.BitsCause.TheVariants as bits
use Rattle.wire_format.specs.declared.fault.BitsFault.{BitsFault}
use Rattle.stream_manager.specs.declared.fault.ArriveFault.{ArriveFault}
use Rattle.stream_manager.specs.declared.fault.ArriveFault.TheVariants as server
use Rattle.stream_manager.specs.declared.fault.ClientFault.{ClientFault}
use Rattle.stream_manager.specs.declared.fault.ClientFault.TheVariants as client
use Rattle.tribes_ends.specs.declared.refusal.Refusal.{Refusal}
use Rattle.tribes_ends.specs.declared.refusal.Refusal.TheVariants as refused
use Rattle.tribes_ends.specs.declared.why.Why.{Why}

abbrev pub is_refusal : ℤ → Bool
is_refusal (pos n) = false
is_refusal (negsuc n) = true

-- a code is below 0 by this number, which is not 0
abbrev pub why : ℕ → ℕ → ℕ → Why
why below first second = record { code = negsuc (below - 1); first = first; second = second }

abbrev pub kinds_why : KindFault → Why
kinds_why kinds.TooManyKinds = why 20 0 0
kinds_why kinds.NoKind = why 21 0 0
kinds_why (kinds.TooMany kind) = why 22 kind 0
kinds_why (kinds.Empty kind) = why 23 kind 0
kinds_why (kinds.BadRange kind field) = why 24 kind field
kinds_why (kinds.TooWide kind) = why 25 kind 0

abbrev pub cause_why : ℕ → BitsCause → Why
cause_why place bits.Short = why 40 place 0
cause_why place bits.Padding = why 41 place 0
cause_why place bits.KindBits = why 42 place 0
cause_why place bits.OpBits = why 43 place 0
cause_why place bits.CountBits = why 44 place 0
cause_why place bits.LengthBits = why 45 place 0
cause_why place bits.UnknownKind = why 46 place 0
cause_why place bits.EmptyMask = why 47 place 0
cause_why place bits.ZeroSeq = why 48 place 0
cause_why place bits.UnknownSlot = why 49 place 0

abbrev pub bits_why : BitsFault → Why
bits_why fault = cause_why fault.place fault.cause

abbrev pub ghost_why : GhostFault → Why
ghost_why (ghost.Twice slot) = why 60 slot 0
ghost_why (ghost.Unknown slot) = why 61 slot 0
ghost_why (ghost.Taken slot) = why 62 slot 0
ghost_why (ghost.KindDiffers slot held) = why 63 slot held
ghost_why (ghost.BlockMissing slot block) = why 64 slot block

abbrev pub server_why : ArriveFault → Why
server_why (server.Bits fault) = bits_why fault
server_why (server.WrongClient named) = why 50 named 0
server_why (server.Old seq horizon) = why 51 seq horizon
server_why (server.AckAhead horizon last) = why 52 horizon last
server_why (server.MoveGap first accepted) = why 53 first accepted
server_why (server.EventAhead number delivered) = why 56 number delivered

abbrev pub client_why : ClientFault → Why
client_why (client.Bits fault) = bits_why fault
client_why (client.WrongClient named) = why 50 named 0
client_why (client.Old seq horizon) = why 51 seq horizon
client_why (client.AckAhead horizon last) = why 52 horizon last
client_why (client.MoveAhead count sampled) = why 54 count sampled
client_why (client.BlockDiffers number) = why 55 number 0
client_why (client.EventAhead number delivered) = why 56 number delivered
client_why (client.Ghost fault) = ghost_why fault

abbrev pub why_of : Refusal → Why
why_of refused.NoMemory = why 3 0 0
why_of refused.WrongEnd = why 4 0 0
why_of (refused.BadClient client) = why 5 client 0
why_of (refused.BadLife life) = why 16 life 0
why_of (refused.BadVersion version) = why 18 version 0
why_of (refused.BadMoveBits move_bits) = why 19 move_bits 0
why_of (refused.BadSize size) = why 17 size 0
why_of refused.BadFieldCounts = why 6 0 0
why_of refused.BadBlocks = why 7 0 0
why_of (refused.TooLong most) = why 8 most 0
why_of (refused.NoRoom needed) = why 9 needed 0
why_of refused.NotPlanned = why 10 0 0
why_of refused.BadValues = why 11 0 0
why_of (refused.EventsWait count) = why 12 count 0
why_of (refused.NoCopy slot) = why 14 slot 0
why_of (refused.BadKinds fault) = kinds_why fault
why_of (refused.NoKind kind) = why 30 kind 0
why_of (refused.NoBlock block) = why 31 block 0
why_of (refused.NoLevel level) = why 32 level 0
why_of refused.TooManyShown = why 33 0 0
why_of refused.ShowsWorn = why 34 0 0
why_of refused.HasControl = why 35 0 0
why_of (refused.NotShown n) = why 36 n 0
why_of (refused.NoField n) = why 37 n 0
why_of (refused.AtServer fault) = server_why fault
why_of (refused.AtClient fault) = client_why fault
why_of (refused.EventsWorn life) = why 70 life 0
why_of (refused.EventsFull first last) = why 71 first last
why_of (refused.MovesWorn life) = why 72 life 0
why_of (refused.MovesFull first last) = why 73 first last
why_of (refused.MoveTooWide width) = why 74 width 0

abbrev pub code_of : Refusal → ℤ
code_of refusal = (why_of refusal).code

-- ---- what events and moves are refused for

abbrev pub post_refusal : PostFault → Refusal
post_refusal (post.Worn life) = refused.EventsWorn life
post_refusal (post.Full first last) = refused.EventsFull first last

abbrev pub move_refusal : MoveFault → Refusal
move_refusal (move.TooWide width) = refused.MoveTooWide width
move_refusal (move.Worn life) = refused.MovesWorn life
move_refusal (move.Full first last) = refused.MovesFull first last

-- ---- examples

zero_is_none : is_refusal (pos 0) ≡ false
zero_is_none = refl

minus_one_is_one : is_refusal (negsuc 0) ≡ true
minus_one_is_one = refl

no_room : why_of (refused.NoRoom 24) ≡ record { code = negsuc 8; first = 24; second = 0 }
no_room = refl
