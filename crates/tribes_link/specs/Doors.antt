-- A door behind a handle, and a knock that the caller keeps: what their calls answer, and what they do.
use Rattle.std.specs.Prelude.{◌≡◌, ℕ, ℤ, pos, ◌==◌, nat_lt, if◌then◌else◌, List, take, drop, Option, Some, None, Result, Ok, Err, IfSome}
use Rattle.std.specs.Option.{option_map}
use Rattle.std.specs.Int.{w64, from_be_bytes}
use Rattle.greeting.specs.Datagrams.{reason_byte, reason_of, welcome, refusal}
use Rattle.greeting.specs.Door.{DoorState, Hears, asking_of, reply_of, seated}
use Rattle.greeting.specs.Passing.{Came, Given, Turned, Does}
use Rattle.greeting.specs.declared.datagrams.Reason.TheVariants.{TokenRefused}
use Rattle.greeting.specs.declared.datagrams.TheConstants.{MAX_TOKEN_BYTES}
use Rattle.greeting.specs.declared.door.AcceptFault.{AcceptFault}
use Rattle.greeting.specs.declared.door.AcceptFault.TheVariants.{NobodyAsks, NoSeat, SeatIsTaken}
use Rattle.greeting.specs.declared.door.Heard.{Heard}
use Rattle.greeting.specs.declared.door.Heard.TheVariants.{Dropped, Challenged, Refused, Asks, Again}
use Rattle.greeting.specs.declared.knock.Knock.{Knock}
use Rattle.greeting.specs.declared.knock.Reached.{Reached}
use Rattle.greeting.specs.declared.knock.Reached.TheVariants as reached
use Rattle.greeting.specs.declared.words.Address.{Address}
use Rattle.tribes_link.specs.declared.door_rows.AddressRow.{AddressRow}
use Rattle.tribes_link.specs.declared.door_rows.GreetingRow.{GreetingRow}
use Rattle.tribes_link.specs.declared.joining_codes.TheConstants.{NOBODY_ASKS, NO_SEAT, SEAT_IS_TAKEN, NO_KNOCK, TOKEN_TOO_LONG}
use Rattle.tribes_link.specs.declared.knocks.KnockRow.{KnockRow}

-- ---- rows

unfoldable pub word_at : ℕ → List ℕ → ℕ
word_at i bytes = from_be_bytes w64 (take 8 (drop i bytes))

-- sixteen bytes, the highest first
abbrev pub address_of : AddressRow → Address
address_of a = record { high = word_at 0 a.bytes; low = word_at 8 a.bytes; port = a.port }

-- the bytes that are to be sent
abbrev pub bytes_in : GreetingRow → List ℕ
bytes_in row = take row.count row.bytes

-- ---- what a door heard

abbrev pub heard_code : Heard → ℤ
heard_code Dropped = pos 0
heard_code Challenged = pos 1
heard_code (Refused reason) = pos 2
heard_code Asks = pos 3
heard_code (Again client) = pos 4

-- why it is refused, or whose seat it is
abbrev pub heard_number : Heard → ℕ
heard_number (Refused reason) = reason_byte reason
heard_number (Again client) = client
heard_number heard = 0

-- a datagram came, this was done with it, and this goes back
abbrev pub IsHeard : Address → List ℕ → ℤ → ℕ → List ℕ → DoorState → DoorState → Type 0
IsHeard a bytes code number reply old new =
    (heard : Heard) × (code ≡ heard_code heard) × (number ≡ heard_number heard) × Hears old a bytes heard
    × (reply ≡ reply_of old a bytes heard) × (new ≡ record old { asking = asking_of a bytes heard }) × Does old (Came a bytes reply) new

-- ---- what the game decides

abbrev pub accept_code : Result (Unit {0}) AcceptFault → ℤ
accept_code (Ok done) = pos 0
accept_code (Err NobodyAsks) = NOBODY_ASKS
accept_code (Err NoSeat) = NO_SEAT
accept_code (Err SeatIsTaken) = SEAT_IS_TAKEN

-- who asked has this client
abbrev pub IsGiven : ℕ → List ℕ → DoorState → DoorState → Type 0
IsGiven client reply old new =
    IfSome old.asking (λ g. (new ≡ seated old client g) × (reply ≡ welcome g.nonce client old.terms) × Does old (Given g client reply) new)

-- who asked is turned away
abbrev pub IsTurned : List ℕ → DoorState → DoorState → Type 0
IsTurned reply old new =
    IfSome old.asking (λ g. (new ≡ record old { asking = None }) × (reply ≡ refusal g.nonce TokenRefused) × Does old (Turned g reply) new)

-- ---- a knock

abbrev pub reached_from : KnockRow → Option Reached
reached_from r =
    if r.reached == 0 then Some reached.Asking
    else if r.reached == 1 then Some (reached.Answering r.number)
    else if r.reached == 2 then Some (reached.Joined r.client r.terms)
    else if r.reached == 3 then option_map reached.Refused (reason_of r.reason)
    else None

abbrev pub knock_from : KnockRow → Option Knock
knock_from r = option_map (λ reached. record { nonce = r.nonce; protocol = r.protocol; reached = reached }) (reached_from r)

abbrev pub write_code : Option Knock → ℕ → ℤ
write_code None count = NO_KNOCK
write_code (Some knock) count = if nat_lt MAX_TOKEN_BYTES count then TOKEN_TOO_LONG else pos 0

abbrev pub hear_code : Option Knock → ℤ
hear_code None = NO_KNOCK
hear_code (Some knock) = pos 0
