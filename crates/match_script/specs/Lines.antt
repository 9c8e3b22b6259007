-- What a line of the body says. A line is known by its first word, the number of its words and, for a post, its
-- class; then its words are read from left to right. A further kind of line is one case here.
use Rattle.std.specs.Prelude.{ℕ, ◌≡◌, ◌^◌, List, [], ◌∷◌, Bool, if◌then◌else◌, codes, Result, Ok, Err, refl}
use Rattle.std.specs.Str.{bytes_eq}
use Rattle.hex.specs.Hex.{decode_pairs}
use Rattle.tn_types.specs.declared.choices.Class.TheVariants.{Loose}
use Rattle.tn_types.specs.declared.moves.Move.{Move as PlayerMove}
use Rattle.tn_types.specs.declared.limits.TheConstants.{MAX_EVENT_BYTES, MAX_DATAGRAM_BYTES}
use Rattle.match_script.specs.declared.types.ScriptFault.{ScriptFault}
use Rattle.match_script.specs.declared.types.ScriptFault.TheVariants.{UnknownWord, OutOfRange, BadHex}
use Rattle.match_script.specs.declared.line.LineFault.{LineFault}
use Rattle.match_script.specs.declared.line.LineFault.TheVariants.{Faulty, NoMemory}
use Rattle.match_script.specs.declared.types.BodyLine.{BodyLine}
use Rattle.match_script.specs.declared.types.BodyLine.TheVariants.{Tick, Scan, Post, ClientPost, Pack, ClientPack, Down, Up, Raw, Move, Show, World}
use Rattle.match_script.specs.Words.{◌>>=◌, number, flag, class_named, hex}
use Rattle.match_script.specs.Steps.{Stride, step}

abbrev pub is : List ℕ → List ℕ → Bool
is word name = bytes_eq word name

unfoldable pub scan_line : ℕ → List ℕ → Result BodyLine ScriptFault
scan_line clients c = do
  client ← number clients c
  Ok (Scan client)

unfoldable pub post_line : ℕ → List ℕ → List ℕ → List ℕ → Result BodyLine ScriptFault
post_line clients c class bytes = do
  class ← class_named class
  client ← number clients c
  payload ← hex MAX_EVENT_BYTES bytes
  Ok (Post client class payload)

unfoldable pub client_post_line : ℕ → List ℕ → List ℕ → List ℕ → Result BodyLine ScriptFault
client_post_line clients c class bytes = do
  class ← class_named class
  client ← number clients c
  payload ← hex MAX_EVENT_BYTES bytes
  Ok (ClientPost client class payload)

unfoldable pub pack_line : ℕ → List ℕ → Result BodyLine ScriptFault
pack_line clients c = do
  client ← number clients c
  Ok (Pack client)

unfoldable pub client_pack_line : ℕ → List ℕ → Result BodyLine ScriptFault
client_pack_line clients c = do
  client ← number clients c
  Ok (ClientPack client)

unfoldable pub down_line : ℕ → List ℕ → List ℕ → Result BodyLine ScriptFault
down_line clients c place = do
  client ← number clients c
  k ← number (2 ^ 32) place
  Ok (Down client k)

unfoldable pub up_line : ℕ → List ℕ → List ℕ → Result BodyLine ScriptFault
up_line clients c place = do
  client ← number clients c
  k ← number (2 ^ 32) place
  Ok (Up client k)

unfoldable pub raw_line : ℕ → List ℕ → List ℕ → Result BodyLine ScriptFault
raw_line clients c bytes = do
  client ← number clients c
  bytes ← hex MAX_DATAGRAM_BYTES bytes
  Ok (Raw client bytes)

-- the move of these steps, and whether it fires and uses
abbrev pub move_of : Stride → Stride → Bool → Bool → PlayerMove
move_of dx dy fire act = record { dx = dx.value; dy = dy.value; fire = fire; act = act; dx_range = dx.within; dy_range = dy.within }

unfoldable pub move_line : ℕ → List ℕ → List ℕ → List ℕ → List ℕ → List ℕ → Result BodyLine ScriptFault
move_line clients c dx dy fire act = do
  client ← number clients c
  dx ← step dx
  dy ← step dy
  fire ← flag fire
  act ← flag act
  Ok (Move client (move_of dx dy fire act))

unfoldable pub show_line : ℕ → List ℕ → Result BodyLine ScriptFault
show_line clients c = do
  client ← number clients c
  Ok (Show client)

-- the line of the body that these words are
unfoldable pub body_line : ℕ → List (List ℕ) → Result BodyLine ScriptFault
body_line clients (kind ∷ []) =
    if is kind (codes "tick") then Ok Tick
    else if is kind (codes "world") then Ok World
    else Err UnknownWord
body_line clients (kind ∷ c ∷ []) =
    if is kind (codes "pack") then pack_line clients c
    else if is kind (codes "cpack") then client_pack_line clients c
    else if is kind (codes "scan") then scan_line clients c
    else if is kind (codes "show") then show_line clients c
    else Err UnknownWord
body_line clients (kind ∷ c ∷ what ∷ []) =
    if is kind (codes "down") then down_line clients c what
    else if is kind (codes "up") then up_line clients c what
    else if is kind (codes "raw") then raw_line clients c what
    else Err UnknownWord
body_line clients (kind ∷ c ∷ class ∷ bytes ∷ []) =
    if is kind (codes "post") then post_line clients c class bytes
    else if is kind (codes "cpost") then client_post_line clients c class bytes
    else Err UnknownWord
body_line clients (kind ∷ c ∷ dx ∷ dy ∷ fire ∷ act ∷ []) =
    if is kind (codes "move") then move_line clients c dx dy fire act
    else Err UnknownWord
body_line clients words = Err UnknownWord

-- what a call gave is what the definitions read of a line, but where memory ran out
abbrev pub GivesLine : Result BodyLine LineFault → Result BodyLine ScriptFault → Type 0
GivesLine (Ok line) read = read ≡ Ok line
GivesLine (Err (Faulty fault)) read = read ≡ Err fault
GivesLine (Err NoMemory) read = Unit {0}

packed : body_line 2 (codes "pack" ∷ codes "1" ∷ []) ≡ Ok (Pack 1)
unfolding body_line pack_line number
packed = refl

client_first : body_line 1 (codes "down" ∷ codes "1" ∷ codes "x" ∷ []) ≡ Err OutOfRange
unfolding body_line down_line number
client_first = refl

class_before_numbers : body_line 1 (codes "post" ∷ codes "99" ∷ codes "x" ∷ codes "6" ∷ []) ≡ Err UnknownWord
unfolding body_line post_line class_named
class_before_numbers = refl

posted_by_client : body_line 1 (codes "cpost" ∷ codes "0" ∷ codes "u" ∷ codes "-" ∷ []) ≡ Ok (ClientPost 0 Loose [])
unfolding body_line client_post_line class_named number hex
posted_by_client = refl

scanned : body_line 2 (codes "scan" ∷ codes "1" ∷ []) ≡ Ok (Scan 1)
unfolding body_line scan_line number
scanned = refl

raw_bytes : body_line 1 (codes "raw" ∷ codes "0" ∷ codes "01fF" ∷ []) ≡ Ok (Raw 0 (1 ∷ 255 ∷ []))
unfolding body_line raw_line number hex decode_pairs
raw_bytes = refl

no_raw_bytes : body_line 1 (codes "raw" ∷ codes "0" ∷ codes "01f" ∷ []) ≡ Err BadHex
unfolding body_line raw_line number hex
no_raw_bytes = refl

ticked : body_line 1 (codes "tick" ∷ []) ≡ Ok Tick
unfolding body_line
ticked = refl
