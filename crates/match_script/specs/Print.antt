-- The one text that a script is printed as: the words of each line with a space between each two, and a newline
-- behind each line. Numbers are decimal, and bytes are hexadecimal digits in lower case.
use Rattle.std.specs.Prelude.{ℕ, ℤ, ◌≡◌, List, [], ◌∷◌, ◌++◌, map, Bool, true, false, codes, Option, Some, None}
use Rattle.std.specs.Fmt.{decimal, signed_decimal}
use Rattle.hex.specs.Hex.{encode_lower}
use Rattle.tn_types.specs.declared.choices.Class.{Class}
use Rattle.tn_types.specs.declared.choices.Class.TheVariants.{Guaranteed, Loose}
use Rattle.match_script.specs.declared.types.BodyLine.{BodyLine}
use Rattle.match_script.specs.declared.types.BodyLine.TheVariants.{Tick, Scan, Post, ClientPost, Pack, ClientPack, Down, Up, Raw, Move, Show, World}
use Rattle.world_rules.specs.Kinds.{kind_word}
use Rattle.world_rules.specs.declared.setup.Spawn.{Spawn}
use Rattle.match_script.specs.declared.types.Head.{Head}
use Rattle.match_script.specs.declared.types.Script.{Script}
use Rattle.match_script.specs.Text.{spelled}

abbrev pub hex_word : List ℕ → List ℕ
hex_word [] = codes "-"
hex_word (b ∷ bytes) = encode_lower (b ∷ bytes)

abbrev pub class_word : Class → List ℕ
class_word Guaranteed = codes "g"
class_word Loose = codes "u"

abbrev pub flag_word : Bool → List ℕ
flag_word true = codes "1"
flag_word false = codes "0"

abbrev pub line_words : BodyLine → List (List ℕ)
line_words Tick = codes "tick" ∷ []
line_words (Scan c) = codes "scan" ∷ decimal c ∷ []
line_words (Post c class bytes) = codes "post" ∷ decimal c ∷ class_word class ∷ hex_word bytes ∷ []
line_words (ClientPost c class bytes) = codes "cpost" ∷ decimal c ∷ class_word class ∷ hex_word bytes ∷ []
line_words (Pack c) = codes "pack" ∷ decimal c ∷ []
line_words (ClientPack c) = codes "cpack" ∷ decimal c ∷ []
line_words (Down c k) = codes "down" ∷ decimal c ∷ decimal k ∷ []
line_words (Up c k) = codes "up" ∷ decimal c ∷ decimal k ∷ []
line_words (Raw c bytes) = codes "raw" ∷ decimal c ∷ hex_word bytes ∷ []
line_words (Move c m) = codes "move" ∷ decimal c ∷ signed_decimal m.dx ∷ signed_decimal m.dy ∷ flag_word m.fire ∷ flag_word m.act ∷ []
line_words (Show c) = codes "show" ∷ decimal c ∷ []
line_words World = codes "world" ∷ []

abbrev pub version_words : ℕ → List (List ℕ)
version_words version = codes "tribes" ∷ decimal version ∷ []

abbrev pub match_words : Head → List (List ℕ)
match_words h = codes "match" ∷ decimal h.seed ∷ decimal h.clients ∷ decimal h.life ∷ decimal h.size ∷ decimal h.radius ∷ []

abbrev pub block_words : List ℕ → List (List ℕ)
block_words block = codes "block" ∷ hex_word block ∷ []

-- where an object starts
abbrev pub placed_words : ℕ → ℕ → ℤ → ℤ → List (List ℕ)
placed_words block team x y = decimal block ∷ decimal team ∷ signed_decimal x ∷ signed_decimal y ∷ []

abbrev pub place_words : Spawn → List (List ℕ)
place_words s = placed_words s.block s.team s.x s.y

abbrev pub player_words : ℕ → List (List ℕ) → List (List ℕ)
player_words client place = codes "player" ∷ decimal client ∷ place

abbrev pub spawn_words : ℕ → List (List ℕ) → List (List ℕ)
spawn_words kind place = codes "spawn" ∷ kind_word kind ∷ place

abbrev pub owned_line : Option ℕ → Spawn → List (List ℕ)
owned_line (Some client) s = player_words client (place_words s)
owned_line None s = spawn_words s.kind (place_words s)

abbrev pub object_words : Spawn → List (List ℕ)
object_words s = owned_line s.owner s

abbrev pub go_words : List (List ℕ)
go_words = codes "go" ∷ []

-- the words of each line of a header
abbrev pub header_words : Head → List (List (List ℕ))
header_words h = version_words h.version ∷ match_words h ∷ (map block_words h.blocks ++ (map object_words h.setup.spawns ++ go_words ∷ []))

-- lines with a newline behind each
unfoldable pub joined : List (List ℕ) → List ℕ
joined [] = []
joined (line ∷ lines) = line ++ 10 ∷ joined lines

-- the text of a script
abbrev pub text_of : Script → List ℕ
text_of s = joined (map spelled (header_words s.head ++ map line_words s.body))

-- a text with a further line
abbrev pub with_line : List ℕ → List (List ℕ) → List ℕ
with_line text words = text ++ (spelled words ++ 10 ∷ [])

-- the text of a script grows by a line where its body does
abbrev pub GrowsByALine : Type 0
GrowsByALine = (head : Head) (body : List BodyLine) (line : BodyLine)
    → text_of (record { head = head; body = body ++ line ∷ [] }) ≡ with_line (text_of (record { head = head; body = body })) (line_words line)
