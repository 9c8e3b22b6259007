-- What a line says that is the relay's: `r`, what is asked, and of which spectator, with the number of a packet where one is delivered.
-- As in a script, a line is known by its words up to the first number and by how many words it has; then its numbers are read
-- from left to right.
use Rattle.std.specs.Prelude.{ℕ, ◌≡◌, ◌^◌, take, List, [], ◌∷◌, Bool, false, not, nat_le, if◌then◌else◌, codes, Result, Ok, Err, refl}
use Rattle.std.specs.Str.{bytes_eq}
use Rattle.match_script.specs.declared.limits.TheConstants.{MAX_BODY_LINES}
use Rattle.match_script.specs.declared.types.ScriptFault.{ScriptFault}
use Rattle.match_script.specs.declared.types.ScriptFault.TheVariants.{NotText, TooManyLines, UnknownWord, OutOfRange}
use Rattle.match_script.specs.Text.{words_of, is_text}
use Rattle.match_script.specs.Words.{◌>>=◌, number}
use Rattle.match_script.specs.Lines.{is}
use Rattle.relay_script.specs.declared.types.RelayLine.{RelayLine}
use Rattle.relay_script.specs.declared.types.RelayLine.TheVariants.{Scan, Pack, ClientPack, Down, Up, Show}

-- the relay's lines begin so
abbrev pub is_relay : List ℕ → Bool
is_relay line = bytes_eq (take 2 line) (codes "r ")

unfoldable pub scan_line : ℕ → List ℕ → Result RelayLine ScriptFault
scan_line spectators s = do
  spectator ← number spectators s
  Ok (Scan spectator)

unfoldable pub pack_line : ℕ → List ℕ → Result RelayLine ScriptFault
pack_line spectators s = do
  spectator ← number spectators s
  Ok (Pack spectator)

unfoldable pub client_pack_line : ℕ → List ℕ → Result RelayLine ScriptFault
client_pack_line spectators s = do
  spectator ← number spectators s
  Ok (ClientPack spectator)

unfoldable pub down_line : ℕ → List ℕ → List ℕ → Result RelayLine ScriptFault
down_line spectators s place = do
  spectator ← number spectators s
  packet ← number (2 ^ 32) place
  Ok (Down spectator packet)

unfoldable pub up_line : ℕ → List ℕ → List ℕ → Result RelayLine ScriptFault
up_line spectators s place = do
  spectator ← number spectators s
  packet ← number (2 ^ 32) place
  Ok (Up spectator packet)

unfoldable pub show_line : ℕ → List ℕ → Result RelayLine ScriptFault
show_line spectators s = do
  spectator ← number spectators s
  Ok (Show spectator)

-- the relay's line that these words are, the first of them being `r`
unfoldable pub relay_line : ℕ → List (List ℕ) → Result RelayLine ScriptFault
relay_line spectators (r ∷ kind ∷ s ∷ []) =
    if is kind (codes "pack") then pack_line spectators s
    else if is kind (codes "cpack") then client_pack_line spectators s
    else if is kind (codes "scan") then scan_line spectators s
    else if is kind (codes "show") then show_line spectators s
    else Err UnknownWord
relay_line spectators (r ∷ kind ∷ s ∷ place ∷ []) =
    if is kind (codes "down") then down_line spectators s place
    else if is kind (codes "up") then up_line spectators s place
    else Err UnknownWord
relay_line spectators words = Err UnknownWord

-- the relay's line that stands at place k of the whole body, counted from 0
unfoldable pub relay_line_at : ℕ → ℕ → List ℕ → Result RelayLine ScriptFault
relay_line_at spectators k line =
    if not (is_text line) then Err NotText
    else if nat_le MAX_BODY_LINES k then Err TooManyLines
    else relay_line spectators (words_of line)

-- ---- examples

a_scan : relay_line_at 2 0 (codes "r scan 1") ≡ Ok (Scan 1)
unfolding relay_line_at words_of relay_line scan_line number
a_scan = refl

a_delivery : relay_line_at 1 0 (codes "r down 0 12") ≡ Ok (Down 0 12)
unfolding relay_line_at words_of relay_line down_line number
a_delivery = refl

no_such_spectator : relay_line_at 1 0 (codes "r scan 1") ≡ Err OutOfRange
unfolding relay_line_at words_of relay_line scan_line number
no_such_spectator = refl

spectator_before_packet : relay_line_at 1 0 (codes "r up 1 x") ≡ Err OutOfRange
unfolding relay_line_at words_of relay_line up_line number
spectator_before_packet = refl

no_relayed_post : relay_line_at 1 0 (codes "r post 9 x") ≡ Err UnknownWord
unfolding relay_line_at words_of relay_line
no_relayed_post = refl

no_word_behind : relay_line_at 1 0 (codes "r ") ≡ Err UnknownWord
unfolding relay_line_at words_of relay_line
no_word_behind = refl

a_line_too_many : relay_line_at 1 MAX_BODY_LINES (codes "r show x") ≡ Err TooManyLines
unfolding relay_line_at
a_line_too_many = refl

one_letter_is_no_relay_line : is_relay (codes "r") ≡ false
one_letter_is_no_relay_line = refl
