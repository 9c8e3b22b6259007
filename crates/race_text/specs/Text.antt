-- The text of a race, but for what each client kept: the values that each field had, the moves that each tick took, and the mask
-- words at the end. Numbers are decimal, and each line ends with a newline. Objects, fields, versions and clients are counted
-- from 0, ticks from 1.
use Rattle.std.specs.Prelude.{◌≡◌, refl, ℕ, ℤ, ◌+◌, ◌==◌, List, [], ◌∷◌, ◌++◌, length, codes, slice_get, if◌then◌else◌, Option, Some, None}
use Rattle.std.specs.List.{flat_map, range_with_len}
use Rattle.std.specs.Option.{unwrap_or}
use Rattle.std.specs.Fmt.{decimal, signed_decimal}
use Rattle.tn_types.specs.declared.moves.Move.{Move}
use Rattle.tn_types.specs.declared.moves.MoveBits.{MoveBits}
use Rattle.bit_stream.specs.WorldMoves.{move_of}
use Rattle.match_script.specs.Print.{flag_word}
use Rattle.dirty_lanes.specs.Words.{Words, mask_at}
use Rattle.race_history.specs.History.{Values, fields_told, versions_told}

-- what is told of each number below a count, by rising number
abbrev pub of_each : ℕ → (ℕ → List ℕ) → List ℕ
of_each count text = flat_map text (range_with_len 0 count)

-- ---- the values of each field of each object, by version

abbrev pub value_word : ℤ → List ℕ
value_word value = codes " " ++ signed_decimal value

abbrev pub field_line : Values → ℕ → ℕ → List ℕ
field_line values object field =
    codes "h " ++ decimal object ++ codes " " ++ decimal field ++ flat_map value_word (versions_told values object field) ++ codes "\n"

abbrev pub object_lines : Values → ℕ → List ℕ
object_lines values object = of_each (length (fields_told values object)) (field_line values object)

abbrev pub history_text : Values → List ℕ
history_text values = of_each (length values) (object_lines values)

-- ---- the moves that ticks took

abbrev pub move_words : Move → List ℕ
move_words m =
    signed_decimal m.dx ++ codes "," ++ signed_decimal m.dy ++ codes "," ++ flag_word m.fire ++ codes "," ++ flag_word m.act

-- what a tick took from one client
abbrev pub taken_word : Option MoveBits → List ℕ
taken_word None = codes " -"
taken_word (Some m) = codes " " ++ move_words (move_of m)

abbrev pub moves_of : List (List (Option MoveBits)) → ℕ → List (Option MoveBits)
moves_of ticks place = unwrap_or (slice_get ticks place) []

abbrev pub tick_line : List (List (Option MoveBits)) → ℕ → List ℕ
tick_line ticks place = codes "t " ++ decimal (place + 1) ++ flat_map taken_word (moves_of ticks place) ++ codes "\n"

abbrev pub moves_text : List (List (Option MoveBits)) → List ℕ
moves_text ticks = of_each (length ticks) (tick_line ticks)

-- ---- the mask words at the end

abbrev pub mask_line : Words → ℕ → ℕ → List ℕ
mask_line words client object =
    let bits = mask_at words client object in
    if bits == 0 then []
    else codes "m " ++ decimal client ++ codes " " ++ decimal object ++ codes " " ++ decimal bits ++ codes "\n"

abbrev pub client_masks : Words → ℕ → ℕ → List ℕ
client_masks words objects client = of_each objects (mask_line words client)

-- of so many clients and objects, those words that aren't 0
abbrev pub masks_text : Words → ℕ → ℕ → List ℕ
masks_text words clients objects = of_each clients (client_masks words objects)

-- ---- an example: two numbers are below 2

both : of_each 2 (λ n. codes " " ++ n ∷ []) ≡ 32 ∷ 0 ∷ 32 ∷ 1 ∷ []
both = refl
