-- What a client's connection kept, as a text: a line for each step, in order. A show is told with the number of its period, which
-- is the number of the shows before it, and with its object. A pack is told with what it drained and read. Versions are told
-- from 0, while the lanes that were read count an object's start values as version 1.
use Rattle.std.specs.Prelude.{◌≡◌, refl, ℕ, ◌-◌, ◌==◌, Bool, true, false, List, [], ◌∷◌, ◌++◌, length, take, count_by, codes, slice_get, if◌then◌else◌}
use Rattle.std.specs.List.{flat_map}
use Rattle.std.specs.Option.{option_map_or, unwrap_or}
use Rattle.std.specs.Fmt.{decimal, signed_decimal}
use Rattle.tn_types.specs.declared.choices.Drain.{Drain}
use Rattle.tn_types.specs.declared.choices.Read.{Read}
use Rattle.tn_types.specs.declared.moves.Move.{Move}
use Rattle.bit_stream.specs.WorldMoves.{move_of}
use Rattle.world_rules.specs.Kinds.{kind_word}
use Rattle.match_script.specs.Print.{class_word, flag_word, hex_word}
use Rattle.kept_pair.specs.pair_core.History.{PairStep, Show, Hide, Near, Post, ClientPost, Sample, Pack, ClientPack, Down, Up, Raw}
use Rattle.kept_pair.specs.declared.limits.TheConstants.{MAX_KEPT_STEPS}
use Rattle.race_text.specs.Text.{of_each}

-- ---- packs

-- a word of bits that was drained, unless it is 0
abbrev pub drain_word : Drain → List ℕ
drain_word d = if d.bits == 0 then [] else codes " " ++ decimal d.n ++ codes ":" ++ decimal d.bits

abbrev pub read_word : Read → List ℕ
read_word r =
    codes " " ++ decimal r.n ++ codes "." ++ decimal r.field ++ codes "@" ++ decimal (r.version - 1) ++ codes "=" ++ signed_decimal r.value

abbrev pub pack_words : List Drain → List Read → List ℕ
pack_words drains reads = codes "pack" ++ flat_map drain_word drains ++ flat_map read_word reads

-- ---- steps

-- the object of a period
abbrev pub object_of : List ℕ → ℕ → ℕ
object_of objects n = unwrap_or (slice_get objects n) 0

abbrev pub show_words : List ℕ → ℕ → ℕ → ℕ → ℕ → Bool → List ℕ
show_words objects n kind block level control =
    codes "show " ++ decimal n ++ codes " " ++ decimal (object_of objects n) ++ codes " " ++ kind_word kind
    ++ codes " " ++ decimal block ++ codes " " ++ decimal level ++ codes " " ++ flag_word control

abbrev pub move_words : Move → List ℕ
move_words m =
    codes "move " ++ signed_decimal m.dx ++ codes " " ++ signed_decimal m.dy ++ codes " " ++ flag_word m.fire
    ++ codes " " ++ flag_word m.act

-- a step, where n periods were shown before and these are their objects
abbrev pub step_words : List ℕ → ℕ → PairStep → List ℕ
step_words objects n (Show kind block level control) = show_words objects n kind block level control
step_words objects n (Hide m) = codes "hide " ++ decimal m
step_words objects n (Near m level) = codes "near " ++ decimal m ++ codes " " ++ decimal level
step_words objects n (Post class v) = codes "post " ++ class_word class ++ codes " " ++ hex_word v
step_words objects n (ClientPost class v) = codes "cpost " ++ class_word class ++ codes " " ++ hex_word v
step_words objects n (Sample m) = move_words (move_of m)
step_words objects n (Pack drains reads) = pack_words drains reads
step_words objects n ClientPack = codes "cpack"
step_words objects n (Down k) = codes "down " ++ decimal k
step_words objects n (Up k room) = codes "up " ++ decimal k ++ codes " " ++ decimal room
step_words objects n (Raw bytes room) = codes "raw " ++ decimal room ++ codes " " ++ hex_word bytes

-- ---- lines

abbrev pub is_show : PairStep → Bool
is_show (Show kind block level control) = true
is_show other = false

-- how many periods were shown before the step of a place
abbrev pub shown_before : List PairStep → ℕ → ℕ
shown_before steps place = count_by is_show (take place steps)

-- the line of the step of a place
abbrev pub step_line : ℕ → List ℕ → List PairStep → ℕ → List ℕ
step_line client objects steps place =
    codes "j " ++ decimal client ++ codes " " ++ option_map_or (step_words objects (shown_before steps place)) (slice_get steps place) []
    ++ codes "\n"

-- behind them, where there was no room for one more
abbrev pub full_line : ℕ → Bool → List ℕ
full_line client true = codes "j " ++ decimal client ++ codes " full " ++ decimal MAX_KEPT_STEPS ++ codes "\n"
full_line client false = []

-- the oldest step first
abbrev pub journal_text : ℕ → List ℕ → List PairStep → Bool → List ℕ
journal_text client objects steps full = of_each (length steps) (step_line client objects steps) ++ full_line client full

-- ---- an example: the second show begins period 1

three_steps : List PairStep
three_steps = Show 5 0 0 false ∷ Hide 0 ∷ Show 5 0 0 false ∷ []

second_period : shown_before three_steps 2 ≡ 1
unfolding three_steps
second_period = refl
