-- The script of a text, line by line: the header's lines, which end with `go`, then the body's. Where a text has no
-- script, it has a least line that can't stand where it stands, and that line's first fault.
use Rattle.std.specs.Prelude.{ℕ, pos, ◌≡◌, zero, suc, ◌+◌, List, [], ◌∷◌, ◌++◌, length, Bool, true, false, not, nat_le, if◌then◌else◌, codes, Option, Some, None, Result, Ok, Err, refl}
use Rattle.std.specs.Option.{option_map_or}
use Rattle.match_script.specs.declared.limits.TheConstants.{MAX_BODY_LINES, MAX_THREAD_TICKS}
use Rattle.world_rules.specs.declared.setup.Spawn.{Spawn}
use Rattle.match_script.specs.declared.types.ScriptFault.{ScriptFault}
use Rattle.match_script.specs.declared.types.ScriptFault.TheVariants.{NotText, BadHeader, TooManyLines}
use Rattle.match_script.specs.declared.types.ParseFault.{ParseFault}
use Rattle.match_script.specs.declared.types.ParseFault.TheVariants.{Bad, NoMemory}
use Rattle.match_script.specs.declared.types.BodyLine.{BodyLine}
use Rattle.match_script.specs.declared.types.BodyLine.TheVariants.{Tick}
use Rattle.match_script.specs.declared.types.Head.{Head}
use Rattle.match_script.specs.declared.types.Script.{Script}
use Rattle.match_script.specs.Text.{lines_of, words_of, is_text}
use Rattle.world_rules.specs.declared.kinds.TheConstants.{PLAYER, CLOCK}
use Rattle.match_script.specs.Words.{number, number_from, hex}
use Rattle.match_script.specs.Lines.{body_line, scan_line}
use Rattle.match_script.specs.Header.{version_line, match_line, block_line, is_go, kind_named, placed, player_words, spawn_words, named, object_line}

-- a line, numbered from 1, and its first fault
abbrev pub Fault : Type 0
Fault = ℕ × ScriptFault

-- the next lines are read where these have no fault
infixl 10 ◌>>=◌
abbrev pub ◌>>=◌ : {A B : Type 0} → Result A Fault → (A → Result B Fault) → Result B Fault
(Ok x) >>= f = f x
(Err e) >>= f = Err e

-- the words of a line, whose number in the text is n
unfoldable pub text_line : ℕ → List ℕ → Result (List (List ℕ)) Fault
text_line n line = if is_text line then Ok (words_of line) else Err (n, NotText)

-- the words of the next line, whose number is n, and the lines after it
unfoldable pub header_words : ℕ → List (List ℕ) → Result (List (List ℕ) × List (List ℕ)) Fault
header_words n [] = Err (n, BadHeader)
header_words n (line ∷ lines) = do
  words ← text_line n line
  Ok (words, lines)

-- what line n of the header says, where it may stand there
abbrev pub stands : {A : Type 0} → ℕ → Option A → Result A Fault
stands n (Some x) = Ok x
stands n None = Err (n, BadHeader)

-- block k of the script, if this line gives one
unfoldable pub block_in : ℕ → List ℕ → Option (List ℕ)
block_in k line = if is_text line then block_line k (words_of line) else None

abbrev pub with_block : List ℕ → List (List ℕ) × List (List ℕ) → List (List ℕ) × List (List ℕ)
with_block block rest = (block ∷ rest.0, rest.1)

-- the blocks from block k on, up to the first line that gives none, and the lines from that one on
unfoldable pub blocks_of : ℕ → List (List ℕ) → List (List ℕ) × List (List ℕ)
blocks_of k [] = ([], [])
blocks_of k (line ∷ lines) = option_map_or (λ block. with_block block (blocks_of (suc k) lines)) (block_in k line) ([], line ∷ lines)

-- the objects behind these, of which the line of the next is line n, up to the line `go`, and the lines after that
unfoldable pub objects_of : ℕ → ℕ → ℕ → List Spawn → List (List ℕ) → Result (List Spawn × List (List ℕ)) Fault
objects_of clients blocks n before [] = Err (n, BadHeader)
objects_of clients blocks n before (line ∷ lines) = do
  words ← text_line n line
  if is_go words then Ok ([], lines) else do
    object ← stands n (object_line clients blocks before words)
    rest ← objects_of clients blocks (suc n) (before ++ object ∷ []) lines
    Ok (object ∷ rest.0, rest.1)

abbrev pub with_objects : Head → List (List ℕ) → List Spawn → Head
with_objects head blocks spawns = record {
  version = head.version;
  seed = head.seed;
  clients = head.clients;
  life = head.life;
  size = head.size;
  radius = head.radius;
  blocks = blocks;
  setup = record { clients = head.clients; radius = head.radius; spawns = spawns };
}

-- the header that the first two lines of it begin, and the lines after those
unfoldable pub opening : List (List ℕ) → Result (Head × List (List ℕ)) Fault
opening lines = do
  first ← header_words 1 lines
  version ← stands 1 (version_line first.0)
  second ← header_words 2 first.1
  head ← stands 2 (match_line version second.0)
  Ok (head, second.1)

-- the header of the lines, and the lines after it
unfoldable pub header : List (List ℕ) → Result (Head × List (List ℕ)) Fault
header lines = do
  opened ← opening lines
  objects ← objects_of opened.0.clients (length (blocks_of 0 opened.1).0) (3 + length (blocks_of 0 opened.1).0) [] (blocks_of 0 opened.1).1
  Ok (with_objects opened.0 (blocks_of 0 opened.1).0 objects.0, objects.1)

-- how many lines a header is: `tribes`, `match`, the blocks, the objects and `go`
abbrev pub header_length : Head → ℕ
header_length head = 3 + length head.blocks + length head.setup.spawns

-- line k of the body, counted from 0
unfoldable pub line_at : ℕ → ℕ → List ℕ → Result BodyLine ScriptFault
line_at clients k line =
    if not (is_text line) then Err NotText
    else if nat_le MAX_BODY_LINES k then Err TooManyLines
    else body_line clients (words_of line)

-- where no more ticks may come, a tick may not; None: any number may come
abbrev pub may_come : Option ℕ → BodyLine → Bool
may_come (Some zero) Tick = false
may_come ticks line = true

-- how many ticks may come behind a line
abbrev pub ticks_behind : Option ℕ → BodyLine → Option ℕ
ticks_behind (Some (suc n)) Tick = Some n
ticks_behind ticks line = ticks

-- a tick that may not come is a line too many
abbrev pub limited : Option ℕ → Result BodyLine ScriptFault → Result BodyLine ScriptFault
limited ticks (Ok line) = if may_come ticks line then Ok line else Err TooManyLines
limited ticks (Err fault) = Err fault

-- what a line of the body says, whose number in the text is n
abbrev pub body_fault : {A : Type 0} → ℕ → Result A ScriptFault → Result A Fault
body_fault n (Ok line) = Ok line
body_fault n (Err fault) = Err (n, fault)

-- the lines of a body from line k on, behind line n of the text, where so many ticks may come
unfoldable pub body_of : Option ℕ → ℕ → ℕ → ℕ → List (List ℕ) → Result (List BodyLine) Fault
body_of ticks clients n k [] = Ok []
body_of ticks clients n k (line ∷ lines) = do
  first ← body_fault (n + suc k) (limited ticks (line_at clients k line))
  rest ← body_of (ticks_behind ticks first) clients n (suc k) lines
  Ok (first ∷ rest)

-- the script of the lines, where so many ticks may come
unfoldable pub script_in : Option ℕ → List (List ℕ) → Result Script Fault
script_in ticks lines = do
  begun ← header lines
  body ← body_of ticks begun.0.clients (header_length begun.0) 0 begun.1
  Ok (record { head = begun.0; body = body })

-- the script of a text
abbrev pub script_of : List ℕ → Result Script Fault
script_of text = script_in None (lines_of text)

-- the script of a text for a match in threads
abbrev pub threads_script_of : List ℕ → Result Script Fault
threads_script_of text = script_in (Some MAX_THREAD_TICKS) (lines_of text)

-- what a call gave is what the definitions read, but where memory ran out
abbrev pub Gives : {X Y : Type 0} → (X → Y) → Result X ParseFault → Result Y Fault → Type 0
Gives view (Ok x) read = read ≡ Ok (view x)
Gives view (Err (Bad line fault)) read = read ≡ Err (line, fault)
Gives view (Err NoMemory) read = Unit {0}

two_blocks : blocks_of 0 (codes "block -" ∷ codes "block -" ∷ codes "go" ∷ codes "pack 0" ∷ []) ≡ ([] ∷ [] ∷ [], codes "go" ∷ codes "pack 0" ∷ [])
unfolding blocks_of block_in words_of block_line hex
two_blocks = refl

two_objects : objects_of 1 1 4 [] (codes "player 0 0 1 5 6" ∷ codes "spawn clock 0 0 0 0" ∷ codes "go" ∷ codes "tick" ∷ [])
    ≡ Ok (
      record { kind = PLAYER; block = 0; team = 1; x = pos 5; y = pos 6; owner = Some 0 }
          ∷ record { kind = CLOCK; block = 0; team = 0; x = pos 0; y = pos 0; owner = None } ∷ [],
      codes "tick" ∷ [],
    )
unfolding objects_of text_line words_of is_go named player_words spawn_words kind_named placed number number_from
two_objects = refl

-- where two ticks may come, the third is a line too many
third_tick : body_of (Some 2) 1 3 0 (codes "tick" ∷ codes "scan 0" ∷ codes "tick" ∷ codes "tick" ∷ []) ≡ Err (7, TooManyLines)
unfolding body_of line_at words_of body_line scan_line number
third_tick = refl
