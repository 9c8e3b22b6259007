-- The relay script of a text. Behind the first line stand the lines of a script, and behind their `go` the relay's lines anywhere between
-- them: what is left without these and the first line is the match. Where a text has no relay script, it has a least line that can't
-- stand where it stands, and that line's first fault, as a text without a script has; lines are numbered from 1 in the whole text.
use Rattle.std.specs.Prelude.{ℕ, ◌≡◌, suc, ◌+◌, List, [], ◌∷◌, filter, not, if◌then◌else◌, codes, None, Result, Ok, Err, refl}
use Rattle.match_script.specs.declared.types.ScriptFault.{ScriptFault}
use Rattle.match_script.specs.declared.types.ScriptFault.TheVariants.{UnknownWord}
use Rattle.match_script.specs.declared.line.LineFault.{LineFault}
use Rattle.match_script.specs.declared.line.LineFault.TheVariants.{Faulty, NoMemory}
use Rattle.match_script.specs.declared.types.BodyLine.{BodyLine}
use Rattle.match_script.specs.declared.types.BodyLine.TheVariants.{Tick, World}
use Rattle.match_script.specs.Text.{lines_of, words_of}
use Rattle.match_script.specs.Words.{number}
use Rattle.match_script.specs.Lines.{body_line}
use Rattle.match_script.specs.Script.{Fault, ◌>>=◌, header_words, stands, header, header_length, line_at, body_fault, script_in}
use Rattle.relay_script.specs.declared.types.RelayLine.TheVariants.{Pack, Show}
use Rattle.relay_script.specs.declared.types.PlacedLine.{PlacedLine}
use Rattle.relay_script.specs.declared.types.RelayScript.{RelayScript}
use Rattle.relay_script.specs.declared.asked.Asked.{Asked}
use Rattle.relay_script.specs.declared.entries.Entry.{Entry}
use Rattle.relay_script.specs.declared.entries.Entry.TheVariants.{OfMatch, OfRelay}
use Rattle.relay_script.specs.Asked.{clients_named, relay_named}
use Rattle.relay_script.specs.Lines.{is_relay, pack_line, show_line, relay_line, relay_line_at}

-- ---- the whole body

abbrev pub as_entry : {A : Type 0} → (A → Entry) → Result A ScriptFault → Result Entry ScriptFault
as_entry of (Ok line) = Ok (of line)
as_entry of (Err fault) = Err fault

-- line k of the whole body, counted from 0
unfoldable pub entry_at : ℕ → ℕ → ℕ → List ℕ → Result Entry ScriptFault
entry_at clients spectators k line =
    if is_relay line then as_entry OfRelay (relay_line_at spectators k line)
    else as_entry OfMatch (line_at clients k line)

-- the whole body from line k on, behind line n of the text
unfoldable pub entries_of : ℕ → ℕ → ℕ → ℕ → List (List ℕ) → Result (List Entry) Fault
entries_of clients spectators n k [] = Ok []
entries_of clients spectators n k (line ∷ lines) = do
  first ← body_fault (n + suc k) (entry_at clients spectators k line)
  rest ← entries_of clients spectators n (suc k) lines
  Ok (first ∷ rest)

-- the lines of the match
unfoldable pub match_lines : List Entry → List BodyLine
match_lines [] = []
match_lines (OfMatch line ∷ entries) = line ∷ match_lines entries
match_lines (OfRelay line ∷ entries) = match_lines entries

-- the relay's lines, each with how many of the match stand before it, behind so many
unfoldable pub relay_lines : ℕ → List Entry → List PlacedLine
relay_lines before [] = []
relay_lines before (OfMatch line ∷ entries) = relay_lines (suc before) entries
relay_lines before (OfRelay line ∷ entries) = record { behind = before; line = line } ∷ relay_lines before entries

-- the lines of a whole body by whose they are: the match's, and the relay's
abbrev pub parts_of : Result (List Entry) Fault → Result (List BodyLine × List PlacedLine) Fault
parts_of (Ok entries) = Ok (match_lines entries, relay_lines 0 entries)
parts_of (Err fault) = Err fault

-- what a call gave is what the definitions read of a line, but where memory ran out
abbrev pub GivesEntry : Result Entry LineFault → Result Entry ScriptFault → Type 0
GivesEntry (Ok entry) read = read ≡ Ok entry
GivesEntry (Err (Faulty fault)) read = read ≡ Err fault
GivesEntry (Err NoMemory) read = Unit {0}

-- ---- the whole text

-- what the first line says, and the lines behind it
unfoldable pub asked_in : List (List ℕ) → Result (Asked × List (List ℕ)) Fault
asked_in lines = do
  first ← header_words 1 lines
  asked ← stands 1 (relay_named (clients_named lines) first.0)
  Ok (asked, first.1)

-- what the lines behind the first one are read as, with numbers in the whole text
abbrev pub one_later : {A : Type 0} → Result A Fault → Result A Fault
one_later (Ok x) = Ok x
one_later (Err (n, fault)) = Err (suc n, fault)

-- the relay script of the lines
unfoldable pub relay_script_in : List (List ℕ) → Result RelayScript Fault
relay_script_in lines = do
  asked ← asked_in lines
  begun ← one_later (header asked.1)
  parts ← parts_of (entries_of begun.0.clients asked.0.spectators (suc (header_length begun.0)) 0 begun.1)
  Ok (record {
    client = asked.0.client;
    spectators = asked.0.spectators;
    script = record { head = begun.0; body = parts.0 };
    lines = parts.1;
  })

-- the relay script of a text
abbrev pub relay_script_of : List ℕ → Result RelayScript Fault
relay_script_of text = relay_script_in (lines_of text)

-- what is left of a text without its first line and the relay's lines
abbrev pub left_of : List (List ℕ) → List (List ℕ)
left_of [] = []
left_of (first ∷ lines) = filter (λ line. not (is_relay line)) lines

-- it is a script, and the relay script has it as its match
abbrev pub LeavesItsMatch : List ℕ → RelayScript → Type 0
LeavesItsMatch text relay = script_in None (left_of (lines_of text)) ≡ Ok relay.script

-- ---- examples

abbrev four_entries : List Entry
four_entries = OfRelay (Pack 0) ∷ OfMatch Tick ∷ OfRelay (Show 0) ∷ OfMatch World ∷ []

four_lines : entries_of 1 1 4 0 (codes "r pack 0" ∷ codes "tick" ∷ codes "r show 0" ∷ codes "world" ∷ []) ≡ Ok four_entries
unfolding entries_of entry_at line_at words_of body_line relay_line_at relay_line pack_line show_line number
four_lines = refl

two_of_the_match : match_lines four_entries ≡ Tick ∷ World ∷ []
unfolding match_lines
two_of_the_match = refl

two_of_the_relay : relay_lines 0 four_entries ≡ record { behind = 0; line = Pack 0 } ∷ record { behind = 1; line = Show 0 } ∷ []
unfolding relay_lines
two_of_the_relay = refl

numbers_count_both : entries_of 1 1 4 0 (codes "tick" ∷ codes "r pack 0" ∷ codes "r tick" ∷ codes "what" ∷ []) ≡ Err (7, UnknownWord)
unfolding entries_of entry_at line_at words_of body_line relay_line_at relay_line pack_line number
numbers_count_both = refl
