-- The first line of a relay script, `relay C SPECTATORS`: client C of the match is the relay, and so many spectators look on. How many
-- clients there are is said by the `match` line, the third of the text; where that line is none, C is one that some match has.
use Rattle.std.specs.Prelude.{ℕ, ◌≡◌, List, [], ◌∷◌, if◌then◌else◌, codes, Option, Some, None, Result, Ok, refl}
use Rattle.std.specs.Option.{option_map_or}
use Rattle.tn_types.specs.declared.limits.TheConstants.{MAX_CLIENTS}
use Rattle.match_script.specs.declared.limits.TheConstants.{MIN_VERSION}
use Rattle.match_script.specs.declared.types.ScriptFault.{ScriptFault}
use Rattle.match_script.specs.declared.types.Head.{Head}
use Rattle.match_script.specs.Text.{words_of, is_text}
use Rattle.match_script.specs.Words.{◌>>=◌, number, number_from}
use Rattle.match_script.specs.Lines.{is}
use Rattle.match_script.specs.Header.{without_fault, match_numbers, match_line}
use Rattle.relay_script.specs.declared.types.TheConstants.{MAX_SPECTATORS}
use Rattle.relay_script.specs.declared.asked.Asked.{Asked}

-- what a `match` line says; the version that the line before it names changes none of its numbers
abbrev pub match_in : List ℕ → Option Head
match_in line = if is_text line then match_line MIN_VERSION (words_of line) else None

-- how many clients the lines of a text say there are
abbrev pub clients_named : List (List ℕ) → ℕ
clients_named (first ∷ second ∷ third ∷ lines) = option_map_or (λ head. head.clients) (match_in third) MAX_CLIENTS
clients_named lines = MAX_CLIENTS

unfoldable pub relay_numbers : ℕ → List ℕ → List ℕ → Result Asked ScriptFault
relay_numbers clients c count = do
  client ← number clients c
  spectators ← number_from 1 MAX_SPECTATORS count
  Ok (record { client = client; spectators = spectators })

-- `relay C SPECTATORS`, where there are so many clients
unfoldable pub relay_named : ℕ → List (List ℕ) → Option Asked
relay_named clients (kind ∷ c ∷ count ∷ []) = if is kind (codes "relay") then without_fault (relay_numbers clients c count) else None
relay_named clients words = None

-- ---- examples

the_last_client : relay_named 2 (codes "relay" ∷ codes "1" ∷ codes "16" ∷ []) ≡ Some (record { client = 1; spectators = 16 })
unfolding relay_named relay_numbers number number_from
the_last_client = refl

no_such_client : relay_named 1 (codes "relay" ∷ codes "1" ∷ codes "1" ∷ []) ≡ None
unfolding relay_named relay_numbers number
no_such_client = refl

nobody_looks_on : relay_named 1 (codes "relay" ∷ codes "0" ∷ codes "0" ∷ []) ≡ None
unfolding relay_named relay_numbers number number_from
nobody_looks_on = refl

one_client : clients_named (codes "relay 1 1" ∷ codes "tribes 1" ∷ codes "match 1 1 100 128 1000" ∷ []) ≡ 1
unfolding words_of match_line match_numbers number number_from
one_client = refl

no_match_line : clients_named (codes "relay 1 1" ∷ codes "tribes 1" ∷ codes "match 1 17 100 128 1000" ∷ []) ≡ 16
unfolding words_of match_line match_numbers number number_from
no_match_line = refl
