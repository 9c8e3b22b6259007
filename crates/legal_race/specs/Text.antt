-- The text of a race: the values of each field by version; the moves that each tick took; what each client's connection kept; the mask
-- words that aren't 0 at the end; and what each client has.
use Rattle.std.specs.Prelude.{ℕ, List, [], ◌++◌, length, slice_get}
use Rattle.std.specs.Option.{option_map_or}
use Rattle.match_script.specs.declared.types.Script.{Script}
use Rattle.race_text.specs.Text.{of_each, history_text, moves_text, masks_text}
use Rattle.race_text.specs.Journal.{journal_text}
use Rattle.race_text.specs.Showing.{show_line}
use Rattle.race_history.specs.declared.race.Race.{Race}
use Rattle.race_history.specs.declared.race.RaceClient.{RaceClient}

-- what is told of the client of this number
abbrev pub of_client : Race → (RaceClient → List ℕ) → ℕ → List ℕ
of_client race text c = option_map_or text (slice_get race.clients c) []

abbrev pub journal_of : Race → ℕ → List ℕ
journal_of race c = of_client race (λ client. journal_text c client.objects client.pair.steps client.full) c

abbrev pub show_of : Race → ℕ → List ℕ
show_of race c = of_client race (λ client. show_line c client.pair client.objects race.words race.moves) c

abbrev pub race_text : Script → Race → List ℕ
race_text script race =
    history_text race.values ++ moves_text race.moves ++ of_each (length race.clients) (journal_of race)
    ++ masks_text race.words script.head.clients (length race.values) ++ of_each (length race.clients) (show_of race)
