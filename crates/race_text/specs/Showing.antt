-- What a client has at the end of a race, as the report's line for it. What stands in a mask word at the end was written and not
-- drained, so such a field of the period of its object isn't settled.
use Rattle.std.specs.Prelude.{◌≡◌, refl, ℕ, false, nat_lt, List, [], ◌∷◌, length, map, slice_get, if◌then◌else◌, Option, Some, None}
use Rattle.tn_types.specs.declared.choices.Drain.{Drain}
use Rattle.tn_types.specs.declared.moves.MoveBits.{MoveBits}
use Rattle.dirty_lanes.specs.Words.{Words, mask_at}
use Rattle.ghost_model.specs.Words.{upto}
use Rattle.stream_manager.specs.Limits.{Terms}
use Rattle.pair_core.specs.History.{PairStep, Show, Hide}
use Rattle.pair_periods.specs.pair_steps.Steps.{up_in}
use Rattle.kept_pair.specs.Kept.{KeptState, terms_in, newest_first}
use Rattle.match_report.specs.declared.told.Told.{Told}
use Rattle.match_report.specs.Text.{report_line}
use Rattle.client_seat.specs.Told.{show_told}
use Rattle.race_history.specs.Moves.{moves_taken}

-- the mask word of an object for a client; 0 where there is no such object
abbrev pub word_of : Words → ℕ → Option ℕ → ℕ
word_of words client None = 0
word_of words client (Some object) = if nat_lt object words.objects then mask_at words client object else 0

-- a period, and the word of its object
abbrev pub left_of : Words → ℕ → List ℕ → ℕ → Drain
left_of words client objects n = record { n = n; bits = word_of words client (slice_get objects n) }

-- the periods that are shown and not hidden, each with the word of its object
abbrev pub left_over : Words → ℕ → List ℕ → List PairStep → List Drain
left_over words client objects steps = map (left_of words client objects) (up_in steps)

-- what is told of a client after these steps, the newest first, where ticks took so many of its moves
abbrev pub told_at_end : Terms → List PairStep → ℕ → ℕ → List ℕ → Words → Told
told_at_end t steps client taken objects words =
    show_told t (record { steps = steps; taken = taken }) client (left_over words client objects steps)

abbrev pub show_line : ℕ → KeptState → List ℕ → Words → List (List (Option MoveBits)) → List ℕ
show_line client kept objects words ticks =
    report_line (told_at_end (terms_in kept) (newest_first kept.steps) client (length (moves_taken client ticks)) objects words)

-- ---- an example: period 0 was hidden, and period 1 is up; there is no object

no_words : Words
no_words = record { objects = 0; clients = 0; words = [] }

one_is_left : left_over no_words 0 (7 ∷ 8 ∷ []) (Hide 0 ∷ Show 5 0 0 false ∷ Show 5 0 0 false ∷ []) ≡ record { n = 1; bits = 0 } ∷ []
unfolding no_words upto
one_is_left = refl
