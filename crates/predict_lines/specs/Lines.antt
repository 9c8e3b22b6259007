-- What `predict C` writes for a script: for each line `show C` what a prediction of client C's player has after the lines before it,
-- where it was told what happened at that client's end. The end's list of what happened decides, and nothing else.
use Rattle.std.specs.Prelude.{ℕ, ℤ, ◌==◌, nat_lt, Bool, false, List, [], ◌∷◌, ◌++◌, reverse, if◌then◌else◌, Option, Some, None, codes}
use Rattle.std.specs.Fmt.{decimal, signed_decimal}
use Rattle.match_script.specs.declared.types.BodyLine.{BodyLine}
use Rattle.match_script.specs.declared.types.BodyLine.TheVariants.{Show}
use Rattle.match_script.specs.declared.types.Head.{Head}
use Rattle.match_script.specs.declared.types.Script.{Script}
use Rattle.match_laws.specs.pair_core.History.{history}
use Rattle.own_lists.specs.Past.{client_terms, kept_by, after}
use Rattle.match_laws.specs.pair_core.stream_manager.Client.{ClientEvent}
use Rattle.client_predict.specs.Predicting.{PredictEvent, value_of, offset_of}
use Rattle.predict_client.specs.Following.{predict_log}

-- what happened at a client's end in these lines, the newest first
abbrev pub end_of : Head → List BodyLine → ℕ → List ClientEvent
end_of head past c = (history (client_terms head c) (kept_by head (after head past) c).course.steps).client

-- what a prediction of its player was told by then
abbrev pub told_of : Head → List BodyLine → ℕ → List PredictEvent
told_of head past c = predict_log (end_of head past c)

-- ---- the text

-- a number behind a space
abbrev pub number_word : ℤ → List ℕ
number_word n = codes " " ++ signed_decimal n

-- where the player is predicted, and his ammo
abbrev pub place_words : (ℤ × ℤ × ℤ) → List ℕ
place_words at = number_word at.0 ++ number_word at.1 ++ number_word at.2

-- how far from there he is shown, each way, up to the line's end
abbrev pub offset_words : (ℤ × ℤ) → List ℕ
offset_words offset = number_word offset.0 ++ number_word offset.1 ++ codes "\n"

abbrev pub value_words : Option (ℤ × ℤ × ℤ) → (ℤ × ℤ) → List ℕ
value_words None offset = codes " -\n"
value_words (Some at) offset = place_words at ++ offset_words offset

-- the line of a prediction
abbrev pub prediction_line : ℕ → Option (ℤ × ℤ × ℤ) → (ℤ × ℤ) → List ℕ
prediction_line c value offset = codes "predict " ++ decimal c ++ value_words value offset

-- ---- which lines

abbrev pub is_show : ℕ → BodyLine → Bool
is_show c (Show d) = d == c
is_show c line = false

-- what is written for a line after these
abbrev pub predicted_at : Head → ℕ → List BodyLine → BodyLine → List ℕ
predicted_at head c past line =
    if is_show c line then prediction_line c (value_of (told_of head past c)) (offset_of (told_of head past c)) else []

abbrev pub predicted_so_far : Head → ℕ → List BodyLine → List ℕ
predicted_so_far head c [] = []
predicted_so_far head c (line ∷ past) = predicted_so_far head c past ++ predicted_at head c past line

-- the whole text; none where the match has no such client
unfoldable pub predicted : Script → ℕ → List ℕ
predicted s c = if nat_lt c s.head.clients then predicted_so_far s.head c (reverse s.body) else []
