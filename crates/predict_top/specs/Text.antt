-- The command `predict C`: it reads a script, and writes the lines of the prediction of client C's player.
use Rattle.std.specs.Prelude.{ℕ, ◌≡◌}
use Rattle.match_script.specs.Ranges.{HasRanges}
use Rattle.match_script.specs.Script.{script_of}
use Rattle.script_input.specs.Outcome.{Row, of_script}
use Rattle.client_predict.specs.Laws.{AcceptedChangesNothing, OffsetSettles}
use Rattle.predict_match.specs.predict_laws.Promise.{ValueIsServers}
use Rattle.predict_match.specs.predict_lines.Lines.{predicted}

abbrev pub prediction_of : ℕ → Row
prediction_of client = of_script script_of HasRanges (λ script text. text ≡ predicted script client)

-- what a prediction keeps
pub record PredictionLaws : Type 0 where
  -- a packet that tells what was predicted changes nothing, and what is left of a correction is gone after 22 samples
  pub accepted_changes_nothing : AcceptedChangesNothing
  pub offset_settles : OffsetSettles
  -- the server has the x, y and ammo that an honest client predicts, where the last packet told what the server had, no accepted move
  -- waited at its pack, the player stood since, and all sampled moves are taken
  pub value_is_servers : ValueIsServers
