-- A match and a prediction beside it, after the same lines.
use Rattle.std.specs.Prelude.{ℕ, ◌<◌, List}
use Rattle.match_script.specs.declared.types.BodyLine.{BodyLine}
use Rattle.match_engine.specs.Match.{MatchState, StandsFor}
use Rattle.client_predict.specs.Predicting.{Prediction}
use Rattle.predict_client.specs.Following.{Follows}
use Rattle.predict_laws.specs.predict_lines.Lines.{end_of}

pub record StandBeside (m : MatchState) (p : Prediction) (c : ℕ) (past : List BodyLine) : Type 0 where
  pub lines : StandsFor m past
  pub client : c < m.script.head.clients
  pub follows : Follows p (end_of m.script.head past c)
