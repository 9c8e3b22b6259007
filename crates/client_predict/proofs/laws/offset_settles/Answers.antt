use Rattle.client_predict.proofs.PredictLogs.{fades}
use Rattle.client_predict.proofs.laws.offset_settles.Goals as goal

pub returns : goal.returns
returns c log moves h = fades log moves h
