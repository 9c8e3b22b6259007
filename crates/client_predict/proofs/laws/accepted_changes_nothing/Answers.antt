use Rattle.client_predict.proofs.PredictLogs.{same_value, same_offset}
use Rattle.client_predict.proofs.laws.accepted_changes_nothing.Goals as goal

pub returns : goal.returns
returns c log first rest e = (same_value log first rest e, same_offset log first rest e)
