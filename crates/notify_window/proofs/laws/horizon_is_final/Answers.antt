use Rattle.notify_window.proofs.Horizons.{processed-later, processed-above}
use Rattle.notify_window.proofs.laws.horizon_is_final.Goals as goal

pub returns-clause-same : goal.returns-clause-same
returns-clause-same c = processed-later

pub returns-clause-above : goal.returns-clause-above
returns-clause-above c = processed-above
