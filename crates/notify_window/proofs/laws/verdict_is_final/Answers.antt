use Rattle.notify_window.proofs.Verdicts.{fate-later, fate-known, fate-above}
use Rattle.notify_window.proofs.laws.verdict_is_final.Goals as goal

pub returns-clause-same : goal.returns-clause-same
returns-clause-same c = fate-later

pub returns-clause-judged : goal.returns-clause-judged
returns-clause-judged c = fate-known

pub returns-clause-above : goal.returns-clause-above
returns-clause-above c = fate-above
