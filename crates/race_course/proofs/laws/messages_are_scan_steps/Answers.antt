use Rattle.race_course.proofs.ScanSteps.{are_scan_steps}
use Rattle.race_course.proofs.laws.messages_are_scan_steps.Goals as goal

pub returns : goal.returns
returns c = are_scan_steps
