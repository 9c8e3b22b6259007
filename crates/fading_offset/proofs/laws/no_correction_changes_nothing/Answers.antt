use Rattle.fading_offset.proofs.FadingLogs.{same_offset}
use Rattle.fading_offset.proofs.laws.no_correction_changes_nothing.Goals as goal

pub returns : goal.returns
returns c most log value = same_offset most log value
