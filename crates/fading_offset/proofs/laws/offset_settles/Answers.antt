use Rattle.fading_offset.proofs.FadingLogs.{fades}
use Rattle.fading_offset.proofs.laws.offset_settles.Goals as goal

pub returns : goal.returns
returns c most log steps few h = fades most log steps few h
