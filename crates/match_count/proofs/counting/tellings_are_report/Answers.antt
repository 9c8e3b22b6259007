use Rattle.match_count.proofs.Telling.{tellings_written}
use Rattle.match_count.proofs.counting.tellings_are_report.Goals as goal

pub returns : goal.returns
returns c = tellings_written
