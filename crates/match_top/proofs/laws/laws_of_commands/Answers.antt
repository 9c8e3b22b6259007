use Rattle.match_top.proofs.Isolated.{alone_is_of_run}
use Rattle.match_top.proofs.laws.laws_of_commands.Goals as goal

pub returns : goal.returns
returns c = record { matches = c.laws_of_matches.ensures; reports = c.laws_of_reports.ensures; alone = alone_is_of_run c.laws_of_matches.ensures.isolation }
