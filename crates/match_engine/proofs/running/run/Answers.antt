use Rattle.match_engine.proofs.running.run.Goals as goal

pub returns : goal.returns
returns g c = record {
  report = c.write_report.ensures.report;
  front = c.write_report.ensures.front;
  cause = c.write_report.ensures.cause;
  laws = c.laws_of_matches.ensures;
}
