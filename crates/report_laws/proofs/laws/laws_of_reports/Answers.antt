use Rattle.report_laws.proofs.laws.laws_of_reports.Goals as goal

pub returns : goal.returns
returns c = record {
  printed_as_shown = c.printed_as_shown.ensures;
  printed_values = c.printed_values.ensures;
  printed_counts = c.printed_counts.ensures;
  honest_by_lines = c.honest_by_lines.ensures;
  one_holder = c.one_holder.ensures;
  looks_back = c.looks_back.ensures;
  marked_where_settled = c.marked_where_settled.ensures;
  settled_is_last = c.settled_is_last.ensures;
  changes_are_caught = c.changes_are_caught.ensures;
}
